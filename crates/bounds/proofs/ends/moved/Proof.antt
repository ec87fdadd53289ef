use mathlib.Core.Path.{◌≡◌, sym, ap, ap₂, ◌∙◌, subst}
use mathlib.Core.Bool.{cond}
use native.Mathlib.Omega.{arith}
use lib.IntN.{ℤ, ◌+ℤ◌, ◌*ℤ◌}
use lib.Signed.{non_neg}
use mir.Syntax.{w64}
use mir.Val.{to_z, of_z}
use Rattle.integers.specs.Z.{Within}
use Rattle.integers.specs.Mach.{to_z_of_z, result_is}
use Rattle.integers.specs.Size.{within-mono, within-fits}
use Rattle.codec.specs.Bytes.{axes_place}
use Rattle.bounds.proofs.Extremes.{back-within, step_fits, axis-at}
use borrow.Author.Rules.{rules}
use Rattle.bounds.proofs.ends.moved.Statement.{statement}
use Rattle.bounds.proofs.ends.moved.Tie as tie

mul-s16-at : tie.Need-overflow_mul-k
mul-s16-at c = search rules

add-s16-at : tie.Need-overflow_add-k
add-s16-at c = search rules

s16-at-requires : tie.Need-s16_at-requires
s16-at-requires c κs = search rules

term-requires : tie.Need-term-requires
term-requires c κs =
    let p = c.before.before.requires.1 in
    (back-within (omega arith) c.s16_at.ensures.1, back-within (omega arith) (within-mono (omega arith) p.from_size), back-within (omega arith) (within-mono (omega arith) p.to_size))

sum_is : (c : tie.After-term) → let st = c.before.before.before in
    to_z w64 (of_z w64 st.args.z) +ℤ to_z w64 (of_z w64 c.term.result) ≡ st.args.z +ℤ c.before.s16_at.result *ℤ cond (non_neg c.before.s16_at.result) st.args.from st.args.to
sum_is c =
    let st = c.before.before.before in
    ap₂ ◌+ℤ◌ (to_z_of_z st.ranges.z)
    (result_is w64 c.term.result c.term.type_inv ∙ c.term.ensures ∙ rw (result_is w64 c.before.s16_at.result c.before.s16_at.type_inv, to_z_of_z st.ranges.from, to_z_of_z st.ranges.to))

sum-size : (c : tie.After-term) → let st = c.before.before.before in
    Within 343597383680 (st.args.z +ℤ c.before.s16_at.result *ℤ cond (non_neg c.before.s16_at.result) st.args.from st.args.to)
sum-size c = let st = c.before.before.before in let p = st.requires.1 in step_fits st.requires.2 c.before.s16_at.ensures.1 p.from_size p.to_size

add-result : tie.Need-overflow_add-result
add-result c = rw (sum_is c) (within-fits (omega arith) (sum-size c))

returns : tie.Need-returns
returns c =
    let st = c.before.before.before in let p = st.requires.1 in
    let e = to_z_of_z (add-result c) ∙ sum_is c in
    (e ∙ ap (λ (y : ℤ). st.args.z +ℤ y *ℤ cond (non_neg y) st.args.from st.args.to) (c.before.s16_at.ensures.0 ∙ sym (axis-at st.args.t.now axes_place st.args.k p.axis)), subst (Within 343597383680) (sym e) (sum-size c))

pub moved_spec : {M : Type 1} → statement M
moved_spec = tie.close (tie.spec mul-s16-at add-s16-at s16-at-requires term-requires add-result returns)
