use mathlib.Core.Path.{◌≡◌, sym, ap₂, ◌∙◌, subst}
use native.Mathlib.Omega.{arith}
use lib.IntN.{◌+ℤ◌}
use mir.Syntax.{w64}
use mir.Val.{to_z, of_z}
use Rattle.integers.specs.Z.{Within}
use Rattle.integers.specs.Mach.{to_z_of_z, result_is}
use Rattle.integers.specs.Size.{within-fits}
use Rattle.codec.specs.Bytes.{axes_in}
use Rattle.bounds.proofs.Extremes.{end-within}
use Rattle.bounds.proofs.Moves.{gain-back}
use borrow.Author.Rules.{rules}
use Rattle.bounds.proofs.ends.end_at.Statement.{statement}
use Rattle.bounds.proofs.ends.end_at.Tie as tie

s32-at-requires : tie.Need-s32_at-c-requires
s32-at-requires c κs = search rules

moved-requires : tie.Need-moved-requires
moved-requires c κs = search rules

sum_is : (c : tie.After-moved) → to_z w64 (of_z w64 c.before.s32_at-c.result) +ℤ to_z w64 (of_z w64 c.moved.result) ≡ c.before.s32_at-c.result +ℤ c.moved.result
sum_is c = ap₂ ◌+ℤ◌ (result_is w64 c.before.s32_at-c.result c.before.s32_at-c.type_inv) (result_is w64 c.moved.result c.moved.type_inv)

add-result : tie.Need-overflow_add-result
add-result c = rw (sum_is c) (within-fits (omega arith) (end-within c.before.s32_at-c.ensures.1 c.moved.ensures.1))

returns : tie.Need-returns
returns c =
    let st = c.before.before.before in
    let e = to_z_of_z (add-result c) ∙ sum_is c in
    (e ∙ ap₂ ◌+ℤ◌ c.before.s32_at-c.ensures.0 (c.moved.ensures.0 ∙ gain-back st.args.k (axes_in st.args.t.now) st.ranges.z st.ranges.from st.ranges.to), subst (Within 549755813888) (sym e) (end-within c.before.s32_at-c.ensures.1 c.moved.ensures.1))

pub end_at_spec : {M : Type 1} → statement M
end_at_spec = tie.close (tie.spec s32-at-requires moved-requires add-result returns)
