use mathlib.Core.Path.{sym, ap₂, ◌∙◌}
use lib.IntN.{◌+ℤ◌}
use mir.Syntax.{w64}
use Rattle.integers.specs.Mach.{to_z_of_z, result_is}
use Rattle.model.specs.Sets.{dot}
use Rattle.codec.specs.Bytes.{constant_in, axes_in, divisions_in}
use Rattle.query.proofs.Reading.{dots-fit, value-fits, value-one}
use borrow.Author.Rules.{rules}
use Rattle.query.proofs.values.value_at.Statement.{statement}
use Rattle.query.proofs.values.value_at.Tie as tie

dot-at-requires : tie.Need-dot_at-requires
dot-at-requires c κs = search rules

dot-at-requires-2 : tie.Need-dot_at-requires-2
dot-at-requires-2 c κs = search rules

add_a : tie.Need-overflow_add-a
add_a c = let st = c.before.before.before in rw (result_is w64 c.before.dot_at.result c.before.dot_at.type_inv, result_is w64 c.dot_at-2.result c.dot_at-2.type_inv) (dots-fit (c.before.dot_at.ensures.1 549755813888 st.requires.3) (c.dot_at-2.ensures.1 549755813888 st.requires.4))

s32-at-requires : tie.Need-s32_at-requires
s32-at-requires c κs = search rules

add-result : tie.Need-overflow_add-result
add-result c = let st = c.before.before.before.before in rw (to_z_of_z (add_a c.before), result_is w64 c.s32_at.result c.s32_at.type_inv, result_is w64 c.before.before.dot_at.result c.before.before.dot_at.type_inv, result_is w64 c.before.dot_at-2.result c.before.dot_at-2.type_inv) (value-fits c.s32_at.ensures.1 (c.before.before.dot_at.ensures.1 549755813888 st.requires.3) (c.before.dot_at-2.ensures.1 549755813888 st.requires.4))

returns : tie.Need-returns
returns c k =
    let s = c in let d2 = s.before in let d1 = d2.before in let st = d1.before.before in
    let t = st.args.t.now in let x = st.args.x.now in let q = st.args.q.now in
    to_z_of_z (add-result s)
    ∙ ap₂ ◌+ℤ◌ (result_is w64 s.s32_at.result s.s32_at.type_inv ∙ s.s32_at.ensures.0)
    (to_z_of_z (add_a d2) ∙ ap₂ ◌+ℤ◌ (result_is w64 d1.dot_at.result d1.dot_at.type_inv ∙ d1.dot_at.ensures.0) (result_is w64 d2.dot_at-2.result d2.dot_at-2.type_inv ∙ d2.dot_at-2.ensures.0))
    ∙ sym (value-one (constant_in t) (dot (axes_in t) x +ℤ dot (divisions_in t) q))

pub value_at_spec : {M : Type 1} → statement M
value_at_spec = tie.close (tie.spec dot-at-requires dot-at-requires-2 add_a s32-at-requires add-result returns)
