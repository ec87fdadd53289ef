use mathlib.Core.Path.{refl, ◌∙◌}
use mathlib.Core.List.{[], ◌∷◌}
use lib.ListN.{take, drop}
use mir.Syntax.{w16}
use Rattle.integers.specs.Mach.{result_is}
use Rattle.codec.specs.Bytes.{value_of, signed}
use Rattle.records.proofs.Filling.{eight}
use borrow.Author.Rules.{rules}
use Rattle.records.proofs.decoding.coefficients.Statement.{statement}
use Rattle.records.proofs.decoding.coefficients.Tie as tie

i16-at-requires : tie.Need-i16_at-requires
i16-at-requires c κs = search rules

add-i16-at : tie.Need-overflow_add-p
add-i16-at c = search rules

i16-at-requires-2 : tie.Need-i16_at-requires-2
i16-at-requires-2 c κs = search rules

add-i16-at-2 : tie.Need-overflow_add-p-2
add-i16-at-2 c = search rules

i16-at-requires-3 : tie.Need-i16_at-requires-3
i16-at-requires-3 c κs = search rules

add-i16-at-3 : tie.Need-overflow_add-p-3
add-i16-at-3 c = search rules

i16-at-requires-4 : tie.Need-i16_at-requires-4
i16-at-requires-4 c κs = search rules

add-i16-at-4 : tie.Need-overflow_add-p-4
add-i16-at-4 c = search rules

i16-at-requires-5 : tie.Need-i16_at-requires-5
i16-at-requires-5 c κs = search rules

add-i16-at-5 : tie.Need-overflow_add-p-5
add-i16-at-5 c = search rules

i16-at-requires-6 : tie.Need-i16_at-requires-6
i16-at-requires-6 c κs = search rules

add-i16-at-6 : tie.Need-overflow_add-p-6
add-i16-at-6 c = search rules

i16-at-requires-7 : tie.Need-i16_at-requires-7
i16-at-requires-7 c κs = search rules

add-i16-at-7 : tie.Need-overflow_add-p-7
add-i16-at-7 c = search rules

i16-at-requires-8 : tie.Need-i16_at-requires-8
i16-at-requires-8 c κs = search rules

returns : tie.Need-returns
returns c = let e0 = result_is w16 c.before.before.before.before.before.before.before.i16_at.result c.before.before.before.before.before.before.before.i16_at.type_inv ∙ c.before.before.before.before.before.before.before.i16_at.ensures in let e1 = result_is w16 c.before.before.before.before.before.before.i16_at-2.result c.before.before.before.before.before.before.i16_at-2.type_inv ∙ c.before.before.before.before.before.before.i16_at-2.ensures in let e2 = result_is w16 c.before.before.before.before.before.i16_at-3.result c.before.before.before.before.before.i16_at-3.type_inv ∙ c.before.before.before.before.before.i16_at-3.ensures in let e3 = result_is w16 c.before.before.before.before.i16_at-4.result c.before.before.before.before.i16_at-4.type_inv ∙ c.before.before.before.before.i16_at-4.ensures in let e4 = result_is w16 c.before.before.before.i16_at-5.result c.before.before.before.i16_at-5.type_inv ∙ c.before.before.before.i16_at-5.ensures in let e5 = result_is w16 c.before.before.i16_at-6.result c.before.before.i16_at-6.type_inv ∙ c.before.before.i16_at-6.ensures in let e6 = result_is w16 c.before.i16_at-7.result c.before.i16_at-7.type_inv ∙ c.before.i16_at-7.ensures in let e7 = result_is w16 c.i16_at-8.result c.i16_at-8.type_inv ∙ c.i16_at-8.ensures in let st = c.before.before.before.before.before.before.before.before.before in (λ i. e0 i ∷ e1 i ∷ e2 i ∷ e3 i ∷ e4 i ∷ e5 i ∷ e6 i ∷ e7 i ∷ []) ∙ eight st.args.t.now st.args.p (λ q. signed 2 (value_of (take 2 (drop q st.args.t.now)))) (λ q. refl)

pub coefficients_spec : {M : Type 1} → statement M
coefficients_spec =
    tie.close
    (tie.spec
    i16-at-requires
    add-i16-at
    i16-at-requires-2
    add-i16-at-2
    i16-at-requires-3
    add-i16-at-3
    i16-at-requires-4
    add-i16-at-4
    i16-at-requires-5
    add-i16-at-5
    i16-at-requires-6
    add-i16-at-6
    i16-at-requires-7
    add-i16-at-7
    i16-at-requires-8
    returns)
