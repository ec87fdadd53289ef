-- The divisor of a row with a positive denominator is positive, and at most the denominator.
use Rattle.std.proofs.Common.{◌≡◌, sym, ap, ◌∙◌, map, pos, arith}
use Rattle.std.specs.Int.Signed.{quot_z}
use Rattle.tableau.specs.Rows.{divisor, divide_row, reduce_row}
use Rattle.tableau.proofs.Lines.{row-divisor, signed_of, positive, map-quot-one}
use Rattle.tableau.proofs.row.reduce_by.Goals as goal

pub overflow_cast-g : goal.overflow_cast-g
overflow_cast-g c =
    let d = row-divisor c.args.r.now c.requires.pos_bound in
    record { sfits = omega (arith, (c.requires.small 0).size) }

pub divide-requires-clause-pos_bound : goal.divide-requires-clause-pos_bound
divide-requires-clause-pos_bound c =
    let d = row-divisor c.args.r.now c.requires.pos_bound in
    rw (signed_of _ (divisor c.args.r.now) c.requires.g_value (omega (arith, (c.requires.small 0).size))) (positive _ d.0)

pub returns-then-g-gt1 : goal.returns-then-g-gt1
unfolding reduce_row divide_row
returns-then-g-gt1 c =
    let d = row-divisor c.args.r.now c.requires.pos_bound in
    let e = signed_of _ (divisor c.args.r.now) c.requires.g_value (omega (arith, (c.requires.small 0).size)) in
    c.divide.ensures ∙ ap (λ z. map (λ x. quot_z x z) c.args.r.now) e

pub returns-else-g-gt1 : goal.returns-else-g-gt1
unfolding reduce_row divide_row
returns-else-g-gt1 c =
    let d = row-divisor c.args.r.now c.requires.pos_bound in
    let e : divisor c.args.r.now ≡ 1 = omega arith in
    sym (ap (λ n. map (λ x. quot_z x (pos n)) c.args.r.now) e ∙ map-quot-one c.args.r.now)
