-- `extremes::value::fraction` meets its contract. Assumes nothing.
use borrow.Author.Rules.{rules}
use Rattle.extremes.proofs.Fractions.{divisor-positive, fraction-is}
use Rattle.extremes.proofs.value.fraction.Statement.{statement}
use Rattle.extremes.proofs.value.fraction.Tie as tie

-- where the constant and the denominator are read, from where their divisor is known
abbrev constant : tie.After-gcd-g → tie.After-cell_at-c
constant c = c.before.before.before.before

abbrev denominator : tie.After-gcd-g → tie.After-cell_at-d
denominator c = c.before.before.before

cell-at-requires : tie.Need-cell_at-c-requires
cell-at-requires c κs = search rules

cell-at-requires-2 : tie.Need-cell_at-d-requires
cell-at-requires-2 c κs = search rules

gcd-requires : tie.Need-gcd-g-requires
gcd-requires c κs = search rules

quotient-requires : tie.Need-quotient-numerator-requires
quotient-requires c κs =
    let p = (constant c).before.requires in
    let x = (constant c).cell_at-c in
    let d = (denominator c).cell_at-d in
    (x.ensures.1, divisor-positive x.result d.result _ _ d.ensures.0 p.1 c.gcd-g.ensures)

quotient-requires-2 : tie.Need-quotient-q-requires
quotient-requires-2 c κs =
    let g = c.before in
    let p = (constant g).before.requires in
    let d = (denominator g).cell_at-d in
    (d.ensures.1, divisor-positive (constant g).cell_at-c.result d.result _ _ d.ensures.0 p.1 g.gcd-g.ensures)

returns : tie.Need-returns
returns c =
    let q = c.before in
    let x = q.before in
    let g = x.before in
    fraction-is _ (constant g).cell_at-c.result (denominator g).cell_at-d.result g.gcd-g.result (constant g).cell_at-c.ensures.0 (denominator g).cell_at-d.ensures.0 g.gcd-g.ensures x.quotient-numerator.result q.quotient-q.result x.quotient-numerator.ensures.0 q.quotient-q.ensures.0

pub fraction_spec : {M : Type 1} → statement M
fraction_spec =
    tie.close
    (tie.spec
    cell-at-requires
    cell-at-requires-2
    gcd-requires
    quotient-requires
    quotient-requires-2
    returns)
