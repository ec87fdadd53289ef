-- `climbing::stops::under` meets its contract. Assumes nothing.
use mathlib.Core.Path.{sym, ap, ◌∙◌}
use mathlib.Core.List.{List}
use native.Mathlib.Omega.{arith}
use borrow.Author.Rules.{rules}
use lib.IntN.{ℤ, pos, nat_abs}
use lib.ListN.{get_or}
use Rattle.wide.specs.Wide.{size}
use Rattle.wide.proofs.Signs.{nat_abs-signed}
use Rattle.tableau.specs.Rows as R
use Rattle.wide_tableau.proofs.Sheets.{rows_at}
use Rattle.climbing.proofs.stops.under.Statement.{statement}
use Rattle.climbing.proofs.stops.under.Tie as tie

mul-i : tie.Need-offset_bounds-place-v
mul-i c = search rules

shared-slice-read-i : tie.Need-bounds-place-v
shared-slice-read-i c = search rules

mul-cell-at : tie.Need-offset_bounds-t-i
mul-cell-at c = search rules

shared-slice-element-cell-at : tie.Need-bounds-t-i
shared-slice-element-cell-at c = search rules

add-cell-at : tie.Need-overflow_add-j
add-cell-at c = search rules

cell-at-requires : tie.Need-cell_at-e-requires
cell-at-requires c κs = let s = c.before.before in (s.requires.0.at _ s.requires.2, omega (arith, s.requires.3))

returns : tie.Need-returns
returns c =
    let e = c.before in let s = e.before.before.before in let x = e.cell_at-e.result in
    ap pos (
    sym (nat_abs-signed x.neg (size x.magnitude)) ∙ ap nat_abs e.cell_at-e.ensures.0
    ∙ ap (λ (r : List ℤ). nat_abs (R.entry r s.args.j)) (sym (rows_at s.args.t.now (get_or s.args.place.now s.args.v 0))))

pub under_spec : {M : Type 1} → statement M
under_spec =
    tie.close
    (tie.spec
    mul-i
    shared-slice-read-i
    mul-cell-at
    shared-slice-element-cell-at
    add-cell-at
    cell-at-requires
    returns)
