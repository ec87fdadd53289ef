-- `climbing::climb::fits` meets its contract. Assumes nothing.
use mathlib.Core.Path.{sym, ap, ◌∙◌}
use mathlib.Core.Bool.{Bool, ◌&&◌}
use borrow.Author.Rules.{rules}
use Rattle.integers.specs.Size.{bound}
use Rattle.tableau.specs.Rows as R
use Rattle.wide_tableau.specs.Cells.{cells}
use Rattle.climbing.proofs.climb.fits.Statement.{statement}
use Rattle.climbing.proofs.climb.fits.Tie as tie

narrow-requires : tie.Need-narrow-requires
narrow-requires c κs = search rules

row-narrow-requires : tie.Need-row_narrow-requires
row-narrow-requires c κs = search rules

returns : tie.Need-returns-then-narrow
returns c =
    let t = c.before in let n = t.before in let s = n.before in
    c.row_narrow.ensures ∙ sym (ap (λ (b : Bool). b && R.narrow_row_at (bound 128) s.args.j (cells s.args.goal.now)) (sym n.narrow.ensures ∙ t.if-narrow.true))

returns-2 : tie.Need-returns
returns-2 c =
    let n = c.before in let s = n.before in
    sym (ap (λ (b : Bool). b && R.narrow_row_at (bound 128) s.args.j (cells s.args.goal.now)) (sym n.narrow.ensures ∙ c.if-narrow.false))

pub fits_spec : {M : Type 1} → statement M
fits_spec = tie.close (tie.spec narrow-requires row-narrow-requires returns returns-2)
