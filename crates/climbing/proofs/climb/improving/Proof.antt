-- `climbing::climb::improving` meets its contract. Assumes nothing.
use mathlib.Core.Path.{sym, ap, ◌∙◌, subst}
use mathlib.Core.List.{List}
use mathlib.Core.Bool.{Bool, true, false}
use Prim.Native.Nat.{ℕ, ◌^◌, ◌<◌}
use borrow.Author.Rules.{rules}
use lib.Dec.{lit<}
use lib.IntN.{ℤ, nat_abs}
use lib.ListN.{set}
use Rattle.wide.specs.Wide.{size}
use Rattle.wide.proofs.Signs.{nat_abs-signed}
use Rattle.tableau.specs.Rows as R
use Rattle.wide_tableau.specs.Cells.{cells}
use Rattle.climbing.specs.Steps as D
use Rattle.climbing.proofs.climb.improving.Statement.{statement}
use Rattle.climbing.proofs.climb.improving.Tie as tie

one-small : (greatest : Bool) → nat_abs (D.aim_of greatest) < 2 ^ 127
one-small true = lit< tt
one-small false = lit< tt

aim-requires : tie.Need-aim-z-requires
aim-requires c κs = search rules

set-cell-requires : tie.Need-set_cell-requires
set-cell-requires c κs =
    let a = c.before in let s = a.before.before.before.before in let x = a.aim-z.result in
    (s.requires.0, lit< tt, subst (λ (n : ℕ). n < 2 ^ 127) (sym (ap nat_abs a.aim-z.ensures) ∙ nat_abs-signed x.neg (size x.magnitude)) (one-small s.args.greatest))

helping-requires : tie.Need-helping-requires
helping-requires c κs = search rules

returns : tie.Need-returns
unfolding D.improving
returns c =
    let w = c.before.before in let a = w.before.before in let s = a.before.before.before.before in
    c.helping.ensures ∙ ap (λ (r : List ℤ). R.helping r s.args.place.now s.args.kinds.now) (w.set_cell.ensures.is ∙ ap (set (cells s.args.goal.now) 1) a.aim-z.ensures)

pub improving_spec : {M : Type 1} → statement M
improving_spec = tie.close (tie.spec aim-requires set-cell-requires helping-requires returns)
