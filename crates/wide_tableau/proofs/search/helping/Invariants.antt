use Rattle.std.proofs.Common.{◌≡◌, ◌-◌, length}
use Rattle.tableau.specs.Rows as R
use Rattle.wide_tableau.specs.Cells.{cells}
use Rattle.wide_tableau.proofs.search.helping.Given as goal

abbrev pub invariant-loop-v : goal.invariant-loop-v
invariant-loop-v l =
    R.first (R.helps_at (cells l.r) l.place l.kinds) (length l.place - l.v) l.v ≡ R.first (R.helps_at (cells l.r) l.place l.kinds) (length l.place) 0
