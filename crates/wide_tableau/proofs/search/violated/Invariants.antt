use Rattle.std.proofs.Common.{◌≡◌, ◌-◌, length}
use Rattle.tableau.specs.Rows as R
use Rattle.wide_tableau.specs.Cells.{rows_of}
use Rattle.wide_tableau.proofs.search.violated.Given as goal

abbrev pub invariant-loop-v : goal.invariant-loop-v
invariant-loop-v l =
    R.first (R.violated_at (rows_of l.t) l.place l.kinds) (length l.place - l.v) l.v ≡ R.first (R.violated_at (rows_of l.t) l.place l.kinds) (length l.place) 0
