use Rattle.std.proofs.Common.{◌≡◌, drop}
use Rattle.integers.specs.Size.{bound}
use Rattle.tableau.specs.Rows as R
use Rattle.wide_tableau.specs.Cells.{cells}
use Rattle.wide_tableau.proofs.search.small.Given as goal

abbrev pub invariant-loop-i : goal.invariant-loop-i
invariant-loop-i l = R.small_at (bound 128) (drop l.i (cells l.r)) ≡ R.small_at (bound 128) (cells l.r)
