use Rattle.std.proofs.Common.{◌≡◌, drop}
use Rattle.wide.specs.Wide.{size}
use Rattle.tableau.specs.Rows as R
use Rattle.wide_tableau.specs.Cells.{cells}
use Rattle.wide_tableau.proofs.row.common_divisor.Given as goal

abbrev pub invariant-loop-i : goal.invariant-loop-i
invariant-loop-i l = R.divisor_from (size l.g) (drop l.i (cells l.r)) ≡ R.divisor_from 0 (cells l.r)
