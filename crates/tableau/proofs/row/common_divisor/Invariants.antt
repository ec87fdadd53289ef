use Rattle.std.proofs.Common.{◌≡◌, drop}
use Rattle.tableau.specs.Rows.{divisor_from}
use Rattle.tableau.proofs.row.common_divisor.Given as goal

abbrev pub invariant-loop-at : goal.invariant-loop-at
invariant-loop-at l = divisor_from l.g (drop l.at l.r) ≡ divisor_from 0 l.r
