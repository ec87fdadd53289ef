use Rattle.std.proofs.Common.{◌-◌, length}
use Rattle.fleet.proofs.Passing.{Walking}
use Rattle.fleet.proofs.marks.walked.Given as goal

abbrev pub invariant-loop-at : goal.invariant-loop-at
invariant-loop-at l = Walking l.s l.n l.xs l.k l.flags l.at

abbrev pub decreases-loop-at : goal.decreases-loop-at
decreases-loop-at l = length l.s - l.at
