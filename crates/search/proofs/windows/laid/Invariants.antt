use Rattle.std.proofs.Common.{length, ◌-◌}
use Rattle.search.proofs.Lives.{Laying}
use Rattle.search.proofs.windows.laid.Given as goal

abbrev pub invariant-loop-at : goal.invariant-loop-at
invariant-loop-at l = Laying l.s l.rows l.at l.b

abbrev pub decreases-loop-at : goal.decreases-loop-at
decreases-loop-at l = length l.s - l.at
