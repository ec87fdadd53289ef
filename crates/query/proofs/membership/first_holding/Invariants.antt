use Rattle.std.proofs.Common.{◌-◌, length}
use Rattle.query.proofs.Holding.{Finding}
use Rattle.query.proofs.membership.first_holding.Given as goal

abbrev pub invariant-loop-at : goal.invariant-loop-at
invariant-loop-at l = Finding l.s l.x l.at l.number

abbrev pub decreases-loop-at : goal.decreases-loop-at
decreases-loop-at l = length l.s - l.at
