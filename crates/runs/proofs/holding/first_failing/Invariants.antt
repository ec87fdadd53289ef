use Rattle.std.proofs.Common.{◌≤◌, ◌-◌, length}
use Rattle.bounds.specs.Intervals.{box_of}
use Rattle.bounds.specs.Ends.{can_stand}
use Rattle.bounds.specs.Rows.{start_of}
use Rattle.bounds.proofs.Bounds.{Opening}
use Rattle.runs.proofs.holding.first_failing.Given as goal

abbrev pub invariant-loop-k : goal.invariant-loop-k
invariant-loop-k l = Opening l.s (start_of l.r) (can_stand (box_of l.low l.high) (box_of l.ql l.qh)) l.at l.i

abbrev pub decreases-loop-k : goal.decreases-loop-k
decreases-loop-k l = length l.s - l.at

abbrev pub invariant-loop-k-2 : goal.invariant-loop-k-2
invariant-loop-k-2 l = record { opening : Opening l.s (start_of l.r) (can_stand (box_of l.low l.high) (box_of l.ql l.qh)) l.at l.i; past : l.initial.at ≤ l.at }

abbrev pub decreases-loop-k-2 : goal.decreases-loop-k-2
decreases-loop-k-2 l = length l.s - l.at
