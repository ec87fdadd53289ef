use Rattle.std.proofs.Common.{length, ◌-◌}
use Rattle.codec.specs.Checking.{counts_of}
use Rattle.codec.proofs.Parsing.{Left}
use Rattle.codec.proofs.checking.scan.Given as goal

abbrev pub invariant-loop-at : goal.invariant-loop-at
invariant-loop-at l = Left l.n l.s l.at (counts_of l.k)

abbrev pub decreases-loop-at : goal.decreases-loop-at
decreases-loop-at l = length l.s - l.at
