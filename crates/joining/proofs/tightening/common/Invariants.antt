use Rattle.std.proofs.Common.{◌≡◌, ◌≤◌, drop}
use Rattle.joining.specs.Joining.{common_from}
use Rattle.joining.proofs.tightening.common.Given as goal

-- the common divisor of g and the numbers from place k on
abbrev pub invariant-loop-k : goal.invariant-loop-k
invariant-loop-k l = (l.r ≡ common_from l.g (drop l.k l.xs)) × (l.r ≤ 32768)
