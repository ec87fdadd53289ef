use Rattle.std.proofs.Common.{◌≡◌}
use Rattle.integers.specs.Gcd.{gcd as gcd_of}
use Rattle.wide.specs.Wide.{size}
use Rattle.wide.proofs.division.gcd.Given as goal

abbrev pub invariant-loop-y : goal.invariant-loop-y
invariant-loop-y l = gcd_of (size l.x) (size l.y) ≡ gcd_of (size l.initial.x) (size l.initial.y)

abbrev pub decreases-loop-y : goal.decreases-loop-y
decreases-loop-y l = size l.y
