-- Each turn keeps the divisor of the two numbers, and the second falls.
use Rattle.std.specs.Prelude.{◌≡◌}
use Rattle.integers.specs.Gcd.{gcd}
use Rattle.integers.proofs.divisors.gcd.Given as goal

abbrev pub invariant-loop-b : goal.invariant-loop-b
invariant-loop-b l = gcd l.a l.b ≡ gcd l.fn.a l.fn.b

abbrev pub decreases-loop-b : goal.decreases-loop-b
decreases-loop-b l = l.b
