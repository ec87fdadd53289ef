-- s is the sum of the first i products, which lies within the room that the caller left.
use Rattle.std.specs.Int.{w16}
use Rattle.integers.specs.Sum.{Summing}
use Rattle.integers.proofs.products.dot.Given as goal

abbrev pub invariant-loop-i : goal.invariant-loop-i
invariant-loop-i l = Summing w16 l.a l.x l.s l.i
