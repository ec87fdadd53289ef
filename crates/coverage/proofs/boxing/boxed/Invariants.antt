use Rattle.coverage.proofs.Laying.{Laying}
use Rattle.coverage.proofs.boxing.boxed.Given as goal

abbrev pub invariant-loop-i : goal.invariant-loop-i
invariant-loop-i l = Laying l.n l.low l.high l.rules l.i
