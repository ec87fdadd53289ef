use Rattle.joining.proofs.Dividing.{Passed}
use Rattle.joining.proofs.tightening.tight_set.Given as goal

abbrev pub invariant-loop-k : goal.invariant-loop-k
invariant-loop-k l = Passed l.fn.b l.w l.k
