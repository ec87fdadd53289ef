use Rattle.bounds.proofs.Extremes.{Summing}
use Rattle.bounds.proofs.ends.extreme.Given as goal

abbrev pub invariant-loop-i : goal.invariant-loop-i
invariant-loop-i l = Summing l.t l.p l.u l.v l.fn.from l.sum l.i
