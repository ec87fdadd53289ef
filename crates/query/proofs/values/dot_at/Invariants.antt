use Rattle.query.proofs.Reading.{Summed}
use Rattle.query.proofs.values.dot_at.Given as goal

abbrev pub invariant-loop-i : goal.invariant-loop-i
invariant-loop-i l = Summed l.t l.p l.x l.sum l.i
