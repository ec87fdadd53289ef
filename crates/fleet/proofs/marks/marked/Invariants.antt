use Rattle.fleet.proofs.Passing.{Marking}
use Rattle.fleet.proofs.marks.marked.Given as goal

abbrev pub invariant-loop-i : goal.invariant-loop-i
invariant-loop-i l = Marking l.s l.start l.n l.xs l.k l.fn.flags l.flags l.i
