use Rattle.bounds.proofs.Following.{Settling}
use Rattle.bounds.proofs.rows.settle.Given as goal

abbrev pub invariant-loop-j : goal.invariant-loop-j
invariant-loop-j l = Settling l.s l.k l.low l.high l.fn.r l.r l.j
