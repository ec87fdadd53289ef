use Rattle.simplex.specs.Table.{Copied}
use Rattle.simplex.proofs.fill.copy.Given as goal

abbrev pub invariant-loop-i : goal.invariant-loop-i
invariant-loop-i l = Copied l.base l.s l.i l.a l.initial.r l.r
