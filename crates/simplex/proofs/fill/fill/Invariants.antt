use Rattle.simplex.specs.Table.{Ruled}
use Rattle.simplex.proofs.fill.fill.Given as goal

abbrev pub invariant-loop-i : goal.invariant-loop-i
invariant-loop-i l = Ruled l.fn.b l.i l.initial.rows l.rows l.initial.kinds l.kinds
