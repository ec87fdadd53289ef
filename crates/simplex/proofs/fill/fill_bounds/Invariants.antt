use Rattle.simplex.specs.Table.{Bounded}
use Rattle.simplex.proofs.fill.fill_bounds.Given as goal

abbrev pub invariant-loop-i : goal.invariant-loop-i
invariant-loop-i l = Bounded l.ds l.k l.i l.initial.rows l.rows
