use Rattle.simplex.specs.Table.{Named}
use Rattle.simplex.proofs.fill.name_variables.Given as goal

abbrev pub invariant-loop-v : goal.invariant-loop-v
invariant-loop-v l = Named l.k l.v l.initial.place l.place l.initial.kinds l.kinds
