use Rattle.joining.proofs.Placing.{Joins}
use Rattle.joining.proofs.divisions.join.Given as goal

abbrev pub invariant-loop-k : goal.invariant-loop-k
invariant-loop-k l = Joins l.ds l.n l.es l.m l.k l.divisions l.divs l.taken l.places
