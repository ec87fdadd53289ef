use Rattle.counting.specs.Levels.{line_of, Added}
use Rattle.counting.proofs.levels.noted_along.Given as goal

abbrev pub invariant-loop-x : goal.invariant-loop-x
invariant-loop-x l = Added l.c (line_of l.p.low l.p.k l.i l.x) l.fn.each l.each
