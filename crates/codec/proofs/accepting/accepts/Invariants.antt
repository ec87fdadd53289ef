use Rattle.std.specs.Prelude.{◌-◌, length}
use Rattle.codec.proofs.Leading.{Walked}
use Rattle.codec.proofs.accepting.accepts.Given as goal

abbrev pub invariant-loop-at : goal.invariant-loop-at
invariant-loop-at l = Walked l.n l.s l.at l.basics

abbrev pub decreases-loop-at : goal.decreases-loop-at
decreases-loop-at l = length l.s - l.at
