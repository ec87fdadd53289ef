use Rattle.std.specs.Prelude.{◌-◌, length}
use Rattle.codec.specs.Accepting.{Further}
use Rattle.codec.proofs.accepting.constraints.Given as goal

abbrev pub invariant-loop-c : goal.invariant-loop-c
invariant-loop-c l = Further l.s l.initial.c l.c

abbrev pub decreases-loop-c : goal.decreases-loop-c
decreases-loop-c l = length l.s - l.c.at
