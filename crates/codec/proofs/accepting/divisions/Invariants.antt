use Rattle.std.specs.Prelude.{◌-◌, length}
use Rattle.codec.specs.Accepting.{DivisionsTo}
use Rattle.codec.proofs.accepting.divisions.Given as goal

abbrev pub invariant-loop-run : goal.invariant-loop-run
invariant-loop-run l = DivisionsTo l.s l.start l.run.at l.run.count l.run.axes.low l.run.axes.high

abbrev pub decreases-loop-run : goal.decreases-loop-run
decreases-loop-run l = length l.s - l.run.at
