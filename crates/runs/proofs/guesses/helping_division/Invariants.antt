use Rattle.std.proofs.Common.{◌-◌, length}
use Rattle.runs.proofs.Helped.{Seeking}
use Rattle.runs.proofs.guesses.helping_division.Given as goal

abbrev pub invariant-loop-u : goal.invariant-loop-u
invariant-loop-u l = Seeking l.s l.at l.j l.g

abbrev pub decreases-loop-u : goal.decreases-loop-u
decreases-loop-u l = length l.s - l.at
