use Rattle.codec.specs.Parts.{Started}
use Rattle.codec.proofs.parts.start_of.Given as goal

abbrev pub invariant-loop-j : goal.invariant-loop-j
invariant-loop-j l = Started l.s l.j l.at
