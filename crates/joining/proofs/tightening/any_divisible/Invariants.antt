use Rattle.std.proofs.Common.{◌≡◌, false, map, take}
use Rattle.model.specs.Lists.{any}
use Rattle.model.specs.Values.{constraint_of}
use Rattle.algebra.specs.Tighten.{divisible}
use Rattle.joining.proofs.tightening.any_divisible.Given as goal

abbrev pub invariant-loop-c : goal.invariant-loop-c
invariant-loop-c l = any divisible (map constraint_of (take l.c-index l.c-items)) ≡ false
