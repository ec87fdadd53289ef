use Rattle.std.proofs.Common.{◌≡◌}
use Rattle.model.proofs.Lists.{up_to, each}
use Rattle.joining.specs.Joining.{down_by}
use Rattle.joining.proofs.tightening.quotients.Given as goal

abbrev pub invariant-loop-x : goal.invariant-loop-x
invariant-loop-x l = l.x-items ≡ up_to (each (down_by l.g)) l.x-index l.fn.xs
