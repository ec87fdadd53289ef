use Rattle.std.proofs.Common.{◌≡◌, take}
use Rattle.model.specs.Lists.{any}
use Rattle.joining.specs.Joining.{is_unit}
use Rattle.joining.proofs.tightening.unit_in.Given as goal

abbrev pub invariant-loop-x : goal.invariant-loop-x
invariant-loop-x l = l.found ≡ any is_unit (take l.x-index l.x-items)
