use Rattle.std.proofs.Common.{◌≡◌, length, take, drop}
use Rattle.fleet.specs.Fleet.{mask_of}
use Rattle.fleet.specs.Looking.{itself}
use Rattle.fleet.proofs.marks.mask_of.Given as goal

abbrev pub invariant-loop-i : goal.invariant-loop-i
invariant-loop-i l = record { size : length l.flags ≡ 64; is : l.mask ≡ mask_of itself (drop l.i (take l.k l.flags)) }
