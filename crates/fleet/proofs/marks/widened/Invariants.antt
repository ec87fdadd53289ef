use Rattle.std.proofs.Common.{◌≡◌, length, take}
use Rattle.fleet.proofs.marks.widened.Given as goal

abbrev pub invariant-loop-i : goal.invariant-loop-i
invariant-loop-i l = record { size : length l.r ≡ 512; same : take l.i l.r ≡ take l.i l.points }
