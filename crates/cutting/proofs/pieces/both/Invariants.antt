use Rattle.std.proofs.Common.{◌≡◌, take}
use Rattle.model.specs.Values.{basic_set_of}
use Rattle.cutting.proofs.Turns.{Gathered, moved_to}
use Rattle.cutting.proofs.pieces.both.Given as goal

abbrev pub invariant-loop-k : goal.invariant-loop-k
invariant-loop-k l = Gathered (basic_set_of l.a).constraints (moved_to (take l.c.divs l.places) l.c) l.a.cons l.k l.set.constraints
