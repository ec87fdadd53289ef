use Rattle.std.proofs.Common.{length, take}
use Rattle.sharing.proofs.Passes.{Replaying}
use Rattle.sharing.proofs.history.replay.Given as goal

abbrev pub invariant-loop-q : goal.invariant-loop-q
invariant-loop-q l = Replaying l.n (take l.made l.past) (take l.made l.columns) l.initial.r l.r (length l.yielded)
