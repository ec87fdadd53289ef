use Rattle.std.proofs.Common.{◌-◌}
use Rattle.sharing.proofs.Going.{Going}
use Rattle.sharing.proofs.history.go_on.Given as goal

abbrev pub invariant-loop-x : goal.invariant-loop-x
invariant-loop-x l = Going l.n l.initial.t l.initial.place l.kinds l.initial.past l.initial.columns l.start l.t l.place l.past l.columns l.made

abbrev pub decreases-loop-x : goal.decreases-loop-x
decreases-loop-x l = 200 - l.made
