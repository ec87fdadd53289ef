use Rattle.std.proofs.Common.{◌≡◌, length}
use Rattle.simplex.specs.Table.{run_table, Fine}
use Rattle.sharing.proofs.history.rest.Given as goal

abbrev pub invariant-loop-x : goal.invariant-loop-x
invariant-loop-x l = Fine l.n l.t l.place l.kinds × (run_table l.kinds l.left l.t l.place ≡ run_table l.kinds l.most l.initial.t l.initial.place)

abbrev pub decreases-loop-x : goal.decreases-loop-x
decreases-loop-x l = l.left
