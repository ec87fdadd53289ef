use Rattle.std.proofs.Common.{◌≡◌, ◌-◌, length}
use Rattle.tableau.specs.Rows.{first, violated_at}
use Rattle.tableau.proofs.search.violated.Given as goal

abbrev pub invariant-loop-v : goal.invariant-loop-v
invariant-loop-v l =
    first (violated_at l.t l.place l.kinds) (length l.place - l.v) l.v ≡ first (violated_at l.t l.place l.kinds) (length l.place) 0
