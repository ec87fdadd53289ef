use Rattle.std.proofs.Common.{◌≡◌, ◌-◌, length}
use Rattle.tableau.specs.Rows.{first, helps_at}
use Rattle.tableau.proofs.search.helping.Given as goal

abbrev pub invariant-loop-v : goal.invariant-loop-v
invariant-loop-v l =
    first (helps_at l.r l.place l.kinds) (length l.place - l.v) l.v ≡ first (helps_at l.r l.place l.kinds) (length l.place) 0
