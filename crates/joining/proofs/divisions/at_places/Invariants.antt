use Rattle.std.proofs.Common.{◌≡◌, take, drop}
use Rattle.algebra.specs.Cut.{move}
use Rattle.joining.proofs.divisions.at_places.Given as goal

abbrev pub invariant-loop-k : goal.invariant-loop-k
invariant-loop-k l = l.to ≡ move (drop l.k (take l.n l.places)) (drop l.k l.from)
