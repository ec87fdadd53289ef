use Rattle.std.proofs.Common.{◌≡◌, ℕ, ◌<◌, List, map, false, eqb, get_or, take, drop}
use Rattle.model.specs.Lists.{any}
use Rattle.model.specs.Values.{division_of}
use Rattle.algebra.specs.Cut.{seek}
use Rattle.joining.proofs.divisions.seek.Given as goal

-- none of the first i is the one that is sought
abbrev pub invariant-loop-i : goal.invariant-loop-i
invariant-loop-i l =
    (used : List ℕ) → ((j : ℕ) → j < l.n → get_or l.taken j false ≡ any (eqb j) used)
    → seek (division_of l.e) used 0 (map division_of (take l.n l.ds)) ≡ seek (division_of l.e) used l.i (drop l.i (map division_of (take l.n l.ds)))
