use Rattle.std.proofs.Common.{◌≡◌, cond, false, leb, drop}
use Rattle.integers.specs.Size.{bound}
use Rattle.tableau.specs.Rows.{small as small_of}
use Rattle.tableau.proofs.search.small.Given as goal

abbrev pub invariant-loop-x : goal.invariant-loop-x
invariant-loop-x l = cond (leb l.bits (bound 64)) (small_of (drop l.x-index l.r)) false ≡ small_of l.r
