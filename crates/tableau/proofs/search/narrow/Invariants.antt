use Rattle.std.proofs.Common.{◌≡◌, drop}
use Rattle.integers.specs.Size.{bound}
use Rattle.tableau.specs.Rows.{narrow_rows_at}
use Rattle.tableau.proofs.search.narrow.Given as goal

abbrev pub invariant-loop-k : goal.invariant-loop-k
invariant-loop-k l = narrow_rows_at (bound 64) l.j (drop l.k l.t) ≡ narrow_rows_at (bound 64) l.j l.t
