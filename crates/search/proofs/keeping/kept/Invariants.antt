use Rattle.std.proofs.Common.{length}
use Rattle.search.specs.Live.{Rows}
use Rattle.search.proofs.keeping.kept.Given as goal

abbrev pub invariant-loop-b : goal.invariant-loop-b
invariant-loop-b l = Rows l.s (length l.low) l.rows
