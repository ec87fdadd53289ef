use Rattle.std.proofs.Common.{length}
use Rattle.enumeration.specs.Search.{box_of}
use Rattle.search.specs.Live.{wide_box}
use Rattle.search.proofs.Lives.{Opens}
use Rattle.search.proofs.opening.opened.Given as goal

abbrev pub invariant-loop-b : goal.invariant-loop-b
invariant-loop-b l = Opens l.s (length l.low) (box_of l.low l.high) (wide_box l.k l.low l.high) l.fn.rows l.rows l.kept l.any l.most l.run l.b
