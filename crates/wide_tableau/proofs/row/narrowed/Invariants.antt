use Rattle.wide_tableau.specs.Cells.{cells}
use Rattle.wide_tableau.proofs.Shorter.{Narrowing}
use Rattle.wide_tableau.proofs.row.narrowed.Given as goal

abbrev pub invariant-loop-i : goal.invariant-loop-i
invariant-loop-i l = Narrowing (cells l.r) l.s l.i
