-- The rows before the turn's are carried.
use Rattle.std.proofs.Common.{◌≡◌, []}
use Rattle.wide_tableau.specs.Cells.{rows_of}
use Rattle.model.proofs.Lists.{from_list}
use Rattle.tableau.proofs.Lines.{up_to}
use Rattle.carrying.proofs.Carries.{Done}
use Rattle.carrying.proofs.carry.carry.Given as goal

abbrev pub invariant-loop-k : goal.invariant-loop-k
invariant-loop-k l = record {
  done : Done l.k l.out;
  carried : rows_of l.out ≡ up_to (from_list [] l.rows) l.k (rows_of l.initial.out);
}
