use Rattle.std.proofs.Common.{◌≡◌, pos}
use Rattle.model.proofs.Lists.{from_list}
use Rattle.tableau.proofs.Lines as L
use Rattle.wide_tableau.specs.Cells.{cells, Sheet}
use Rattle.wide_tableau.proofs.row.carry_row.Given as goal

abbrev pub invariant-loop-i : goal.invariant-loop-i
invariant-loop-i l =
    record {
      sheet : Sheet l.out;
      carried : cells l.out ≡ L.up_to (from_list (pos 0) l.s) l.i (cells l.initial.out);
    }
