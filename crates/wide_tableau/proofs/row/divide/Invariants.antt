use Rattle.std.proofs.Common.{◌≡◌, pos}
use Rattle.std.specs.Int.Signed.{quot_z}
use Rattle.wide.specs.Wide.{size}
use Rattle.tableau.proofs.Lines as L
use Rattle.wide_tableau.specs.Cells.{cells, Sheet}
use Rattle.wide_tableau.proofs.row.divide.Given as goal

abbrev pub invariant-loop-i : goal.invariant-loop-i
invariant-loop-i l =
    record {
      sheet : Sheet l.r;
      divided : cells l.r ≡ L.up_to (L.each (λ x. quot_z x (pos (size l.d)))) l.i (cells l.initial.r);
    }
