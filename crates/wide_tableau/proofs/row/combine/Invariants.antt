use Rattle.std.proofs.Common.{◌≡◌, drop}
use Rattle.wide.specs.Wide.{size, value_of}
use Rattle.tableau.specs.Rows as R
use Rattle.tableau.proofs.Lines as L
use Rattle.wide_tableau.specs.Cells.{cells, Sheet}
use Rattle.wide_tableau.proofs.row.combine.Given as goal

abbrev pub invariant-loop-i : goal.invariant-loop-i
invariant-loop-i l =
    record {
      sheet : Sheet l.r;
      combined : cells l.r ≡ L.up_to (L.mul_sub (value_of l.m) (value_of l.b) (cells l.q)) l.i (cells l.initial.r);
      divided :
          R.divisor_from (size l.g) (drop l.i (R.combine_rows (value_of l.m) (value_of l.b) (cells l.initial.r) (cells l.q)))
          ≡ R.divisor (R.combine_rows (value_of l.m) (value_of l.b) (cells l.initial.r) (cells l.q));
    }
