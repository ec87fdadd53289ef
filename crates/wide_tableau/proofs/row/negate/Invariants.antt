use Rattle.std.proofs.Common.{◌≡◌, pos, ◌-ℤ◌}
use Rattle.tableau.proofs.Lines as L
use Rattle.wide_tableau.specs.Cells.{cells, Sheet}
use Rattle.wide_tableau.proofs.row.negate.Given as goal

abbrev pub invariant-loop-i : goal.invariant-loop-i
invariant-loop-i l =
    record {
      sheet : Sheet l.r;
      negated : cells l.r ≡ L.up_to (L.each (λ x. pos 0 -ℤ x)) l.i (cells l.initial.r);
    }
