use Rattle.std.proofs.Common.{◌≡◌, drop}
use Rattle.tableau.specs.Rows.{combine_rows, divisor_from}
use Rattle.tableau.proofs.Lines.{up_to, mul_sub}
use Rattle.tableau.proofs.row.combine.Given as goal

abbrev pub invariant-loop-i : goal.invariant-loop-i
invariant-loop-i l =
    record {
      combined : l.r ≡ up_to (mul_sub l.m l.b l.q) l.i l.initial.r;
      divided : divisor_from l.g (drop l.i (combine_rows l.m l.b l.initial.r l.q)) ≡ divisor_from 0 (combine_rows l.m l.b l.initial.r l.q);
    }
