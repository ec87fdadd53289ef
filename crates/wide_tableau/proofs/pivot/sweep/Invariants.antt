use Rattle.std.proofs.Common.{◌≡◌, ◌+◌, set, [], drop}
use Rattle.wide.specs.Wide.{value_of}
use Rattle.tableau.specs.Rows as R
use Rattle.tableau.proofs.Lines as L
use Rattle.wide_tableau.specs.Cells.{cells, rows_of, Sheets}
use Rattle.wide_tableau.proofs.Signs.{Rest}
use Rattle.wide_tableau.proofs.pivot.sweep.Given as goal

abbrev pub invariant-loop-k : goal.invariant-loop-k
invariant-loop-k l =
    record {
      sheets : Sheets l.t;
      rest : Rest l.k l.initial.t l.t;
      swept : rows_of l.t ≡ L.up_to (L.but l.i (R.rebuild_row l.j (value_of l.m) (cells l.q))) l.k (rows_of l.initial.t);
      counted : l.built + R.touched l.j (drop l.k (set (rows_of l.initial.t) l.i [])) ≡ R.touched l.j (set (rows_of l.initial.t) l.i []);
    }
