use Rattle.std.proofs.Common.{◌≡◌, ◌+◌, set, [], drop}
use Rattle.tableau.specs.Rows.{rebuild_row as rebuild_of, touched}
use Rattle.tableau.proofs.Lines.{up_to, but}
use Rattle.tableau.proofs.pivot.sweep.Given as goal

abbrev pub invariant-loop-k : goal.invariant-loop-k
invariant-loop-k l =
    record {
      swept : l.t ≡ up_to (but l.i (rebuild_of l.j l.m l.q)) l.k l.initial.t;
      counted : l.built + touched l.j (drop l.k (set l.initial.t l.i [])) ≡ touched l.j (set l.initial.t l.i []);
    }
