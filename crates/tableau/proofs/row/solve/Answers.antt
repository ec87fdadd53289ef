use Rattle.std.proofs.Common.{ap, ◌∙◌}
use Rattle.tableau.specs.Rows.{solve_row, reduce_row}
use Rattle.tableau.proofs.Lines.{turn-sound, wider}
use Rattle.tableau.proofs.row.solve.Goals as goal

pub reduce-requires : goal.reduce-requires
reduce-requires c =
    let h = turn-sound c.args.n c.args.r.now c.args.j c.requires.j_bound c.requires.line c.requires.small c.requires.fact in
    rw c.turn.ensures (record { line = h.line; small = λ k. wider (h.small k); pos_bound = h.den })

pub returns : goal.returns
unfolding solve_row
returns c = c.reduce.ensures ∙ ap reduce_row c.turn.ensures
