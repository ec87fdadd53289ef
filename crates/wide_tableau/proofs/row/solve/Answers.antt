use Rattle.std.proofs.Common.{sym, ap, ◌∙◌, subst, List, pos, ◌<ℤ◌}
use Rattle.std.specs.Prelude.{ℤ}
use Rattle.wide_tableau.specs.Cells.{cells}
use Rattle.integers.specs.Size.{bound}
use Rattle.tableau.specs.Rows as R
use Rattle.tableau.proofs.Lines as L
use Rattle.wide_tableau.proofs.row.solve.Goals as goal

pub reduce-requires : goal.reduce-requires
reduce-requires c =
    let n = c.args.n in
    let e = c.turn.ensures.is in
    let h = L.turn-sound_at (bound 128) n (cells c.args.r.now) c.args.j c.requires.1 c.requires.2 c.requires.3 c.requires.4 in
    (c.turn.ensures.sheet, subst (R.Line n) (sym e) h.line, subst (λ (l : List ℤ). pos 0 <ℤ R.den l) (sym e) h.den)

pub returns : goal.returns
unfolding R.solve_row
returns c = record { is = c.reduce.ensures.is ∙ ap R.reduce_row c.turn.ensures.is; sheet = c.reduce.ensures.sheet }
