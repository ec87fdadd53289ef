use Rattle.std.proofs.Common.{◌+◌, ap, ◌∙◌, set}
use Rattle.wide_tableau.specs.Cells.{cells}
use Rattle.wide_tableau.proofs.row.clear.Goals as goal

pub returns : goal.returns
returns c = record { is = c.set_cell.ensures.is ∙ ap (set (cells c.args.r.now) (c.args.j + 2)) c.zero.ensures.0; sheet = c.set_cell.ensures.sheet }
