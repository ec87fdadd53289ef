use Rattle.std.proofs.Common.{sym, ◌∙◌}
use Rattle.wide_tableau.proofs.Sheets.{sheet-at}
use Rattle.wide_tableau.proofs.row.cell_at.Goals as goal

pub returns : goal.returns
returns c = (c.unpack.ensures.0 ∙ sym (sheet-at c.args.r.now c.args.i c.requires.0 c.requires.1), c.unpack.ensures.1)
