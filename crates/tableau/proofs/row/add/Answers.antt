-- All 18 places are added, not the first n alone.
use Rattle.tableau.proofs.Lines.{whole-line}
use Rattle.tableau.proofs.row.add.Goals as goal

pub plus-requires : goal.plus-requires
plus-requires c = let r = c.requires in (whole-line r.0, whole-line r.1, r.2, r.3)
