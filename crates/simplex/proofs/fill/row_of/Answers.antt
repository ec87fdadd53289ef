-- The axes' numbers are copied into a fresh row.
use Rattle.std.proofs.Common.{◌+◌}
use mathlib.Core.Path.{subst₂}
use mir.Facts.{to_z-of_z}
use Rattle.simplex.specs.Table.{Copied}
use Rattle.simplex.proofs.Fills.{started, fresh}
use Rattle.simplex.proofs.fill.row_of.Goals as goal

pub returns : goal.returns
returns c =
    let k = c.args.k in
    let r = c.copy.new.r in
    started k c.args.z c.args.s c.args.a r c.requires.k_le_most_divisions
    (subst₂ (λ s z. Copied (k + 2) s 8 c.args.a (fresh z) r)
    (to_z-of_z c.ranges.s) (to_z-of_z c.ranges.z) c.copy.ensures)
