-- `carrying::both::widened` meets its contract. Assumes nothing.
use mathlib.Core.Path.{sym}
use borrow.Author.Rules.{rules}
use lib.Seq.{length-take-le}
use Rattle.carrying.proofs.both.widened.Statement.{statement}
use Rattle.carrying.proofs.both.widened.Tie as tie

array-borrow-prefix-out : tie.Need-slice_bounds-out-end
array-borrow-prefix-out c = search rules

slice-aggregate-in-table : tie.Need-slice_bounds-in_table-end
slice-aggregate-in-table c = let s = c.before.before.before.before in sym (length-take-le _ _ s.requires.0.count)

in-table-requires : tie.Need-in_table-requires
in-table-requires c κs = let s = c.before.before.before.before in (s.requires.0, s.requires.1, length-take-le _ _ s.requires.0.count)

same_length : tie.Need-shape_of-place
same_length c = search rules

returns : tie.Need-returns
returns c = search rules

pub widened_spec : {M : Type 1} → statement M
widened_spec =
    tie.close
    (tie.spec
    array-borrow-prefix-out
    slice-aggregate-in-table
    in-table-requires
    same_length
    returns)
