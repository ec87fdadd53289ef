-- `carrying::going::pivot` meets its contract. Assumes nothing.
use mathlib.Core.Path.{refl}
use borrow.Author.Rules.{rules}
use Rattle.simplex.specs.Table as S
use Rattle.carrying.proofs.going.pivot.Statement.{statement}
use Rattle.carrying.proofs.going.pivot.Tie as tie

mul-i : tie.Need-offset_bounds-place-v
mul-i c = search rules

slice-read-i : tie.Need-bounds-place-v
slice-read-i c = search rules

mul-c : tie.Need-offset_bounds-place-w
mul-c c = search rules

slice-read-c : tie.Need-bounds-place-w
slice-read-c c = search rules

sub-exchange : tie.Need-overflow_sub-c
sub-exchange c = search rules

exchange-requires : tie.Need-exchange-k-requires
exchange-requires c κs = search rules

mul-place : tie.Need-offset_bounds-place-v-2
mul-place c = search rules

slice-write-place : tie.Need-bounds-place-v-2
slice-write-place c = search rules

mul-place-2 : tie.Need-offset_bounds-place-w-2
mul-place-2 c = search rules

slice-write-place-2 : tie.Need-bounds-place-w-2
slice-write-place-2 c = search rules

same_length : tie.Need-shape_of-t
same_length c = search rules

same-length-2 : tie.Need-shape_of-place
same-length-2 c = search rules

returns : tie.Need-returns
unfolding S.pivot_rows S.pivot_place
returns c = (c.before.exchange-k.ensures.0, refl, c.before.exchange-k.ensures.1)

pub pivot_spec : {M : Type 1} → statement M
pivot_spec =
    tie.close
    (tie.spec
    mul-i
    slice-read-i
    mul-c
    slice-read-c
    sub-exchange
    exchange-requires
    mul-place
    slice-write-place
    mul-place-2
    slice-write-place-2
    same_length
    same-length-2
    returns)
