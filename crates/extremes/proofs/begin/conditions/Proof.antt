-- `extremes::begin::conditions` meets its contract. Assumes nothing.
use mathlib.Core.Path.{sym, ◌∙◌}
use borrow.Author.Rules.{rules}
use Rattle.extremes.proofs.Beginning.{taken-rows, filled-rows, filled-long, begun}
use Rattle.extremes.proofs.begin.conditions.Statement.{statement}
use Rattle.extremes.proofs.begin.conditions.Tie as tie

-- where the table is filled and where the function began, from where the rows are lent
abbrev filling : tie.After-rows-3-1 → tie.After-fill
filling c = c.before.before.before.before.before.before

abbrev start : tie.After-fill → tie.Start
start c = c.before.before.before.before.before.before

mul-m : tie.Need-overflow_mul-m
mul-m c = search rules

add-m : tie.Need-overflow_add-m
add-m c = search rules

slice-aggregate-fill : tie.Need-slice_bounds-fill-end
slice-aggregate-fill c = search rules

fill-requires : tie.Need-fill-requires
fill-requires c κs = search rules

array-share-prefix-rows : tie.Need-slice_bounds-rows-end
array-share-prefix-rows c = search rules

slice-aggregate-carry : tie.Need-slice_bounds-carry-end
slice-aggregate-carry c =
    let f = filling c in
    let p = (start f).requires in
    sym (filled-rows p.0 f.fill.ensures p.2 p.3)

slice-relend-prefix-carry : tie.Need-slice_bounds-carry-end-2
slice-relend-prefix-carry c = search rules

slice-aggregate-carry-2 : tie.Need-slice_bounds-carry-end-3
slice-aggregate-carry-2 c = let p = (start (filling c.before)).requires in sym (taken-rows p.0 _ p.1)

carry-requires : tie.Need-carry-requires
carry-requires c κs =
    let f = filling c.before in
    let p = (start f).requires in
    (taken-rows p.0 _ p.1 ∙ sym (filled-rows p.0 f.fill.ensures p.2 p.3), filled-long p.0 f.fill.ensures p.2 p.3)

same_length : tie.Need-shape_of-t
same_length c = search rules

same-length-2 : tie.Need-shape_of-place
same-length-2 c = search rules

same-length-3 : tie.Need-shape_of-kinds
same-length-3 c = search rules

returns : tie.Need-returns
returns c =
    let f = filling c.before.before.before in
    let p = (start f).requires in
    begun p.0 f.fill.ensures p.2 p.3 _ _ p.1 c.before.carry.ensures

pub conditions_spec : {M : Type 1} → statement M
conditions_spec =
    tie.close
    (tie.spec
    mul-m
    add-m
    slice-aggregate-fill
    fill-requires
    array-share-prefix-rows
    slice-aggregate-carry
    slice-relend-prefix-carry
    slice-aggregate-carry-2
    carry-requires
    same_length
    same-length-2
    same-length-3
    returns)
