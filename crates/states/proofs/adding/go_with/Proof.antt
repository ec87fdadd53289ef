-- `states::adding::go_with` meets its contract. Assumes nothing.
use Prim.Native.Nat.{◌+◌}
use Rattle.states.proofs.Growing.{set_rest, more-long, rows_room, place_room, kinds_room, sheets-more, fine_more, run_more}
use Rattle.states.proofs.Tables.{ran}
use lib.ListN.{length-set}
use mathlib.Core.List.{◌++◌}
use mathlib.Core.Path.{refl, sym, ap₂, ◌∙◌}
use native.Mathlib.Omega.{arith}
use borrow.Author.Rules.{rules}
use Rattle.states.proofs.adding.go_with.Statement.{statement}
use Rattle.states.proofs.adding.go_with.Tie as tie

abbrev start : tie.After-slice_known-2-1 → tie.Start
start c = c.before.before

abbrev lent : tie.After-go_on-arg-2-1 → tie.After-slice_known-2-1
lent c = c.before.before

add-v : tie.Need-overflow_add-v
add-v c = search rules

add-v-2 : tie.Need-overflow_add-v-2
add-v-2 c = search rules

mul-row : tie.Need-offset_bounds-rows-m
mul-row c = search rules

slice-set-from-row : tie.Need-bounds-rows-m
slice-set-from-row c = search rules

mul-place : tie.Need-offset_bounds-place-v
mul-place c = search rules

slice-write-place : tie.Need-bounds-place-v
slice-write-place c = search rules

slice-write-kinds : tie.Need-bounds-kinds-v
slice-write-kinds c = search rules

add-go-on : tie.Need-overflow_add-m
add-go-on c = search rules

slice-relend-prefix-go-on : tie.Need-slice_bounds-go_on-end
slice-relend-prefix-go-on c = simp length-set (let r = rows_room (start c).requires.0 in omega arith)

slice-aggregate-go-on : tie.Need-slice_bounds-go_on-end-2
slice-aggregate-go-on c = let s = start c.before in sym (more-long s.args.rows.now s.args.m s.args.row (rows_room s.requires.0))

add-go-on-2 : tie.Need-overflow_add-k
add-go-on-2 c = search rules

add-go-on-3 : tie.Need-overflow_add-v-3
add-go-on-3 c = search rules

slice-relend-prefix-go-on-2 : tie.Need-slice_bounds-go_on-end-3
slice-relend-prefix-go-on-2 c = simp length-set (let r = place_room (start c.before).requires.0 in omega arith)

slice-aggregate-go-on-2 : tie.Need-slice_bounds-go_on-end-4
slice-aggregate-go-on-2 c = let s = start c.before.before in sym (more-long s.args.place.now (8 + s.args.k + s.args.m) s.args.m (place_room s.requires.0))

add-go-on-4 : tie.Need-overflow_add-v-4
add-go-on-4 c = search rules

slice-reshare-prefix-go-on : tie.Need-slice_bounds-go_on-end-5
slice-reshare-prefix-go-on c = simp length-set (let r = kinds_room (start c.before.before).requires.0 in omega arith)

slice-aggregate-go-on-3 : tie.Need-slice_bounds-go_on-end-6
slice-aggregate-go-on-3 c = let s = start (lent c) in sym (more-long s.args.kinds.now (8 + s.args.k + s.args.m) s.args.kind (kinds_room s.requires.0))

go-on-requires : tie.Need-go_on-e-requires
go-on-requires c κs = let s = start (lent c) in (sheets-more s.requires.0 s.args.row s.args.kind s.requires.1, fine_more s.requires.0 s.args.row s.args.kind s.requires.1, omega arith)

word-of-requires : tie.Need-word_of-requires
word-of-requires c κs = search rules

same_length : tie.Need-shape_of-rows
same_length c = let r = c.before.before.before.before in let s = start (lent r.before.before) in r.rows-1.given.1 ∙ length-set s.args.rows.now s.args.m s.args.row

same-length-2 : tie.Need-shape_of-place
same-length-2 c = let r = c.before.before.before in let s = start (lent r.before.before.before) in r.place-1.given.1 ∙ length-set s.args.place.now (8 + s.args.k + s.args.m) s.args.m

same-length-3 : tie.Need-shape_of-kinds
same-length-3 c = search rules

returns : tie.Need-returns
returns c =
    let g = c.before.before.before.before.before in let s = start (lent g.before) in
    let r = ran g.go_on-e.ensures (run_more s.requires.0 s.args.row s.args.kind s.requires.1) c.word_of.ensures in
    record { word = r.word; rows_are = ap₂ ◌++◌ r.rows (set_rest s.args.rows.now s.args.m s.args.row); place_is = ap₂ ◌++◌ r.place_is (set_rest s.args.place.now (8 + s.args.k + s.args.m) s.args.m); kinds_are = refl }

pub go_with_spec : {M : Type 1} → statement M
go_with_spec =
    tie.close
    (tie.spec
    add-v
    add-v-2
    mul-row
    slice-set-from-row
    mul-place
    slice-write-place
    slice-write-kinds
    add-go-on
    slice-relend-prefix-go-on
    slice-aggregate-go-on
    add-go-on-2
    add-go-on-3
    slice-relend-prefix-go-on-2
    slice-aggregate-go-on-2
    add-go-on-4
    slice-reshare-prefix-go-on
    slice-aggregate-go-on-3
    go-on-requires
    word-of-requires
    same_length
    same-length-2
    same-length-3
    returns)
