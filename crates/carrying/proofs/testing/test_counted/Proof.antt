-- `carrying::testing::test_counted` meets its contract. Assumes nothing.
use mathlib.Core.Path.{sym}
use Prim.Native.Nat.{◌+◌, ◌*◌}
use borrow.Author.Rules.{rules}
use lib.ListN.{take}
use Rattle.simplex.proofs.Filled.{FirstTable, first-table, first_rows_lem, first-places, first-kinds, first_fine}
use Rattle.carrying.proofs.Runs.{filled-both}
use Rattle.carrying.proofs.testing.test_counted.Statement.{statement}
use Rattle.carrying.proofs.testing.test_counted.Tie as tie

abbrev start : tie.After-fill → tie.Start
start c = c.before.before.before.before.before.before

-- where the table was filled, from where its parts are lent
abbrev filling : tie.After-slice_known-4-1 → tie.After-fill
filling c = c.before.before.before.before.before

abbrev running : tie.After-run_both-arg-2-1 → tie.After-fill
running c = filling c.before.before

filled : (c : tie.After-fill) →
    let b = (start c).args.b in
    let l = c.fill.new in
    FirstTable b (take (2 * b.divs + b.cons) l.rows) l.place l.kinds
filled c = let p = (start c).requires in first-table p.0 c.fill.ensures p.1.1.0 p.1.1.1

mul-m : tie.Need-overflow_mul-m
mul-m c = search rules

add-m : tie.Need-overflow_add-m
add-m c = search rules

add-n : tie.Need-overflow_add-n
add-n c = search rules

add-n-2 : tie.Need-overflow_add-n-2
add-n-2 c = search rules

fill-requires : tie.Need-fill-requires
fill-requires c κs = search rules

slice-relend-prefix-run-both : tie.Need-slice_bounds-run_both-end
slice-relend-prefix-run-both c = search rules

slice-aggregate-run-both : tie.Need-slice_bounds-run_both-end-2
slice-aggregate-run-both c = sym (first_rows_lem _ _ _ _ (filled (filling c.before)))

add-run-both : tie.Need-overflow_add-k
add-run-both c = search rules

slice-relend-prefix-run-both-2 : tie.Need-slice_bounds-run_both-end-3
slice-relend-prefix-run-both-2 c = search rules

slice-aggregate-run-both-2 : tie.Need-slice_bounds-run_both-end-4
slice-aggregate-run-both-2 c = sym (first-places _ _ _ _ (filled (filling c.before.before)))

slice-reshare-prefix-run-both : tie.Need-slice_bounds-run_both-end-5
slice-reshare-prefix-run-both c = search rules

slice-aggregate-run-both-3 : tie.Need-slice_bounds-run_both-end-6
slice-aggregate-run-both-3 c = sym (first-kinds _ _ _ _ (filled (running c)))

run-both-requires : tie.Need-run_both-requires
run-both-requires c κs = first_fine _ _ _ _ (filled (running c))

same_length : tie.Need-shape_of-rows
same_length c = search rules

same-length-2 : tie.Need-shape_of-place
same-length-2 c = search rules

same-length-3 : tie.Need-shape_of-kinds
same-length-3 c = search rules

returns : tie.Need-returns
returns c = let r = c.before.before.before in filled-both _ _ _ _ (filled (running r.before)) _ r.run_both.ensures

pub test_counted_spec : {M : Type 1} → statement M
test_counted_spec =
    tie.close
    (tie.spec
    mul-m
    add-m
    add-n
    add-n-2
    fill-requires
    slice-relend-prefix-run-both
    slice-aggregate-run-both
    add-run-both
    slice-relend-prefix-run-both-2
    slice-aggregate-run-both-2
    slice-reshare-prefix-run-both
    slice-aggregate-run-both-3
    run-both-requires
    same_length
    same-length-2
    same-length-3
    returns)
