-- `extremes::value::of_basic` meets its contract. Assumes nothing.
use mathlib.Core.Path.{sym, ◌∙◌}
use Prim.Native.Nat.{◌+◌, ◌*◌}
use borrow.Author.Rules.{rules}
use lib.ListN.{take}
use Rattle.model.specs.Values.{constraint_of}
use Rattle.wide_tableau.specs.Cells.{rows_of}
use Rattle.simplex.proofs.Filled.{FirstTable, first-places, first-kinds}
use Rattle.extremes.proofs.Beginning.{taken-rows, begun-table, begun-posed, begun-value}
use Rattle.extremes.proofs.value.of_basic.Statement.{statement}
use Rattle.extremes.proofs.value.of_basic.Tie as tie

-- where the function began and where the table is filled, from where the expression's row stands beside it
abbrev start : tie.After-conditions → tie.Start
start c = c.before.before.before.before

abbrev filling : tie.After-goal_row → tie.After-conditions
filling c = c.before.before.before.before.before

-- from where both are lent
abbrev ready : tie.After-kinds-3-1 → tie.After-goal_row
ready c = c.before.before.before.before

begun : (c : tie.After-conditions) →
    let b = (start c).args.b in
    let l = c.conditions.new in
    FirstTable b (rows_of (take (2 * b.divs + b.cons) l.t)) l.place l.kinds
begun c = begun-table (start c).requires c.conditions.ensures

mul-m : tie.Need-overflow_mul-m
mul-m c = search rules

add-m : tie.Need-overflow_add-m
add-m c = search rules

add-names : tie.Need-overflow_add-names
add-names c = search rules

add-names-2 : tie.Need-overflow_add-names-2
add-names-2 c = search rules

slice-aggregate-conditions : tie.Need-slice_bounds-conditions-end
slice-aggregate-conditions c = search rules

slice-aggregate-conditions-2 : tie.Need-slice_bounds-conditions-end-2
slice-aggregate-conditions-2 c = search rules

slice-aggregate-conditions-3 : tie.Need-slice_bounds-conditions-end-3
slice-aggregate-conditions-3 c = search rules

conditions-requires : tie.Need-conditions-requires
conditions-requires c κs = search rules

goal-row-requires : tie.Need-goal_row-requires
goal-row-requires c κs = search rules

array-borrow-prefix-t : tie.Need-slice_bounds-t-end
array-borrow-prefix-t c = search rules

slice-aggregate-both-halves : tie.Need-slice_bounds-both_halves-end
slice-aggregate-both-halves c = let f = filling c.before in sym (taken-rows (start f).requires _ f.conditions.ensures.long)

add-both-halves : tie.Need-overflow_add-k
add-both-halves c = search rules

array-borrow-prefix-place : tie.Need-slice_bounds-place-end
array-borrow-prefix-place c = search rules

slice-aggregate-both-halves-2 : tie.Need-slice_bounds-both_halves-end-2
slice-aggregate-both-halves-2 c = sym (first-places _ _ _ _ (begun (filling c.before.before.before)))

array-share-prefix-kinds : tie.Need-slice_bounds-kinds-end
array-share-prefix-kinds c = search rules

slice-aggregate-both-halves-3 : tie.Need-slice_bounds-both_halves-end-3
slice-aggregate-both-halves-3 c = sym (first-kinds _ _ _ _ (begun (filling (ready c))))

both-halves-requires : tie.Need-both_halves-requires
both-halves-requires c κs =
    let r = ready c in
    let f = filling r in
    let e = f.conditions.ensures in
    (e.rows.sheets, r.goal_row.ensures.sheet, begun-posed (start f).requires e (constraint_of (start f).args.c) r.goal_row.ensures)

returns : tie.Need-returns
returns c =
    let h = c.before.before in
    let r = ready h.before in
    let f = filling r in
    h.both_halves.ensures ∙ begun-value (start f).requires f.conditions.ensures (constraint_of (start f).args.c) r.goal_row.ensures (start f).args.greatest

pub of_basic_spec : {M : Type 1} → statement M
of_basic_spec =
    tie.close
    (tie.spec
    mul-m
    add-m
    add-names
    add-names-2
    slice-aggregate-conditions
    slice-aggregate-conditions-2
    slice-aggregate-conditions-3
    conditions-requires
    goal-row-requires
    array-borrow-prefix-t
    slice-aggregate-both-halves
    add-both-halves
    array-borrow-prefix-place
    slice-aggregate-both-halves-2
    array-share-prefix-kinds
    slice-aggregate-both-halves-3
    both-halves-requires
    returns)
