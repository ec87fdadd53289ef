-- `climbing::stops::stops` meets its contract. Assumes nothing.
use mathlib.Core.Path.{sym, ap, ◌∙◌, subst}
use mathlib.Core.List.{List, []}
use mathlib.Core.Bool.{Bool, false, cond}
use Prim.Native.Nat.{ℕ, ◌<◌}
use native.Mathlib.Omega.{arith}
use borrow.Author.Rules.{rules}
use borrow.Author.Tests.{lt-ltb, le-ltb}
use lib.ListN.{length, get_or}
use lib.IntN.{ℤ}
use Rattle.tableau.specs.Rows as R
use Rattle.wide_tableau.specs.Cells.{rows_of}
use Rattle.wide_tableau.proofs.Sheets.{rows_at, rows-length}
use Rattle.climbing.specs.Steps.{moved, stops_at}
use Rattle.climbing.proofs.stops.stops.Statement.{statement}
use Rattle.climbing.proofs.stops.stops.Tie as tie

abbrev begun : tie.Then-i-lt64 → tie.Start
begun c = c.before.before.before.before.before

-- the change of a row
abbrev changed : tie.Start → List ℤ → ℤ
changed s r = moved s.args.up (R.entry r s.args.j)

-- where the row stands
spot : (c : tie.Then-i-lt64) → let s = begun c in get_or s.args.place.now s.args.v 0 < length s.args.t.now
spot c =
    let s = begun c in
    subst (λ (n : ℕ). get_or s.args.place.now s.args.v 0 < n) (rows-length s.args.t.now) (s.requires.1.spot s.args.v s.requires.3 c.if-i-lt64.true)

mul-i : tie.Need-offset_bounds-place-v
mul-i c = search rules

shared-slice-read-i : tie.Need-bounds-place-v
shared-slice-read-i c = search rules

shared-slice-read-kind : tie.Need-bounds-kinds-v
shared-slice-read-kind c = search rules

mul-cell-at : tie.Need-offset_bounds-t-i
mul-cell-at c = search rules

shared-slice-element-cell-at : tie.Need-bounds-t-i
shared-slice-element-cell-at c = spot c

add-cell-at : tie.Need-overflow_add-j
add-cell-at c = search rules

cell-at-requires : tie.Need-cell_at-e-requires
cell-at-requires c κs = let t = c in let s = begun t in (s.requires.0.at _ (spot t), omega (arith, s.requires.2))

change-requires : tie.Need-change-x-requires
change-requires c κs = search rules

is-violated-requires : tie.Need-is_violated-requires
is-violated-requires c κs = search rules

returns : tie.Need-returns-then-i-lt64
unfolding stops_at
returns c =
    let x = c.before in let e = x.before in let t = e.before in let s = begun t in
    let i = get_or s.args.place.now s.args.v 0 in let k = get_or s.args.kinds.now s.args.v 0 in
    c.is_violated.ensures
    ∙ ap (R.violated_by k) (x.change-x.ensures ∙ ap (moved s.args.up) e.cell_at-e.ensures.0 ∙ ap (changed s) (sym (rows_at s.args.t.now i)))
    ∙ sym (ap (λ (b : Bool). cond b (R.violated_by k (changed s (get_or (rows_of s.args.t.now) i []))) false) (lt-ltb i 64 t.if-i-lt64.true))

returns-2 : tie.Need-returns
unfolding stops_at
returns-2 c =
    let s = c.before.before.before.before.before in
    let i = get_or s.args.place.now s.args.v 0 in let k = get_or s.args.kinds.now s.args.v 0 in
    sym (ap (λ (b : Bool). cond b (R.violated_by k (changed s (get_or (rows_of s.args.t.now) i []))) false) (le-ltb i 64 c.if-i-lt64.false))

pub stops_spec : {M : Type 1} → statement M
stops_spec =
    tie.close
    (tie.spec
    mul-i
    shared-slice-read-i
    shared-slice-read-kind
    mul-cell-at
    shared-slice-element-cell-at
    add-cell-at
    cell-at-requires
    change-requires
    is-violated-requires
    returns
    returns-2)
