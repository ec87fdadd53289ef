-- `climbing::stops::over` meets its contract. Assumes nothing.
use mathlib.Core.Path.{sym, ap, ◌∙◌, subst}
use mathlib.Core.List.{List, []}
use mathlib.Core.Bool.{Bool, cond}
use Prim.Native.Nat.{ℕ, ◌<◌}
use borrow.Author.Rules.{rules}
use borrow.Author.Tests.{eq-eqb, ne_eqb}
use lib.Dec.{lit<}
use lib.ListN.{length, get_or}
use lib.IntN.{ℤ, pos}
use Rattle.wide_tableau.specs.Cells.{rows_of}
use Rattle.wide_tableau.proofs.Sheets.{rows_at, rows-length}
use Rattle.climbing.proofs.stops.over.Statement.{statement}
use Rattle.climbing.proofs.stops.over.Tie as tie

abbrev begun : tie.Else-kind-eq2 → tie.Start
begun c = c.before.before.before.before.before

-- where the row stands
spot : (c : tie.Else-kind-eq2) → let s = begun c in get_or s.args.place.now s.args.v 0 < length s.args.t.now
spot c =
    let s = begun c in
    subst (λ (n : ℕ). get_or s.args.place.now s.args.v 0 < n) (rows-length s.args.t.now) (s.requires.1.spot s.args.v s.requires.2 s.requires.3)

mul-i : tie.Need-offset_bounds-place-v
mul-i c = search rules

shared-slice-read-i : tie.Need-bounds-place-v
shared-slice-read-i c = search rules

shared-slice-read-kind : tie.Need-bounds-kinds-v
shared-slice-read-kind c = search rules

widen-requires : tie.Need-widen-requires
widen-requires c κs = search rules

returns : tie.Need-returns-then-kind-eq2
returns c =
    let t = c.before in let s = t.before.before.before.before.before in
    let r = get_or (rows_of s.args.t.now) (get_or s.args.place.now s.args.v 0) [] in
    c.widen.ensures.0 ∙ sym (ap (λ (b : Bool). cond b (pos 0) (get_or r 1 (pos 0))) (eq-eqb _ 2 t.if-kind-eq2.true))

mul-cell-at : tie.Need-offset_bounds-t-i
mul-cell-at c = search rules

shared-slice-element-cell-at : tie.Need-bounds-t-i
shared-slice-element-cell-at c = spot c

cell-at-requires : tie.Need-cell_at-requires
cell-at-requires c κs = let e = c in ((begun e).requires.0.at _ (spot e), lit< tt)

returns-2 : tie.Need-returns
returns-2 c =
    let e = c.before in let s = begun e in
    let i = get_or s.args.place.now s.args.v 0 in let r = get_or (rows_of s.args.t.now) i [] in
    c.cell_at.ensures.0 ∙ ap (λ (l : List ℤ). get_or l 1 (pos 0)) (sym (rows_at s.args.t.now i))
    ∙ sym (ap (λ (b : Bool). cond b (pos 0) (get_or r 1 (pos 0))) (ne_eqb _ 2 e.if-kind-eq2.false))

pub over_spec : {M : Type 1} → statement M
over_spec =
    tie.close
    (tie.spec
    mul-i
    shared-slice-read-i
    shared-slice-read-kind
    widen-requires
    returns
    mul-cell-at
    shared-slice-element-cell-at
    cell-at-requires
    returns-2)
