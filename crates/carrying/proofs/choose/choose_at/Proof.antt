-- `carrying::choose::choose_at` meets its contract. Assumes nothing.
use mathlib.Core.Path.{◌≡◌, sym, ap, ◌∙◌, subst}
use mathlib.Core.List.{List, []}
use mathlib.Core.Bool.{true, false}
use Prim.Native.Nat.{ℕ, ◌<◌}
use native.Mathlib.Omega.{arith}
use borrow.Author.Rules.{rules}
use lib.ListN.{length, get_or}
use lib.IntN.{ℤ}
use Rattle.integers.specs.Size.{bound}
use Rattle.tableau.specs.Rows as R
use Rattle.tableau.proofs.Searches as Q
use Rattle.wide_tableau.specs.Cells.{rows_of}
use Rattle.wide_tableau.proofs.Sheets.{rows_at, rows-length}
use Rattle.simplex.proofs.Moves as M
use Rattle.carrying.proofs.choose.choose_at.Statement.{statement}
use Rattle.carrying.proofs.choose.choose_at.Tie as tie

-- where the row stands
spot : (c : tie.Start) → get_or c.args.place.now c.args.v 0 < length c.args.t.now
spot c = subst (λ (n : ℕ). get_or c.args.place.now c.args.v 0 < n) (rows-length c.args.t.now) (M.row-spot c.args.n (rows_of c.args.t.now) c.args.place.now c.args.kinds.now c.args.v c.requires.1 c.requires.2 c.requires.3)

found : (c : tie.After-helping-w) → let s = c.before.before.before.before in c.helping-w.result ≡ R.helping (get_or (rows_of s.args.t.now) (get_or s.args.place.now s.args.v 0) []) s.args.place.now s.args.kinds.now
found c = let s = c.before.before.before.before in c.helping-w.ensures ∙ sym (ap (λ (r : List ℤ). R.helping r s.args.place.now s.args.kinds.now) (rows_at s.args.t.now (get_or s.args.place.now s.args.v 0)))

mul-i : tie.Need-offset_bounds-place-v
mul-i c = search rules

shared-slice-read-i : tie.Need-bounds-place-v
shared-slice-read-i c = search rules

mul-helping : tie.Need-offset_bounds-t-i
mul-helping c = let s = c.before.before.before in let h = spot s in let e = rows-length s.args.t.now in omega (arith, s.requires.1.count)

shared-slice-element-helping : tie.Need-bounds-t-i
shared-slice-element-helping c = spot c.before.before.before

helping-requires : tie.Need-helping-w-requires
helping-requires c κs = let s = c.before.before.before in (s.requires.0.at _ (spot s), s.requires.1.same, s.requires.1.near)

returns : tie.Need-returns-then-count-w
returns c =
    let h = c.before in let s = h.before.before.before.before in
    M.choose-dropped_at (bound 128) (rows_of s.args.t.now) s.args.place.now s.args.kinds.now s.args.left s.args.v s.requires.2 s.requires.3 h.helping-w.result (found h) c.if-count-w.true

returns-2 : tie.Need-returns-then-left-eq0
returns-2 c =
    let h = c.before.before in let s = h.before.before.before.before in
    M.choose-long_at (bound 128) (rows_of s.args.t.now) s.args.place.now s.args.kinds.now s.args.left s.args.v s.requires.2 s.requires.3 h.helping-w.result (found h) c.before.if-count-w.false c.if-left-eq0.true

mul-j : tie.Need-offset_bounds-place-w
mul-j c = search rules

shared-slice-read-j : tie.Need-bounds-place-w
shared-slice-read-j c = search rules

sub-j : tie.Need-overflow_sub-j
sub-j c =
    let h = c.before.before.before in let s = h.before.before.before.before in let place = s.args.place.now in
    (Q.column-spot (get_or (rows_of s.args.t.now) (get_or place s.args.v 0) []) place s.args.kinds.now h.helping-w.result (found h) c.before.before.if-count-w.false).0

narrow-requires : tie.Need-narrow-requires
narrow-requires c κs =
    let h = c.before.before.before in let s = h.before.before.before.before in let f = s.requires.1 in let t = s.args.t.now in let e = rows-length t in
    (s.requires.0, omega (arith, f.near h.helping-w.result c.before.before.if-count-w.false), λ k l. subst (R.Line s.args.n) (rows_at t k) (f.line k (subst (λ (n : ℕ). k < n) (sym e) l)))

returns-3 : tie.Need-returns-then-narrow
returns-3 c =
    let n = c.before in let y = n.before.before in let x = y.before in let h = x.before in let s = h.before.before.before.before in
    M.choose-last_at (bound 128) (rows_of s.args.t.now) s.args.place.now s.args.kinds.now s.args.left s.args.v s.requires.2 s.requires.3 h.helping-w.result (found h) true x.if-count-w.false y.if-left-eq0.false (sym n.narrow.ensures ∙ c.if-narrow.true)

returns-4 : tie.Need-returns-else-narrow
returns-4 c =
    let n = c.before in let y = n.before.before in let x = y.before in let h = x.before in let s = h.before.before.before.before in
    M.choose-last_at (bound 128) (rows_of s.args.t.now) s.args.place.now s.args.kinds.now s.args.left s.args.v s.requires.2 s.requires.3 h.helping-w.result (found h) false x.if-count-w.false y.if-left-eq0.false (sym n.narrow.ensures ∙ c.if-narrow.false)

pub choose_at_spec : {M : Type 1} → statement M
choose_at_spec =
    tie.close
    (tie.spec
    mul-i
    shared-slice-read-i
    mul-helping
    shared-slice-element-helping
    helping-requires
    returns
    returns-2
    mul-j
    shared-slice-read-j
    sub-j
    narrow-requires
    returns-3
    returns-4)
