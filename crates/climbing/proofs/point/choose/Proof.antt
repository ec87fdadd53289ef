-- `climbing::point::choose` meets its contract. Assumes nothing.
use mathlib.Core.Path.{◌≡◌, sym, ◌∙◌}
use mathlib.Core.List.{List}
use mathlib.Core.Bool.{true, false}
use Prim.Native.Nat.{ℕ}
use native.Mathlib.Omega.{arith}
use borrow.Author.Rules.{rules}
use lib.IntN.{ℤ}
use Rattle.integers.specs.Size.{bound}
use Rattle.wide_tableau.specs.Cells.{cells, rows_of}
use Rattle.simplex.specs.declared.Move.TheVariants.{Pivot}
use Rattle.simplex.specs.Table as S
use Rattle.simplex.proofs.Moves as M
use Rattle.climbing.proofs.Posing as P
use Rattle.climbing.proofs.point.choose.Statement.{statement}
use Rattle.climbing.proofs.point.choose.Tie as tie

abbrev start : tie.After-choose-m → tie.Start
start c = c.before.before.before

module _ (s : tie.Start) where
  abbrev rows : List (List ℤ)
  rows = rows_of s.args.t.now

  abbrev goal : List ℤ
  goal = cells s.args.goal.now

  abbrev place : List ℕ
  place = s.args.place.now

  abbrev kinds : List ℕ
  kinds = s.args.kinds.now

-- steps 1 to 4 without the expression's row say Pivot
module _ (c : tie.In-Pivot) where
  abbrev s : tie.Start
  s = start c.before

  abbrev v : ℕ
  v = c.in-Pivot.v

  abbrev w : ℕ
  w = c.in-Pivot.w

  pivots : S.move_at (bound 128) (rows s) (place s) (kinds s) s.args.left ≡ Pivot v w
  pivots = sym c.choose-m.ensures ∙ c.in-Pivot.is

  crosses : S.CrossingAt (bound 128) s.args.n (rows s) (place s) v w
  crosses = M.crossing_at (bound 128) s.args.n (rows s) (place s) (kinds s) s.args.left v w s.requires.2.fine pivots

choose-requires : tie.Need-choose-m-requires
choose-requires c κs = search rules

enum-known-m : tie.Need-enum_known-m
enum-known-m c = search rules

enum-known-m-2 : tie.Need-enum_known-m-in-Pivot-1
enum-known-m-2 c = search rules

mul-j : tie.Need-offset_bounds-place-w
mul-j c = let m = c in omega (arith, (crosses m).other, (s m).requires.2.fine.names)

shared-slice-read-j : tie.Need-bounds-place-w
shared-slice-read-j c = (crosses c.before).other

sub-j : tie.Need-overflow_sub-j
sub-j c = (crosses c.before).column

row-narrow-requires : tie.Need-row_narrow-requires
row-narrow-requires c κs =
    let m = c.before in let s = s m in
    (s.requires.1, omega (arith, s.requires.2.fine.near (w m) (crosses m).other), s.requires.2.line)

returns : tie.Need-returns-in-Stop
returns c =
    let m = c in let o = m.before in let s = start o in
    P.move-stops (bound 128) (rows s) (goal s) (place s) (kinds s) s.args.left _ (sym o.choose-m.ensures ∙ m.in-Stop.is)

returns-2 : tie.Need-returns-then-row_narrow
returns-2 c =
    let r = c.before in let m = r.before.before in let s = s m in
    P.move-pivots (bound 128) (rows s) (goal s) (place s) (kinds s) s.args.left (v m) (w m) true (pivots m) (sym r.row_narrow.ensures ∙ c.if-row_narrow.true)

returns-3 : tie.Need-returns-else-row_narrow
returns-3 c =
    let r = c.before in let m = r.before.before in let s = s m in
    P.move-pivots (bound 128) (rows s) (goal s) (place s) (kinds s) s.args.left (v m) (w m) false (pivots m) (sym r.row_narrow.ensures ∙ c.if-row_narrow.false)

pub choose_spec : {M : Type 1} → statement M
choose_spec =
    tie.close
    (tie.spec
    choose-requires
    enum-known-m
    enum-known-m-2
    mul-j
    shared-slice-read-j
    sub-j
    row-narrow-requires
    returns
    returns-2
    returns-3)
