-- `climbing::cross::cross` meets its contract. Assumes nothing.
use mathlib.Core.Path.{◌≡◌, sym, ap, ap₂, ◌∙◌, subst}
use mathlib.Core.List.{List, []}
use Prim.Native.Nat.{ℕ, ◌-◌, ◌<◌}
use native.Mathlib.Omega.{arith}
use borrow.Author.Rules.{rules}
use lib.ListN.{length, get_or, set}
use lib.IntN.{ℤ, pos}
use Rattle.integers.specs.Size.{bound}
use Rattle.wide.specs.Wide.{value_of}
use Rattle.tableau.specs.Rows as R
use Rattle.wide_tableau.specs.Cells.{cells, rows_of, Sheet}
use Rattle.wide_tableau.proofs.Sheets.{rows_at, rows-length}
use Rattle.simplex.specs.Table as S
use Rattle.simplex.proofs.Moves as M
use Rattle.climbing.specs.Steps as C
use Rattle.climbing.proofs.Posing.{leaving-divisor, pivot-own}
use Rattle.climbing.proofs.cross.cross.Statement.{statement}
use Rattle.climbing.proofs.cross.cross.Tie as tie

-- the table once the row and the column have changed places
module _ (x : tie.After-pivot) where
  abbrev s : tie.Start
  s = x.before.before.before.before.before.before

  abbrev rows : List (List ℤ)
  rows = rows_of s.args.t.now

  abbrev place : List ℕ
  place = s.args.place.now

  abbrev i : ℕ
  i = get_or place s.args.v 0

  abbrev j : ℕ
  j = get_or place s.args.w 0 - 64

  abbrev d : S.CrossingAt (bound 128) s.args.n rows place s.args.v s.args.w
  d = s.requires.2

  abbrev table : List (List ℕ)
  table = x.pivot.new.t

  -- the row that has been solved
  abbrev p : List ℤ
  p = R.solve_row (get_or rows i []) j

  there : i < length table
  there = let e = sym (rows-length table) ∙ ap length x.pivot.ensures.0.is ∙ M.rows-length rows place s.args.v s.args.w in omega (arith, d.ready.row)

  own : cells (get_or table i []) ≡ p
  own = sym (rows_at table i) ∙ ap (λ (l : List (List ℤ)). get_or l i []) x.pivot.ensures.0.is ∙ pivot-own rows place s.args.v s.args.w d.ready.row

  own-sheet : Sheet (get_or table i [])
  own-sheet = x.pivot.ensures.0.sheets.at i there

-- the copy of it that goes into the expression's row: m and q
module _ (y : tie.After-wipe) where
  abbrev pivoted : tie.After-pivot
  pivoted = y.before.before.before.before.before.before.before.before

  m-is : value_of y.before.before.cell_at-m.result ≡ R.den (p pivoted)
  m-is = y.before.before.cell_at-m.ensures.0 ∙ ap R.den (own pivoted)

  q-is : cells y.wipe.new.r ≡ set (p pivoted) 0 (pos 0)
  q-is = y.wipe.ensures.is ∙ ap (λ (r : List ℤ). set r 0 (pos 0)) (own pivoted)

mul-i : tie.Need-offset_bounds-place-v
mul-i c = search rules

slice-read-i : tie.Need-bounds-place-v
slice-read-i c = search rules

mul-c : tie.Need-offset_bounds-place-w
mul-c c = search rules

slice-read-c : tie.Need-bounds-place-w
slice-read-c c = search rules

pivot-requires : tie.Need-pivot-requires
pivot-requires c κs = search rules

mul-p : tie.Need-offset_bounds-t-i
mul-p c = search rules

slice-copy-out-p : tie.Need-slice_copy_out-p
slice-copy-out-p c = there c.before.before.before

cell-at-requires : tie.Need-cell_at-m-requires
cell-at-requires c κs = (own-sheet c.before.before.before.before.before, omega arith)

wipe-requires : tie.Need-wipe-requires
wipe-requires c κs = own-sheet c.before.before.before.before.before.before.before

sub-rebuild : tie.Need-overflow_sub-c
sub-rebuild c = search rules

rebuild-requires : tie.Need-rebuild-requires
rebuild-requires c κs =
    let y = c.before.before in let x = pivoted y in let s = s x in let n = s.args.n in (
      s.requires.1,
      y.wipe.ensures.sheet,
      omega (arith, (d x).ready.col, s.requires.3.line.fit),
      s.requires.3,
      subst (λ (z : ℤ). R.DivisorAt (bound 128) n z (cells y.wipe.new.r)) (sym (m-is y))
          (subst (R.DivisorAt (bound 128) n (R.den (p x))) (sym (q-is y)) (leaving-divisor n (rows x) (place x) s.args.v s.args.w (d x))),
    )

same_length : tie.Need-shape_of-t
same_length c = search rules

same-length-2 : tie.Need-shape_of-place
same-length-2 c = search rules

returns : tie.Need-returns
unfolding C.pivot_goal
returns c =
    let y = c.before.before.before in let x = pivoted y in let e = c.rebuild.ensures.0 in (
      x.pivot.ensures.0,
      record { is = e.is ∙ ap₂ (λ (m : ℤ) (q : List ℤ). R.rebuild_row (j x) m q (cells (s x).args.goal.now)) (m-is y) (q-is y); sheet = e.sheet },
      x.pivot.ensures.1,
    )

pub cross_spec : {M : Type 1} → statement M
cross_spec =
    tie.close
    (tie.spec
    mul-i
    slice-read-i
    mul-c
    slice-read-c
    pivot-requires
    mul-p
    slice-copy-out-p
    cell-at-requires
    wipe-requires
    sub-rebuild
    rebuild-requires
    same_length
    same-length-2
    returns)
