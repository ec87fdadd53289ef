use Rattle.std.proofs.Common.{◌≡◌, ℕ, ◌+◌, ◌<◌, sym, ap, ◌∙◌, subst, List, [], length, get_or, set, map, pos, arith}
use Rattle.std.specs.Prelude.{ℤ}
use Rattle.wide_tableau.specs.Cells.{cells, rows_of, Sheet, Sheets, Becomes}
use Rattle.wide.specs.Wide.{value_of}
use Rattle.integers.specs.Size.{bound}
use lib.ListN.{length-set}
use lib.Seq.{get_or-set_same, get_or-set_other, set-set}
use Rattle.wide_tableau.proofs.Sheets.{rows_at, rows-set, rows-length, sheets-set}
use Rattle.tableau.specs.Rows as R
use Rattle.tableau.proofs.Lines as L
use Rattle.wide_tableau.proofs.pivot.exchange.Goals as goal

-- the table at the start
module _ (n i j : ℕ) (t : List (List ℕ)) (hs : Sheets t) (d : R.ReadyAt (bound 128) n (rows_of t) i j) where
  row : i < length t
  row = let e = rows-length t in omega (arith, d.row)

  fits : (k : ℕ) → k < length t → R.FitAt (bound 128) n (cells (get_or t k [])) j
  fits k l =
      let e = rows-length t in
      let h : k < length (rows_of t) = omega arith in
      subst (λ (r : List ℤ). R.FitAt (bound 128) n r j) (rows_at t k) (d.rows k h)

  cross : R.entry (cells (get_or t i [])) j ≡ pos 0 → ⊥
  cross e = d.cross (ap (λ (r : List ℤ). R.entry r j) (rows_at t i) ∙ e)

  -- row i is solved: p
  module _ (p : List ℕ) (e : Becomes p (R.solve_row (cells (get_or t i [])) j)) where
    copied : get_or (set t i p) i [] ≡ p
    copied = get_or-set_same t i p [] row

    copied-sheet : Sheet (get_or (set t i p) i [])
    copied-sheet = subst Sheet (sym copied) e.sheet

    sound : L.Sound n (bound 128) (cells p)
    sound =
        let w = fits i row in
        subst (L.Sound n (bound 128)) (sym e.is)
        (L.solve-sound_at (bound 128) n (cells (get_or t i [])) j d.col w.line (w.small cross) cross)

    table : rows_of (set t i p) ≡ set (rows_of t) i (cells p)
    table = rows-set t i p

    own : get_or (rows_of (set t i p)) i [] ≡ cells p
    own = rows_at (set t i p) i ∙ ap cells copied

    count : (k : ℕ) → k ≡ R.touched j (set (rows_of (set t i p)) i []) → k + 1 ≡ R.touched j (rows_of t)
    count k h =
        let e = ap (λ (l : List (List ℤ)). R.touched j (set l i [])) table ∙ ap (R.touched j) (set-set (rows_of t) i (cells p) []) in
        omega (arith, h, L.touched-others j i (rows_of t) d.row d.cross)

pub solve-requires : goal.solve-requires
solve-requires c =
    let i = c.args.i in
    let j = c.args.j in
    let t = c.args.t.now in
    let d = c.requires.1 in
    let o = row c.args.n i j t c.requires.0 d in
    let w = fits c.args.n i j t c.requires.0 d i o in
    let x = cross c.args.n i j t c.requires.0 d in
    (c.requires.0.at i o, d.col, w.line, w.small x, x)

pub cell_at-m-requires : goal.cell_at-m-requires
cell_at-m-requires c = (copied-sheet c.args.n c.args.i c.args.j c.args.t.now c.requires.0 c.requires.1 c.solve.new.r c.solve.ensures, omega arith)

pub wipe-requires : goal.wipe-requires
wipe-requires c = copied-sheet c.args.n c.args.i c.args.j c.args.t.now c.requires.0 c.requires.1 c.solve.new.r c.solve.ensures

pub sweep-requires : goal.sweep-requires
sweep-requires c =
    let n = c.args.n in
    let i = c.args.i in
    let j = c.args.j in
    let t = c.args.t.now in
    let d = c.requires.1 in
    let r = c.solve.new.r in
    let e = length-set t i r in
    let u = rows-length t in
    let v = d.count in
    let z = d.col in
    let o = copied n i j t c.requires.0 d r c.solve.ensures in
    let w = (fits n i j t c.requires.0 d i (row n i j t c.requires.0 d)).line.fit in
    let m = c.cell_at-m.ensures.0 ∙ ap (λ (r : List ℕ). get_or (cells r) 0 (pos 0)) o in
    let q = c.wipe.ensures.is ∙ ap (λ (r : List ℕ). set (cells r) 0 (pos 0)) o in (
      sheets-set t i r c.requires.0 c.solve.ensures.sheet,
      c.wipe.ensures.sheet,
      omega arith,
      omega arith,
      λ k l g. subst (λ (y : List ℕ). R.FitAt (bound 128) n (cells y) j) (sym (get_or-set_other t i k r [] g)) (fits n i j t c.requires.0 d k (omega arith)),
      subst (λ (y : ℤ). R.DivisorAt (bound 128) n y (cells c.wipe.new.r)) (sym m)
          (subst (R.DivisorAt (bound 128) n (get_or (cells r) 0 (pos 0))) (sym q) (L.divisor-of n (cells r) (sound n i j t c.requires.0 d r c.solve.ensures))),
    )

pub overflow_add-result : goal.overflow_add-result
overflow_add-result c =
    let d = c.requires.1 in
    record { fits = omega (arith, count c.args.n c.args.i c.args.j c.args.t.now c.requires.0 d c.solve.new.r c.solve.ensures _ c.sweep.ensures.1, L.touched-le c.args.j (rows_of c.args.t.now), d.count) }

pub returns : goal.returns
returns c =
    let n = c.args.n in
    let i = c.args.i in
    let j = c.args.j in
    let t = c.args.t.now in
    let d = c.requires.1 in
    let p = c.solve.new.r in
    let h = c.solve.ensures in
    let o = copied n i j t c.requires.0 d p h in
    let m = value_of c.cell_at-m.result in
    let q = cells c.wipe.new.r in
    let e = c.sweep.ensures.0 in
    let f = R.rebuild_row j m q in (
      record {
        is =
            e.is
            ∙ ap (λ (l : List ℤ). set (map f (rows_of (set t i p))) i l) (own n i j t c.requires.0 d p h)
            ∙ ap (λ (l : List (List ℤ)). set (map f l) i (cells p)) (table n i j t c.requires.0 d p h)
            ∙ L.exchanged-others (rows_of t) i j m (cells p) q
            (h.is ∙ ap (λ (l : List ℤ). R.solve_row l j) (sym (rows_at t i)))
            (c.cell_at-m.ensures.0 ∙ ap (λ (r : List ℕ). get_or (cells r) 0 (pos 0)) o)
            (c.wipe.ensures.is ∙ ap (λ (r : List ℕ). set (cells r) 0 (pos 0)) o);
        sheets = e.sheets;
      },
      count n i j t c.requires.0 d p h _ c.sweep.ensures.1,
    )
