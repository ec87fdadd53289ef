-- Row i is solved, its copy is put into the others, and it counts as one row more.
use Rattle.std.proofs.Common.{◌≡◌, ℕ, ◌+◌, sym, ap, ◌∙◌, subst, List, [], map, get_or, set, arith}
use Rattle.std.specs.Prelude.{ℤ, pos}
use mir.Syntax.{w64}
use mir.Val.{to_z, of_z}
use lib.ListN.{length-set}
use lib.Seq.{get_or-set_same, get_or-set_other, set-set}
use Rattle.integers.specs.Size.{bound}
use Rattle.tableau.specs.Rows.{rebuild_row as rebuild_of, solve_row as solve_of, touched, Fit, Ready}
use Rattle.tableau.proofs.Lines.{Sound, solve-sound, divisor-of, touched-others, touched-le, exchanged-others, back, wider}
use Rattle.tableau.proofs.pivot.exchange.Goals as goal

-- row i is solved: p; its denominator and its other numbers, as they are put in
module _ (n : ℕ) (t : List (List ℤ)) (i j : ℕ) (d : Ready n t i j) (p : List ℤ) (e : p ≡ solve_of (get_or t i []) j) where
  abbrev m : ℤ
  m = to_z w64 (of_z w64 (get_or (get_or (set t i p) i []) 0 (pos 0)))

  abbrev q : List ℤ
  q = set (get_or (set t i p) i []) 0 (pos 0)

  solved : Sound n (bound 64) p
  solved = let w = d.rows i d.row in subst (Sound n (bound 64)) (sym e) (solve-sound n (get_or t i []) j d.col w.line (w.small d.cross) d.cross)

  copied : get_or (set t i p) i [] ≡ p
  copied = get_or-set_same t i p [] d.row

  m-is : m ≡ get_or p 0 (pos 0)
  m-is = ap (λ r. to_z w64 (of_z w64 (get_or r 0 (pos 0)))) copied ∙ back (wider (solved.small 0))

  q-is : q ≡ set p 0 (pos 0)
  q-is = ap (λ r. set r 0 (pos 0)) copied

  count : (k : ℕ) → k ≡ touched j (set (set t i p) i []) → k + 1 ≡ touched j t
  count k h = omega (arith, h, ap (touched j) (set-set t i p []), touched-others j i t d.row d.cross)

  exchanged : set (map (rebuild_of j m q) (set t i p)) i (get_or (set t i p) i []) ≡ Rattle.tableau.specs.Rows.exchange_rows t i j
  exchanged = ap (set (map (rebuild_of j m q) (set t i p)) i) copied ∙ exchanged-others t i j m p q e m-is q-is

pub sweep-requires : goal.sweep-requires
sweep-requires c =
    let n = c.args.n in
    let t = c.args.t.now in
    let i = c.args.i in
    let j = c.args.j in
    let d = c.requires in
    let p = c.solve.new.r in
    let s = solved n t i j d p c.solve.ensures in
    let w = (d.rows i d.row).line.fit in (
      omega (arith, d.col),
      omega (arith, length-set t i p, d.count),
      λ k l f. subst (λ r. Fit n r j) (sym (get_or-set_other t i k p [] f)) (d.rows k (omega (arith, length-set t i p))),
      rw (m-is n t i j d p c.solve.ensures, q-is n t i j d p c.solve.ensures) (divisor-of n p s),
    )

pub overflow_add-result : goal.overflow_add-result
overflow_add-result c =
    record { fits = omega (arith, count c.args.n c.args.t.now c.args.i c.args.j c.requires c.solve.new.r c.solve.ensures _ c.sweep.ensures.1, touched-le c.args.j c.args.t.now, c.requires.count) }

pub returns : goal.returns
returns c = (
  c.sweep.ensures.0 ∙ exchanged c.args.n c.args.t.now c.args.i c.args.j c.requires c.solve.new.r c.solve.ensures,
  count c.args.n c.args.t.now c.args.i c.args.j c.requires c.solve.new.r c.solve.ensures _ c.sweep.ensures.1,
)
