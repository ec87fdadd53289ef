-- The steps of the code as those of the definitions: the first sketch, a variable replaced, and how the two loops go on. Assumes nothing.
use mathlib.Core.Path.{◌≡◌, refl, sym, ap, ap₂, ◌∙◌, subst}
use mathlib.Core.Bool.{Bool, true, false, ◌&&◌, cond}
use mathlib.Core.List.{List, [], map}
use mathlib.Core.Option.{none, some}
use Prim.Native.Nat.{ℕ, suc, ◌+◌, ◌-◌, ◌≤◌, ◌<◌, zero-le}
use native.Mathlib.Numerals.{add-one}
use native.Mathlib.Omega.{arith}
use borrow.Author.Tests.{lt-ltb, le-ltb}
use lib.ListN.{get_or, set, replicate}
use lib.IntN.{ℤ, pos, neg_ℤ}
use lib.Signed.{quot_z}
use Rattle.integers.specs.Z.{Within}
use Rattle.integers.specs.Gcd.{gcd}
use Rattle.integers.specs.Size.{bound, within-neg}
use Rattle.model.specs.Sets.{Constraint, is_zero}
use Rattle.feasibility.proofs.Verdicts.{true-false}
use Rattle.tableau.specs.Rows.{den, divisor, divide_row, combine_rows, small_at, Small, Line}
use Rattle.tableau.proofs.Lines as L
use Rattle.tableau.proofs.Searches.{small-within}
use Rattle.wide_tableau.specs.Cells.{cells}
use Rattle.drafting.specs.Sketch.{Sketch, coefficient_at, put_at, put_from, bare, begun, put_in, divisor_of, divided_by, lowest_terms, substituted, both_small, replaced_by, settled_at, and_then, settled_from, row_in, rule_row, sketch_of, Whole, Ready, Near}
use Rattle.drafting.proofs.Sketches.{sketch, divisor-over, q-line, w-line, in_whole}

-- ---- the first sketch

pub bare-is : (z x y : ℤ) (r r' : List ℕ) → x ≡ pos 1 → y ≡ z → cells r ≡ set (cells (replicate 36 0)) 0 x → cells r' ≡ set (cells r) 1 y → sketch_of r' (replicate 36 0) ≡ bare z
unfolding cells
bare-is z x y r r' ex ey e e' = ap (λ l. sketch l (replicate 18 (pos 0))) (e' ∙ ap₂ (λ l v. set l 1 v) (e ∙ ap (set (cells (replicate 36 0)) 0) ex) ey)

module _ (v i : ℕ) (x : ℤ) (row waiting w : List ℕ) where
  pub put_low : i < 64 → cells w ≡ set (cells waiting) (v + 2) x → sketch_of row w ≡ put_at v i x (sketch_of row waiting)
  put_low h e =
      ap (sketch (cells row)) e
      ∙ sym (ap (λ b. sketch (cond b (cells row) (set (cells row) (i - 64 + 2) x)) (cond b (set (cells waiting) (v + 2) x) (cells waiting))) (lt-ltb i 64 h))

  pub put-high : 64 ≤ i → cells w ≡ set (cells row) (i - 64 + 2) x → sketch_of w waiting ≡ put_at v i x (sketch_of row waiting)
  put-high h e =
      ap (λ l. sketch l (cells waiting)) e
      ∙ sym (ap (λ b. sketch (cond b (cells row) (set (cells row) (i - 64 + 2) x)) (cond b (set (cells waiting) (v + 2) x) (cells waiting))) (le-ltb i 64 h))

left : (n v : ℕ) → v < n → n - v ≡ suc (n - (v + 1))
left n v h = omega arith

pub put-start : (r : Constraint) (place : List ℕ) (k : ℕ) (s : Sketch) (z : ℤ) → s ≡ bare z → z ≡ r.constant → put_from r place (8 + k - 0) 0 s ≡ begun k place r
unfolding begun
put-start r place k s z e ez = let n : 8 + k - 0 ≡ 8 + k = omega arith in ap₂ (λ f s. put_from r place f 0 s) n (e ∙ ap bare ez)

pub put-more : (r : Constraint) (place : List ℕ) (n v : ℕ) (s : Sketch) → v < n → put_from r place (n - (v + 1)) (v + 1) (put_at v (get_or place v 0) (coefficient_at r v) s) ≡ put_from r place (n - v) v s
unfolding put_from
put-more r place n v s h = rw (left n v h) (ap (λ u. put_from r place (n - (v + 1)) u (put_at v (get_or place v 0) (coefficient_at r v) s)) (add-one v))

pub put-end : (r : Constraint) (place : List ℕ) (n v : ℕ) (s : Sketch) → n ≤ v → put_from r place (n - v) v s ≡ s
unfolding put_from
put-end r place n v s h = let e : n - v ≡ 0 = omega arith in ap (λ f. put_from r place f v s) e

-- ---- a variable replaced

module _ (g : ℕ) (s : Sketch) where
  pub divided-one : g ≡ 1 → s ≡ divided_by g s
  unfolding divide_row
  divided-one e =
      sym (ap (λ n. sketch (map (λ x. quot_z x (pos n)) s.row) (map (λ x. quot_z x (pos n)) s.waiting)) e ∙ ap₂ sketch (L.map-quot-one s.row) (L.map-quot-one s.waiting))

  pub divided-is : (r w : List ℤ) → r ≡ map (λ x. quot_z x (pos g)) s.row → w ≡ map (λ x. quot_z x (pos g)) s.waiting → sketch r w ≡ divided_by g s
  unfolding divide_row
  divided-is r w a b = ap₂ sketch a b

zero-within : {n : ℕ} → Within n (pos 0)
zero-within = record { size = zero-le }

-- what is combined: with denominator m and the other numbers q of row r, by c and by z, what waits but for v
pub record Parts (v : ℕ) (r : List ℤ) (s : Sketch) (m c z : ℤ) (q w : List ℤ) : Type 0 where
  pub divisor_is : m ≡ den r
  pub row_is : q ≡ set r 0 (pos 0)
  pub by : c ≡ neg_ℤ (get_or s.waiting (v + 2) (pos 0))
  pub none : z ≡ pos 0
  pub others : w ≡ set s.waiting (v + 2) (pos 0)

module _ {n v : ℕ} {r : List ℤ} {s : Sketch} {m c z : ℤ} {q w : List ℤ} (p : Parts v r s m c z q w) (h : Near n s r) where
  pub row_line : Line n q
  row_line = subst (Line n) (sym p.row_is) (q-line n v r s h.ready)

  pub others-line : Line n w
  others-line = subst (Line n) (sym p.others) (w-line n v r s h.ready)

  pub row_small : Small (bound 128) q
  row_small = subst (λ (l : List ℤ). Small (bound 128) l) (sym p.row_is) (L.set-small (bound 128) r 0 (pos 0) zero-within h.near)

  pub others-small : Small (bound 128) w
  others-small = subst (λ (l : List ℤ). Small (bound 128) l) (sym p.others) (L.set-small (bound 128) s.waiting (v + 2) (pos 0) zero-within h.waits)

  pub divisor-near : Within (bound 128) m
  divisor-near = subst (Within (bound 128)) (sym p.divisor_is) (h.near 0)

  pub by_near : Within (bound 128) c
  by_near = subst (Within (bound 128)) (sym p.by) (within-neg (h.waits (v + 2)))

  pub none-near : Within (bound 128) z
  none-near = subst (Within (bound 128)) (sym p.none) zero-within

  module _ {R W : List ℤ} (er : R ≡ combine_rows m c s.row q) (ew : W ≡ combine_rows m z w q) where
    in_is : sketch R W ≡ put_in v r s
    unfolding put_in
    in_is =
        ap₂ sketch
        (er ∙ ap₂ (λ m c. combine_rows m c s.row q) p.divisor_is p.by ∙ ap (combine_rows (den r) (neg_ℤ (get_or s.waiting (v + 2) (pos 0))) s.row) p.row_is)
        (ew ∙ ap₂ (λ m z. combine_rows m z w q) p.divisor_is p.none ∙ ap₂ (combine_rows (den r) (pos 0)) p.others p.row_is)

    pub combined-whole : Whole n (sketch R W)
    combined-whole = subst (Whole n) (sym in_is) (in_whole n v r s h.ready)

    -- divided by the common divisor of both
    pub lowest-is : (g a b : ℕ) → g ≡ gcd a b → a ≡ divisor (combine_rows m c s.row q) → b ≡ divisor (combine_rows m z w q) → (0 < g) × (divided_by g (sketch R W) ≡ substituted v r s)
    lowest-is g a b eg ea eb =
        let e : g ≡ divisor_of (sketch R W) = eg ∙ ap₂ gcd (ea ∙ ap divisor (sym er)) (eb ∙ ap divisor (sym ew)) in
        (subst (λ n. 0 < n) (sym e) (divisor-over (sketch R W) combined-whole.over).0, ap (λ n. divided_by n (sketch R W)) e ∙ ap lowest_terms in_is)

pub both_true : (a b : Bool) → (a && b) ≡ true → (a ≡ true) × (b ≡ true)
both_true true b e = (refl, e)
both_true false b e = true-false (sym e)

module _ (m v : ℕ) (r : List ℤ) (s : Sketch) where
  pub replaced-yes : both_small m s r ≡ true → replaced_by m v r s ≡ some (substituted v r s)
  replaced-yes e = ap (λ b. cond b (some (substituted v r s)) none) e

  pub replaced-no : both_small m s r ≡ false → replaced_by m v r s ≡ none
  replaced-no e = ap (λ b. cond b (some (substituted v r s)) none) e

  pub both-near : (n : ℕ) → m ≡ bound 128 → Ready n s r → both_small m s r ≡ true → Near n s r
  both-near n em h e =
      let a = both_true (small_at m s.row) (small_at m s.waiting && small_at m r) e in
      let b = both_true (small_at m s.waiting) (small_at m r) a.1 in
      subst (λ m. Small m s.row → Small m s.waiting → Small m r → Near n s r) (sym em) (λ x y z. record { ready = h; small = x; waits = y; near = z })
      (small-within s.row a.0) (small-within s.waiting b.0) (small-within r b.1)

module _ (m : ℕ) (rows : List (List ℤ)) (place : List ℕ) (v : ℕ) (s : Sketch) where
  pub settled-none : is_zero (get_or s.waiting (v + 2) (pos 0)) ≡ true → settled_at m rows place v s ≡ some s
  unfolding settled_at
  settled-none e = ap (λ b. cond b (some s) (replaced_by m v (get_or rows (get_or place v 0) []) s)) e

  pub settled-one : is_zero (get_or s.waiting (v + 2) (pos 0)) ≡ false → settled_at m rows place v s ≡ replaced_by m v (get_or rows (get_or place v 0) []) s
  unfolding settled_at
  settled-one e = ap (λ b. cond b (some s) (replaced_by m v (get_or rows (get_or place v 0) []) s)) e

-- ---- all of them

module _ (m : ℕ) (rows : List (List ℤ)) (place : List ℕ) (n v : ℕ) (s : Sketch) where
  pub settle-start : settled_from m rows place (n - 0) 0 s ≡ settled_from m rows place n 0 s
  settle-start = let e : n - 0 ≡ n = omega arith in ap (λ f. settled_from m rows place f 0 s) e

  pub settle-more : (s' : Sketch) → v < n → settled_at m rows place v s ≡ some s' → settled_from m rows place (n - (v + 1)) (v + 1) s' ≡ settled_from m rows place (n - v) v s
  unfolding settled_from
  settle-more s' h e =
      rw (left n v h)
      (ap (λ u. settled_from m rows place (n - (v + 1)) u s') (add-one v) ∙ sym (ap (λ o. and_then o (settled_from m rows place (n - (v + 1)) (suc v))) e))

  pub settle-wide : v < n → settled_at m rows place v s ≡ none → settled_from m rows place (n - v) v s ≡ none
  unfolding settled_from
  settle-wide h e = rw (left n v h) (ap (λ o. and_then o (settled_from m rows place (n - (v + 1)) (suc v))) e)

  pub settle-end : n ≤ v → settled_from m rows place (n - v) v s ≡ some s
  unfolding settled_from
  settle-end h = let e : n - v ≡ 0 = omega arith in ap (λ f. settled_from m rows place f v s) e

pub rule-is : (m k : ℕ) (rows : List (List ℤ)) (place : List ℕ) (r : Constraint) (s : Sketch) (b : Bool) (l w : List ℤ) → s ≡ begun k place r → settled_from m rows place (8 + k) 0 s ≡ cond b (some (sketch l w)) none
    → rule_row m k rows place r ≡ cond b (some l) none
unfolding rule_row
rule-is m k rows place r s b l w e q = ap row_in (ap (settled_from m rows place (8 + k) 0) (sym e) ∙ q) ∙ at b
  where
    at : (b : Bool) → row_in (cond b (some (sketch l w)) none) ≡ cond b (some l) none
    at true = refl
    at false = refl
