-- Where a test stops (document 01, "The test for fractions", steps 3 and 4): long after 200 pivots, wide before an
-- exchange that touches a row with a number beyond the bound. The pivots that a test counts are exchanges that it made.
use mathlib.Core.Path.{◌≡◌, refl, sym, ap, ◌∙◌, subst}
use mathlib.Core.Bool.{Bool, true, false, not, ◌&&◌, ◌||◌}
use mathlib.Core.List.{List, [], ◌∷◌}
use mathlib.Core.Option.{Option}
use Prim.Native.Nat.{ℕ, zero, suc, ◌+◌, ◌-◌, ◌<◌, suc-le-suc}
use native.Mathlib.Nat.{zero-add, suc-add, zero-lt-suc}
use native.Mathlib.Omega.{arith}
use lib.Dec.{T, leb, nleb→lt}
use lib.IntN.{ℤ, pos, nat_abs}
use lib.ListN.{length, get_or}
use Rattle.model.specs.Lists.{all}
use Rattle.model.specs.Sets.{Kind, BasicSet, is_zero}
use Rattle.feasibility.specs.Tableau.{Verdict, point, dropped, long, wide, Row, Tableau, entry, no_row, exchange, narrow, bound, Look, none_violated, none_helps, pivot, look, Ending, reach, run, sorts, begin, ends_at, test_at, test_ends, test, pivots_made}
use Rattle.feasibility.proofs.Reach.{reach-calm, reach-stuck, reach-long, reach-wide, reach_step}
use Rattle.feasibility.proofs.Sizes.{Stopped, wide-stops, bounded, carried-is, test-128}

-- ---- the pivots made

-- so many exchanges lead from a tableau to u, each of the row and column that steps 1 and 2 find, in numbers that fit
pub data Pivots (fits : ℕ → Tableau → Bool) (sort : ℕ → Option Kind) (u : Tableau) : ℕ → Tableau → Type 0 where
  there : Pivots fits sort u 0 u
  exchanged : {k : ℕ} {t : Tableau} (i j : ℕ) → look sort t ≡ pivot i j → fits j t ≡ true
      → Pivots fits sort u k (exchange i j t) → Pivots fits sort u (suc k) t

-- the pivots of a test that n may be made of, from t, and that ends as e
record Made (fits : ℕ → Tableau → Bool) (sort : ℕ → Option Kind) (n : ℕ) (t : Tableau) (e : Ending) : Type 0 where
  pivots : ℕ
  sum : pivots + e.left ≡ n
  way : Pivots fits sort e.tableau pivots t

abbrev NotLong : Verdict → Type 0
NotLong point = Unit {0}
NotLong dropped = Unit {0}
NotLong long = ⊥
NotLong wide = Unit {0}

module _ (fits : ℕ → Tableau → Bool) (sort : ℕ → Option Kind) where
  made : (n : ℕ) (t : Tableau) → Made fits sort n t (reach fits sort n t)
  made zero t = at (look sort t) refl
    where
      at : (l : Look) → look sort t ≡ l → Made fits sort 0 t (reach fits sort 0 t)
      at none_violated q = subst (Made fits sort 0 t) (sym (reach-calm fits sort 0 t q)) (record { pivots = 0; sum = refl; way = there })
      at none_helps q = subst (Made fits sort 0 t) (sym (reach-stuck fits sort 0 t q)) (record { pivots = 0; sum = refl; way = there })
      at (pivot i j) q = subst (Made fits sort 0 t) (sym (reach-long fits sort i j t q)) (record { pivots = 0; sum = refl; way = there })
  made (suc n) t = at (look sort t) refl (λ t'. made n t')
    where
      at : (l : Look) → look sort t ≡ l → ((t' : Tableau) → Made fits sort n t' (reach fits sort n t')) → Made fits sort (suc n) t (reach fits sort (suc n) t)
      at none_violated q ih = subst (Made fits sort (suc n) t) (sym (reach-calm fits sort (suc n) t q)) (record { pivots = 0; sum = zero-add (suc n); way = there })
      at none_helps q ih = subst (Made fits sort (suc n) t) (sym (reach-stuck fits sort (suc n) t q)) (record { pivots = 0; sum = zero-add (suc n); way = there })
      at (pivot i j) q ih = on (fits j t) refl
        where
          on : (b : Bool) → fits j t ≡ b → Made fits sort (suc n) t (reach fits sort (suc n) t)
          on false z = subst (Made fits sort (suc n) t) (sym (reach-wide fits sort n i j t q z)) (record { pivots = 0; sum = zero-add (suc n); way = there })
          on true z =
              let m = ih (exchange i j t) in
              subst (Made fits sort (suc n) t) (sym (reach_step fits sort n i j t q z))
              (record { pivots = suc m.pivots; sum = suc-add m.pivots (reach fits sort n (exchange i j t)).left ∙ ap suc m.sum; way = exchanged i j q z m.way })

  -- long: no pivot is left
  long-none : (n : ℕ) (t : Tableau) → run fits sort n t ≡ long → (reach fits sort n t).left ≡ 0
  long-none zero t e = at (look sort t) refl
    where
      at : (l : Look) → look sort t ≡ l → (reach fits sort 0 t).left ≡ 0
      at none_violated q = ap (λ (e : Ending). e.left) (reach-calm fits sort 0 t q)
      at none_helps q = ap (λ (e : Ending). e.left) (reach-stuck fits sort 0 t q)
      at (pivot i j) q = ap (λ (e : Ending). e.left) (reach-long fits sort i j t q)
  long-none (suc n) t e = at (look sort t) refl (λ t'. long-none n t')
    where
      not-long : {u : Ending} → reach fits sort (suc n) t ≡ u → NotLong u.verdict → ⊥
      not-long s w = subst NotLong (sym (ap (λ (e : Ending). e.verdict) s) ∙ e) w

      at : (l : Look) → look sort t ≡ l → ((t' : Tableau) → run fits sort n t' ≡ long → (reach fits sort n t').left ≡ 0) → (reach fits sort (suc n) t).left ≡ 0
      at none_violated q ih = absurd (not-long (reach-calm fits sort (suc n) t q) tt)
      at none_helps q ih = absurd (not-long (reach-stuck fits sort (suc n) t q) tt)
      at (pivot i j) q ih = on (fits j t) refl
        where
          on : (b : Bool) → fits j t ≡ b → (reach fits sort (suc n) t).left ≡ 0
          on false z = absurd (not-long (reach-wide fits sort n i j t q z) tt)
          on true z =
              let s = reach_step fits sort n i j t q z in
              ap (λ (e : Ending). e.left) s ∙ ih (exchange i j t) (sym (ap (λ (e : Ending). e.verdict) s) ∙ e)

-- whatever the answer: the pivots counted are the exchanges made from the first tableau, at W bits
pub pivots-at : (W : ℕ) (b : BasicSet)
    → Pivots (narrow (bound W)) (sorts b) (ends_at W b).tableau (200 - (ends_at W b).left) (begin b)
unfolding ends_at
pivots-at W b =
    let m = made (narrow (bound W)) (sorts b) 200 (begin b) in
    subst (λ (k : ℕ). Pivots (narrow (bound W)) (sorts b) (ends_at W b).tableau k (begin b)) (less m.pivots (ends_at W b).left m.sum) m.way
  where
    less : (p l : ℕ) → p + l ≡ 200 → p ≡ 200 - l
    less p l e = omega arith

-- and of the test, those at 64 bits and those at 128 together
pub pivots-made : (b : BasicSet) → Pivots (narrow (bound 128)) (sorts b) (test_ends b).tableau (pivots_made b) (begin b)
pivots-made b = subst (λ (e : Ending). Pivots (narrow (bound 128)) (sorts b) e.tableau (200 - e.left) (begin b)) (sym (carried-is b)) (pivots-at 128 b)

-- "200 pivots made: long"
pub long-at : (W : ℕ) (b : BasicSet) → test_at W b ≡ long → 200 - (ends_at W b).left ≡ 200
unfolding ends_at
long-at W b e = ap (λ (l : ℕ). 200 - l) (long-none (narrow (bound W)) (sorts b) 200 (begin b) e)

pub long-200 : (b : BasicSet) → test b ≡ long → pivots_made b ≡ 200
long-200 b e = ap (λ (e : Ending). 200 - e.left) (carried-is b) ∙ long-at 128 b (sym (test-128 b) ∙ e)

-- ---- a number beyond the bound

-- the numbers of a row: its denominator, its constant, its entries
abbrev pub numbers : Row → List ℤ
numbers r = r.den ∷ r.nums

-- some row i, with a nonzero entry in column j (an exchange with that column touches it), has a number beyond m at some
-- place of its numbers
pub record Beyond (m j : ℕ) (rows : List Row) : Type 0 where
  pub i : ℕ
  pub there : i < length rows
  pub touched : ¬ (entry (get_or rows i no_row) j ≡ pos 0)
  pub place : ℕ
  pub beyond : m < nat_abs (get_or (numbers (get_or rows i no_row)) place (pos 0))

not-false : {X : Type 0} → true ≡ false → X
not-false e = absurd (subst T e tt)

number-beyond : (m : ℕ) (zs : List ℤ) → bounded m zs ≡ false → (k : ℕ) × (m < nat_abs (get_or zs k (pos 0)))
number-beyond m [] e = not-false e
number-beyond m (z ∷ zs) e = at (leb (nat_abs z) m) refl e (number-beyond m zs)
  where
    at : (b : Bool) → leb (nat_abs z) m ≡ b → (b && bounded m zs) ≡ false → (bounded m zs ≡ false → (k : ℕ) × (m < nat_abs (get_or zs k (pos 0))))
        → (k : ℕ) × (m < nat_abs (get_or (z ∷ zs) k (pos 0)))
    at true q e ih = let s = ih e in (suc s.0, s.1)
    at false q e ih = (0, nleb→lt (nat_abs z) m (subst (λ (b : Bool). T (not b)) (sym q) tt))

row-beyond : (m j : ℕ) (rs : List Row) → all (λ (r : Row). is_zero (entry r j) || bounded m (numbers r)) rs ≡ false → Beyond m j rs
row-beyond m j [] e = not-false e
row-beyond m j (r ∷ rs) e = at (is_zero (entry r j)) refl (bounded m (numbers r)) refl e (row-beyond m j rs)
  where
    Fine : Row → Bool
    Fine r = is_zero (entry r j) || bounded m (numbers r)

    later : Beyond m j rs → Beyond m j (r ∷ rs)
    later s = record { i = suc s.i; there = suc-le-suc s.there; touched = s.touched; place = s.place; beyond = s.beyond }

    nonzero : is_zero (entry r j) ≡ false → ¬ (entry r j ≡ pos 0)
    nonzero q z = not-false (ap is_zero (sym z) ∙ q)

    at : (a : Bool) → is_zero (entry r j) ≡ a → (b : Bool) → bounded m (numbers r) ≡ b
        → ((a || b) && all Fine rs) ≡ false → (all Fine rs ≡ false → Beyond m j rs) → Beyond m j (r ∷ rs)
    at true p b q e ih = later (ih e)
    at false p true q e ih = later (ih e)
    at false p false q e ih = let s = number-beyond m (numbers r) q in record { i = 0; there = zero-lt-suc (length rs); touched = nonzero p; place = s.0; beyond = s.1 }

-- where a test that is wide at W bits stands: before the pivot that steps 1 and 2 find, with a number beyond the bound in
-- a row that it touches
pub record Wide (W : ℕ) (b : BasicSet) (e : Ending) : Type 0 where
  pub stops : Stopped (narrow (bound W)) (sorts b) e
  pub far : Beyond (bound W) stops.j e.tableau.rows

pub wide_at : (W : ℕ) (b : BasicSet) → test_at W b ≡ wide → Wide W b (ends_at W b)
unfolding ends_at
wide_at W b e =
    let s = wide-stops (narrow (bound W)) (sorts b) 200 (begin b) e in
    record { stops = s; far = row-beyond (bound W) s.j (ends_at W b).tableau.rows s.unfit }

pub wide-128 : (b : BasicSet) → test b ≡ wide → Wide 128 b (test_ends b)
wide-128 b e = subst (Wide 128 b) (sym (carried-is b)) (wide_at 128 b (sym (test-128 b) ∙ e))
