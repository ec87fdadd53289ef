-- The rows that an exchange builds and those that it leaves, and how many a test builds (document 02, request 4).
-- Assumes nothing.
use mathlib.Core.Path.{◌≡◌, refl, sym, ap, ap₂, ◌∙◌, subst}
use mathlib.Core.Bool.{Bool, true, false, not, cond}
use mathlib.Core.List.{List, [], ◌∷◌, map}
use mathlib.Core.Option.{Option}
use Prim.Native.Nat.{ℕ, zero, suc, ◌+◌, ◌<◌, suc-le-suc}
use native.Mathlib.Nat.{zero-add, zero-lt-suc, not-suc-le-zero, le_of_suc-le-suc}
use native.Mathlib.Omega.{arith}
use lib.Dec.{T, leb→le}
use lib.IntN.{ℤ, pos}
use lib.ListN.{length, get_or, get_or-map}
use lib.Seq.{get_or-set_other}
use Rattle.model.specs.Lists.{filter, cons_if}
use Rattle.model.specs.Sets.{Kind, BasicSet, is_zero}
use Rattle.model.proofs.Count.{from-T}
use Rattle.model.proofs.Values.{is_zero→}
use Rattle.feasibility.specs.Tableau.{Row, Tableau, Ending, entry, no_row, solved, replaced, exchange, narrow, bound, Look, none_violated, none_helps, look, reach, pivot, sorts, begin, ends_at, built_rows, built, carried_built, rows_built}
use Rattle.feasibility.proofs.Exchange.{Pivot}
use Rattle.feasibility.proofs.Reach.{reach-calm, reach-stuck, reach-long, reach-wide, reach_step}
use Rattle.feasibility.proofs.Sizes.{Implies, narrow-more}

-- ---- one exchange

kept_at : (f : Row → Bool) (rs : List Row) (i : ℕ) → i < length rs → f (get_or rs i no_row) ≡ true
    → (m : ℕ) × (m < length (filter f rs)) × (get_or (filter f rs) m no_row ≡ get_or rs i no_row)
kept_at f [] i h e = absurd (not-suc-le-zero h)
kept_at f (r ∷ rs) zero h e =
    subst (λ (b : Bool). let l = cons_if b r (filter f rs) in (m : ℕ) × (m < length l) × (get_or l m no_row ≡ r)) (sym e)
    (0, zero-lt-suc (length (filter f rs)), refl)
kept_at f (r ∷ rs) (suc i) h e = later (f r) (kept_at f rs i (le_of_suc-le-suc h) e)
  where
    later : (b : Bool) → (m : ℕ) × (m < length (filter f rs)) × (get_or (filter f rs) m no_row ≡ get_or rs i no_row)
        → (m : ℕ) × (m < length (cons_if b r (filter f rs))) × (get_or (cons_if b r (filter f rs)) m no_row ≡ get_or rs i no_row)
    later true s = (suc s.0, suc-le-suc s.1, s.2)
    later false s = s

-- the exchanged row is one of those built
pub exchanged-built : (i j : ℕ) (t : Tableau) → Pivot i j t
    → (m : ℕ) × (m < length (built_rows j t)) × (get_or (built_rows j t) m no_row ≡ get_or t.rows i no_row)
exchanged-built i j t p =
    kept_at (λ (r : Row). not (is_zero (entry r j))) t.rows i p.row (nonzero (entry (get_or t.rows i no_row) j) p.entry)
  where
    nonzero : (z : ℤ) → (z ≡ pos 0 → ⊥) → not (is_zero z) ≡ true
    nonzero z h = at (is_zero z) (is_zero→ z)
      where
        at : (b : Bool) → (T b → z ≡ pos 0) → not b ≡ true
        at true g = absurd (h (g tt))
        at false g = refl

-- a row that is neither exchanged nor built is as it was
pub exchange-leaves : (i j k : ℕ) (t : Tableau) → (k ≡ i → ⊥) → entry (get_or t.rows k no_row) j ≡ pos 0
    → get_or (exchange i j t).rows k no_row ≡ get_or t.rows k no_row
unfolding exchange
exchange-leaves i j k t n e =
    let r : Row = get_or t.rows i no_row in
    get_or-set_other (map (replaced r j) t.rows) i k (solved r j (get_or t.cols j 0)) no_row n
    ∙ get_or-map (replaced r j) t.rows k no_row
    ∙ stays (is_zero (entry (get_or t.rows k no_row) j)) _ _ (ap is_zero e)
  where
    stays : (b : Bool) (s s' : Row) → b ≡ true → cond b s s' ≡ s
    stays b s s' q = ap (λ (b : Bool). cond b s s') q

-- ---- a test

module _ (fits : ℕ → Tableau → Bool) (sort : ℕ → Option Kind) where
  pub built-calm : (n : ℕ) (t : Tableau) → look sort t ≡ none_violated → built fits sort n t ≡ 0
  unfolding built
  built-calm zero t q = refl
  built-calm (suc n) t q = rw (q, built) refl

  pub built-stuck : (n : ℕ) (t : Tableau) → look sort t ≡ none_helps → built fits sort n t ≡ 0
  unfolding built
  built-stuck zero t q = refl
  built-stuck (suc n) t q = rw (q, built) refl

  abbrev on-fit : ℕ → ℕ → ℕ → Tableau → Bool → ℕ
  on-fit n i j t b = elim b [ false ↦ 0 | true ↦ length (built_rows j t) + built fits sort n (exchange i j t) ]

  pub built-wide : (n i j : ℕ) (t : Tableau) → look sort t ≡ pivot i j → fits j t ≡ false → built fits sort (suc n) t ≡ 0
  unfolding built
  built-wide n i j t q z = rw (q, built) (ap (on-fit n i j t) z)

  pub built-step : (n i j : ℕ) (t : Tableau) → look sort t ≡ pivot i j → fits j t ≡ true
      → built fits sort (suc n) t ≡ length (built_rows j t) + built fits sort n (exchange i j t)
  unfolding built
  built-step n i j t q z = rw (q, built) (ap (on-fit n i j t) z)

-- what is built before and after a test is carried over is what the test under the second bound builds
module _ (fits fits' : ℕ → Tableau → Bool) (more : Implies fits fits') (sort : ℕ → Option Kind) where
  abbrev Sum : ℕ → Tableau → Type 0
  Sum n t = built fits sort n t + carried_built fits' sort (reach fits sort n t) ≡ built fits' sort n t

  stopped : (n : ℕ) (t : Tableau) (e : Ending) (c : ℕ) → built fits sort n t ≡ 0 → reach fits sort n t ≡ e
      → carried_built fits' sort e ≡ c → built fits' sort n t ≡ c → Sum n t
  stopped n t e c p q r s = ap₂ ◌+◌ p (ap (carried_built fits' sort) q ∙ r) ∙ zero-add c ∙ sym s

  calm : (n : ℕ) (t : Tableau) → look sort t ≡ none_violated → Sum n t
  calm n t q = stopped n t _ 0 (built-calm fits sort n t q) (reach-calm fits sort n t q) refl (built-calm fits' sort n t q)

  stuck : (n : ℕ) (t : Tableau) → look sort t ≡ none_helps → Sum n t
  stuck n t q = stopped n t _ 0 (built-stuck fits sort n t q) (reach-stuck fits sort n t q) refl (built-stuck fits' sort n t q)

  pub carried-built : (n : ℕ) (t : Tableau) → Sum n t
  unfolding built
  carried-built zero t = at (look sort t) refl
    where
      at : (l : Look) → look sort t ≡ l → Sum 0 t
      at none_violated q = calm 0 t q
      at none_helps q = stuck 0 t q
      at (pivot i j) q = stopped 0 t _ 0 refl (reach-long fits sort i j t q) refl refl
  carried-built (suc n) t = at (look sort t) refl (λ t'. carried-built n t')
    where
      at : (l : Look) → look sort t ≡ l → ((t' : Tableau) → Sum n t') → Sum (suc n) t
      at none_violated q ih = calm (suc n) t q
      at none_helps q ih = stuck (suc n) t q
      at (pivot i j) q ih = on (fits j t) refl
        where
          on : (b : Bool) → fits j t ≡ b → Sum (suc n) t
          on false z = stopped (suc n) t _ _ (built-wide fits sort n i j t q z) (reach-wide fits sort n i j t q z) refl refl
          on true z =
              let h = ih (exchange i j t) in
              let a = built-step fits sort n i j t q z in
              let c = ap (carried_built fits' sort) (reach_step fits sort n i j t q z) in
              let d = built-step fits' sort n i j t q (from-T (fits' j t) (more j t (subst T (sym z) tt))) in
              omega (arith, a, c, d, h)

-- the rows that the test of a basic set builds are those of the test at 128 bits from the start
pub built-128 : (b : BasicSet) → rows_built b ≡ built (narrow (bound 128)) (sorts b) 200 (begin b)
unfolding rows_built ends_at
built-128 b = carried-built (narrow (bound 64)) (narrow (bound 128)) (narrow-more (bound 64) (bound 128) (leb→le (bound 64) (bound 128) tt)) (sorts b) 200 (begin b)
