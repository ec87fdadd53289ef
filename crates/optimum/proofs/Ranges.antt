-- The numbers of the value: under step 4 at W bits every number of every tableau, and so the value's two, stays within 2 ^ (W − 1) − 1.
use mathlib.Core.Path.{◌≡◌, refl, sym, subst}
use mathlib.Core.Bool.{Bool, true, false, ◌||◌, cond}
use mathlib.Core.List.{List, [], ◌∷◌, ◌++◌, map}
use Prim.Native.Nat.{ℕ, zero, suc, ◌+◌, ◌-◌, ◌/◌, ◌^◌, ◌≤◌, ◌<◌, zero-le}
use native.Mathlib.Nat.{le_trans, div-le_self, le_of_suc-le-suc, not-suc-le-zero}
use native.Mathlib.Omega.{arith}
use lib.Dec.{T, leb, leb→le}
use lib.Pow.{pow_mono}
use lib.IntN.{ℤ, pos, neg_ℤ, nat_abs, ◌*ℤ◌}
use lib.Signed.{non_neg}
use lib.ListN.{length, get_or, set}
use Rattle.integers.specs.Z.{Within}
use Rattle.integers.specs.Div.{floor-within}
use Rattle.integers.specs.Size.{within-mono, within-neg}
use Rattle.integers.proofs.BoundedProducts.{products}
use Rattle.model.specs.Lists.{all, All}
use Rattle.model.specs.Sets.{Constraint, BasicSet, is_zero, floor_div, conditions}
use Rattle.model.proofs.Lists.{all_app, all-mapped}
use Rattle.feasibility.specs.Tableau.{Verdict, point, dropped, long, wide, Row, Tableau, entry, positive, reduced, common_divisor, combine, solved, replaced, exchange, no_row, bound, narrow, reach, pad, first_rows, sorts, Ending}
use Rattle.model.proofs.Count.{and_left, and_right}
use Rattle.model.proofs.Values.{is_zero→}
use Rattle.feasibility.proofs.Exchange.{Pivot}
use Rattle.feasibility.proofs.Reached.{reach-keeps}
use Rattle.feasibility.proofs.Sizes.{bounded}
use Rattle.feasibility.proofs.Stops.{numbers}
use Rattle.feasibility.proofs.Sound.{row_of}
use Rattle.feasibility.proofs.Verdicts.{true-false}
use Rattle.optimum.specs.Value.{Extreme, empty, unbounded, too_wide, too_long, attained, Aim, best, endless, turn, aim, fraction, climb, with_expression, extreme_by}
use Rattle.optimum.proofs.Feasible.{Feasible}
use Rattle.optimum.proofs.Climb.{climb-best, climb-endless, climb-long, climb-wide, climb-step}
use Rattle.optimum.proofs.Halves.{stage-point, aimed-turn, feasible-step}
use Rattle.optimum.proofs.Meaning.{place, variable, free, first-stage}

-- ---- lists

row_at : {A : Type 0} (P : A → Type 0) (l : List A) (i : ℕ) (d : A) → i < length l → All P l → P (get_or l i d)
row_at P [] i d h t = absurd (not-suc-le-zero h)
row_at P (a ∷ l) zero d h t = t.0
row_at P (a ∷ l) (suc i) d h t = row_at P l i d (le_of_suc-le-suc h) t.1

pub all_set : {A : Type 0} (P : A → Type 0) (l : List A) (i : ℕ) (a : A) → All P l → P a → All P (set l i a)
all_set P [] i a t h = tt
all_set P (b ∷ l) zero a t h = (h, t.1)
all_set P (b ∷ l) (suc i) a t h = (t.0, all_set P l i a t.1 h)

-- ---- rows and constraints of numbers within M

abbrev pub RowWithin : ℕ → Row → Type 0
RowWithin M r = All (Within M) (numbers r)

abbrev pub ConstraintWithin : ℕ → Constraint → Type 0
ConstraintWithin M r = Within M r.constant × All (Within M) r.axes × All (Within M) r.divisions

-- the numbers of a value
abbrev pub ValueWithin : ℕ → Extreme → Type 0
ValueWithin M empty = Unit {0}
ValueWithin M unbounded = Unit {0}
ValueWithin M too_wide = Unit {0}
ValueWithin M too_long = Unit {0}
ValueWithin M (attained p q) = Within M p × (q ≤ M)

pub zero-within : (M : ℕ) → Within M (pos 0)
zero-within M = record { size = zero-le }

pub number-at : (M : ℕ) (zs : List ℤ) (i : ℕ) → All (Within M) zs → Within M (get_or zs i (pos 0))
number-at M [] i h = zero-within M
number-at M (z ∷ zs) zero h = h.0
number-at M (z ∷ zs) (suc i) h = number-at M zs i h.1

pub mapped : (M : ℕ) (f : ℤ → ℤ) → ((z : ℤ) → Within M z → Within M (f z)) → (zs : List ℤ) → All (Within M) zs → All (Within M) (map f zs)
mapped M f h zs k = all-mapped (Within M) f (Within M) h zs k

-- ---- reduced rows

positive-within : (M : ℕ) (r : Row) → RowWithin M r → RowWithin M (positive r)
positive-within M r k = at (non_neg r.den)
  where
    at : (b : Bool) → Within M (cond b r.den (neg_ℤ r.den)) × All (Within M) (cond b r.nums (map neg_ℤ r.nums))
    at true = k
    at false = (within-neg k.0, mapped M neg_ℤ (λ z h. within-neg h) r.nums k.1)

reduced-within : (M : ℕ) (r : Row) → RowWithin M r → RowWithin M (reduced r)
reduced-within M r k =
    let g : ℕ = common_divisor (r.den ∷ r.nums) in
    mapped M (λ (z : ℤ). floor_div z g) (λ z h. floor-within g h) (numbers (positive r)) (positive-within M r k)

-- ---- the exchange

-- step 4 of one row
abbrev fine : ℕ → ℕ → Row → Bool
fine m j s = is_zero (entry s j) || bounded m (numbers s)

pub bounded-within : (m : ℕ) (zs : List ℤ) → T (bounded m zs) → All (Within m) zs
bounded-within m [] t = tt
bounded-within m (z ∷ zs) t = (record { size = leb→le (nat_abs z) m (and_left (leb (nat_abs z) m) (bounded m zs) t) }, bounded-within m zs (and_right (leb (nat_abs z) m) (bounded m zs) t))

fine-within : (m j : ℕ) (s : Row) → T (fine m j s) → is_zero (entry s j) ≡ false → RowWithin m s
fine-within m j s t q = bounded-within m (numbers s) (other (is_zero (entry s j)) (bounded m (numbers s)) q t)
  where
    other : (a c : Bool) → a ≡ false → T (a || c) → T c
    other true c q t = true-false q
    other false c q t = t

module _ (W : ℕ) (two : 2 ≤ W) where
  abbrev M : ℕ
  M = 2 ^ (W - 1) - 1

  abbrev m : ℕ
  m = bound W

  bound-in : m ≤ M
  bound-in = by (2 ^ (W / 2 - 1)) (2 ^ (W - 1)) (pow_mono less)
    where
      less : W / 2 - 1 ≤ W - 1
      less = omega (arith, div-le_self W 2)

      by : (a c : ℕ) → a ≤ c → a - 1 ≤ c - 1
      by a c h = omega arith

  wider : (zs : List ℤ) → All (Within m) zs → All (Within M) zs
  wider [] h = tt
  wider (z ∷ zs) h = (within-mono bound-in h.0, wider zs h.1)

  pub combine-within : (p q : ℤ) (us vs : List ℤ) → Within m p → Within m q → All (Within m) us → All (Within m) vs → All (Within M) (combine p q us vs)
  combine-within p q [] vs hp hq hu hv = tt
  combine-within p q (u ∷ us) [] hp hq hu hv = tt
  combine-within p q (u ∷ us) (v ∷ vs) hp hq hu hv = ((products W two hp hu.0 hq hv.0).difference, combine-within p q us vs hp hq hu.1 hv.1)

  module _ (j : ℕ) (r : Row) (k : RowWithin m r) where
    at_j : Within m (entry r j)
    at_j = number-at m r.nums (suc j) k.1

    solved-within : (v : ℕ) → RowWithin M (solved r j v)
    solved-within v =
        reduced-within M (record { var = v; den = entry r j; nums = set (map neg_ℤ r.nums) (suc j) r.den }) (
          within-mono bound-in at_j,
          all_set (Within M) (map neg_ℤ r.nums) (suc j) r.den (mapped M neg_ℤ (λ z h. within-neg h) r.nums (wider r.nums k.1)) (within-mono bound-in k.0),
        )

    abbrev replacement : Row → Row
    replacement s = record { var = s.var; den = entry r j *ℤ s.den; nums = set (combine (entry r j) (entry s j) s.nums r.nums) (suc j) (entry s j *ℤ r.den) }

    replaced-within : (s : Row) → RowWithin M s → T (fine m j s) → RowWithin M (replaced r j s)
    replaced-within s h t = at (is_zero (entry s j)) refl
      where
        at : (b : Bool) → is_zero (entry s j) ≡ b → RowWithin M (cond b s (reduced (replacement s)))
        at true q = h
        at false q =
            let n = fine-within m j s t q in
            let y = number-at m s.nums (suc j) n.1 in
            let p = products W two at_j n.0 y k.0 in
            reduced-within M (replacement s)
            (p.left, all_set (Within M) (combine (entry r j) (entry s j) s.nums r.nums) (suc j) (entry s j *ℤ r.den) (combine-within (entry r j) (entry s j) s.nums r.nums at_j y n.1 k.1) p.right)

    rows-within : (rs : List Row) → All (RowWithin M) rs → T (all (fine m j) rs) → All (RowWithin M) (map (replaced r j) rs)
    rows-within [] h t = tt
    rows-within (s ∷ rs) h t = (replaced-within s h.0 (and_left (fine m j s) (all (fine m j) rs) t), rows-within rs h.1 (and_right (fine m j s) (all (fine m j) rs) t))

  pub exchange-within : (i j : ℕ) (t : Tableau) → Pivot i j t → T (narrow m j t) → All (RowWithin M) t.rows → All (RowWithin M) (exchange i j t).rows
  unfolding exchange
  exchange-within i j t p n h =
      all_set (RowWithin M) (map (replaced (row_of t i) j) t.rows) i (solved (row_of t i) j (get_or t.cols j 0)) (rows-within j (row_of t i) at-r t.rows h n) (solved-within j (row_of t i) at-r (get_or t.cols j 0))
    where
      one : (rs : List Row) (i : ℕ) → i < length rs → T (all (fine m j) rs) → T (fine m j (get_or rs i no_row))
      one [] i h t = absurd (not-suc-le-zero h)
      one (s ∷ rs) zero h t = and_left (fine m j s) (all (fine m j) rs) t
      one (s ∷ rs) (suc i) h t = one rs i (le_of_suc-le-suc h) (and_right (fine m j s) (all (fine m j) rs) t)

      nonzero : (b : Bool) → is_zero (entry (row_of t i) j) ≡ b → b ≡ false
      nonzero true q = absurd (p.entry (is_zero→ (entry (row_of t i) j) (subst T (sym q) tt)))
      nonzero false q = refl

      at-r : RowWithin m (row_of t i)
      at-r = fine-within m j (row_of t i) (one t.rows i p.row n) (nonzero (is_zero (entry (row_of t i) j)) refl)

  -- ---- the first tableau

  pub pad-within : (k : ℕ) (zs : List ℤ) → All (Within M) zs → All (Within M) (pad k zs)
  pad-within zero zs h = tt
  pad-within (suc k) [] h = (zero-within M, pad-within k [] tt)
  pad-within (suc k) (z ∷ zs) h = (h.0, pad-within k zs h.1)

  pub one-within : Within M (pos 1)
  one-within = record { size = by (2 ^ (W - 1)) (pow_mono {i = 1} {j = W - 1} (omega arith)) }
    where
      by : (c : ℕ) → 2 ≤ c → 1 ≤ c - 1
      by c h = omega arith

  pub first-within : (k v : ℕ) (rs : List Constraint) → All (ConstraintWithin M) rs → All (RowWithin M) (first_rows k v rs)
  first-within k v [] h = tt
  first-within k v (r ∷ rs) h =
      ((one-within, (h.0.0, all_app (Within M) (pad 8 r.axes) (pad k r.divisions) (pad-within 8 r.axes h.0.1) (pad-within k r.divisions h.0.2))), first-within k (suc v) rs h.1)

  -- ---- both halves

  fraction-within : (r : Row) → RowWithin M r → ValueWithin M (fraction r)
  fraction-within r k = (floor-within _ (number-at M r.nums 0 k.1), le_trans (div-le_self (nat_abs r.den) _) k.0.size)

  module _ (b : BasicSet) (e : Constraint) (z : ℤ) where
    abbrev k : ℕ
    k = place b e

    abbrev F : Tableau → Type 0
    F t = Feasible (sorts b) k (variable b e) t

    climb-within : (n : ℕ) (t : Tableau) → F t → All (RowWithin M) t.rows → ValueWithin M (climb (narrow m) (sorts b) z k n t)
    climb-within zero t g h = at (aim (sorts b) z k t) refl
      where
        at : (l : Aim) → aim (sorts b) z k t ≡ l → ValueWithin M (climb (narrow m) (sorts b) z k 0 t)
        at best q = subst (ValueWithin M) (sym (climb-best (narrow m) (sorts b) z k 0 t q)) (fraction-within (row_of t k) (row_at (RowWithin M) t.rows k no_row g.inside h))
        at endless q = subst (ValueWithin M) (sym (climb-endless (narrow m) (sorts b) z k 0 t q)) tt
        at (turn i j) q = subst (ValueWithin M) (sym (climb-long (narrow m) (sorts b) z k i j t q)) tt
    climb-within (suc n) t g h = at (aim (sorts b) z k t) refl (λ t'. climb-within n t')
      where
        at : (l : Aim) → aim (sorts b) z k t ≡ l → ((t' : Tableau) → F t' → All (RowWithin M) t'.rows → ValueWithin M (climb (narrow m) (sorts b) z k n t')) → ValueWithin M (climb (narrow m) (sorts b) z k (suc n) t)
        at best q ih = subst (ValueWithin M) (sym (climb-best (narrow m) (sorts b) z k (suc n) t q)) (fraction-within (row_of t k) (row_at (RowWithin M) t.rows k no_row g.inside h))
        at endless q ih = subst (ValueWithin M) (sym (climb-endless (narrow m) (sorts b) z k (suc n) t q)) tt
        at (turn i j) q ih = on (narrow m j t) refl
          where
            on : (c : Bool) → narrow m j t ≡ c → ValueWithin M (climb (narrow m) (sorts b) z k (suc n) t)
            on false c = subst (ValueWithin M) (sym (climb-wide (narrow m) (sorts b) z k n i j t q c)) tt
            on true c =
                subst (ValueWithin M) (sym (climb-step (narrow m) (sorts b) z k n i j t q c))
                (ih (exchange i j t) (feasible-step (sorts b) z k (variable b e) (free b e) t g i j q)
                (exchange-within i j t (aimed-turn (sorts b) z k (variable b e) t g i j q).pivots (subst T (sym c) tt) h))

    module _ (h : All (ConstraintWithin M) (conditions b ++ (e ∷ []))) (n : ℕ) where
      abbrev first : Ending
      first = reach (narrow m) (sorts b) n (with_expression b e)

      reached-within : All (RowWithin M) first.tableau.rows
      reached-within =
          reach-keeps (narrow m) (sorts b) (λ t. All (RowWithin M) t.rows) (λ i j t turned fits k. exchange-within i j t turned.pivots fits k) n (with_expression b e)
          (first-within (length b.divisions) (8 + length b.divisions) (conditions b ++ (e ∷ [])) h)

      -- the value's two numbers are numbers of W bits
      pub within_by : ValueWithin M (extreme_by (narrow m) n z b e)
      unfolding extreme_by
      within_by = at first.verdict refl
        where
          at : (v : Verdict) → first.verdict ≡ v → ValueWithin M (extreme_by (narrow m) n z b e)
          at point q =
              rw (q) (climb-within first.left first.tableau (stage-point (sorts b) k (variable b e) (free b e) (with_expression b e) (narrow m) n (first-stage b e) q) reached-within)
          at dropped q = rw (q) tt
          at long q = rw (q) tt
          at wide q = rw (q) tt
