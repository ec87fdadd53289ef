-- A pivot of the second half: which way a column that improves the value moves, which rows stop it, and what the exchanged row and column are.
use mathlib.Core.Path.{◌≡◌, refl, sym, ap, ◌∙◌, subst}
use mathlib.Core.Bool.{Bool, true, false, not}
use mathlib.Core.Logic.{◌⊎◌, inl, inr, ⊎_elim}
use mathlib.Core.List.{[], ◌∷◌}
use mathlib.Core.Option.{Option, none, some}
use Prim.Native.Nat.{ℕ, zero, suc, ◌≤◌, ◌<◌}
use native.Mathlib.Nat.{zero-lt-suc}
use native.Mathlib.Omega.{arith}
use lib.Dec.{T, lt→ltb}
use lib.IntN.{ℤ, pos, negsuc, nat_abs, ◌*ℤ◌}
use lib.Signed.{non_neg, ◌≤ℤ◌, ◌<ℤ◌, yes_non_neg, <ℤ_irrefl}
use lib.ListN.{length}
use Rattle.integers.specs.Ring.{ring, quote}
use Rattle.integers.specs.Lin.{le, lt, lin, lia-le, lia-lt, lia-eq}
use Rattle.integers.specs.Order.{mul-nonneg, <ℤ-≤ℤ, lt-or-ge}
use Rattle.model.specs.Sets.{Kind, equality, inequality, is_zero}
use Rattle.feasibility.specs.Tableau.{Tableau, entry, constant_of, violates, helps}
use Rattle.optimum.specs.Value.{way}
use Rattle.model.proofs.Values.{is_zero→, nn}
use Rattle.feasibility.proofs.Reduce.{cancel-zero}
use Rattle.feasibility.proofs.Exchange.{Pivot}
use Rattle.feasibility.proofs.Verdicts.{row_var, col_var, true-false, helps-nonzero, to-not}
use Rattle.feasibility.proofs.Sound.{row_of}

-- ---- signs

pub pos-not-zero : {a : ℤ} → pos 0 <ℤ a → a ≡ pos 0 → ⊥
pos-not-zero h e = <ℤ_irrefl (subst (λ (z : ℤ). pos 0 <ℤ z) e h)

pub below : (z : ℤ) → T (not (non_neg z)) → z <ℤ pos 0
below (pos n) t = absurd t
below (negsuc n) t = record { lt = tt }

yes : (b : Bool) → T b → T (not (not b))
yes true t = tt
yes false t = absurd t

-- meeting a condition, by kind
pub meets-eq : (z : ℤ) → z ≡ pos 0 → T (not (violates (some equality) z))
meets-eq z e = yes (is_zero z) (subst (λ (x : ℤ). T (is_zero x)) (sym e) tt)

pub meets-ge : (z : ℤ) → pos 0 ≤ℤ z → T (not (violates (some inequality) z))
meets-ge z h = yes (non_neg z) (yes_non_neg h)

pub eq-meets : (z : ℤ) → T (not (violates (some equality) z)) → z ≡ pos 0
eq-meets z t = is_zero→ z (to-not (is_zero z) t)

pub ge-meets : (z : ℤ) → T (not (violates (some inequality) z)) → pos 0 ≤ℤ z
ge-meets z t = nn (to-not (non_neg z) t)

-- ---- the way of a column

pub way-unit : (z a : ℤ) → way z a *ℤ way z a ≡ pos 1
way-unit z a = at (non_neg (z *ℤ a)) refl
  where
    at : (b : Bool) → non_neg (z *ℤ a) ≡ b → way z a *ℤ way z a ≡ pos 1
    at true q = rw (q) refl
    at false q = rw (q) refl

-- an inequality's column goes up
pub way_up : (z a : ℤ) → T (helps (some inequality) z a) → way z a ≡ pos 1
way_up z a h = at (non_neg (z *ℤ a)) refl
  where
    at : (b : Bool) → non_neg (z *ℤ a) ≡ b → way z a ≡ pos 1
    at true q = absurd (subst (λ (b : Bool). T (not b)) q h)
    at false q = rw (q) refl

-- the column is moved so that the value improves
pub way_down : (s : Option Kind) (z a : ℤ) → (z ≡ pos 0 → ⊥) → T (helps s z a) → (z *ℤ a *ℤ way z a) <ℤ pos 0
way_down s z a nz h = at (non_neg (z *ℤ a)) refl
  where
    zero_of : pos 0 ≤ℤ (z *ℤ a) → (z *ℤ a) ≤ℤ pos 0 → z *ℤ a ≡ pos 0
    zero_of g l = lia-eq (z ∷ a ∷ []) (le l ∷ le g ∷ []) (search lin depth 30) (omega arith)

    up : pos 0 ≤ℤ (z *ℤ a) → pos 0 <ℤ (z *ℤ a)
    up g = ⊎_elim (λ l. l) (λ l. absurd (helps-nonzero s z a h (cancel-zero z a nz (zero_of g l)))) (lt-or-ge (pos 0) (z *ℤ a))

    at : (b : Bool) → non_neg (z *ℤ a) ≡ b → (z *ℤ a *ℤ way z a) <ℤ pos 0
    at true q =
        let l : pos 0 <ℤ (z *ℤ a) = up (nn {z = z *ℤ a} (subst T (sym q) tt)) in
        rw (q) (lia-lt (z ∷ a ∷ []) (lt l ∷ []) (search lin depth 30) (omega arith))
    at false q =
        let l : (z *ℤ a) <ℤ pos 0 = below (z *ℤ a) (subst (λ (c : Bool). T (not c)) (sym q) tt) in
        rw (q) (lia-lt (z ∷ a ∷ []) (lt l ∷ []) (search lin depth 30) (omega arith))

pub col-way : (s : Option Kind) (z a p : ℤ) → T (helps s z a) → pos 0 <ℤ p → T (not (violates s (way z a *ℤ p)))
col-way none z a p h k = tt
col-way (some equality) z a p h k = absurd h
col-way (some inequality) z a p h k = meets-ge (way z a *ℤ p) (subst (λ (y : ℤ). pos 0 ≤ℤ (y *ℤ p)) (sym (way_up z a h)) (lia-le (p ∷ []) (lt k ∷ []) (search lin depth 30) (omega arith)))

-- ---- rows that stop the move

-- of a row of this condition that changes by x for one unit of the move
abbrev pub Stops : Option Kind → ℤ → Type 0
Stops none x = ⊥
Stops (some equality) x = x ≡ pos 0 → ⊥
Stops (some inequality) x = x <ℤ pos 0

abbrev pub size : ℤ → ℤ
size x = pos (nat_abs x)

pub size-pos : (x : ℤ) → (x ≡ pos 0 → ⊥) → pos 0 <ℤ size x
size-pos (pos zero) n = absurd (n refl)
size-pos (pos (suc k)) n = record { lt = lt→ltb 0 (suc k) (zero-lt-suc k) }
size-pos (negsuc k) n = record { lt = lt→ltb 0 (suc k) (zero-lt-suc k) }

pub stops-off : (s : Option Kind) (x : ℤ) → Stops s x → x ≡ pos 0 → ⊥
stops-off none x k = absurd k
stops-off (some equality) x k = k
stops-off (some inequality) x k = λ e. <ℤ_irrefl (subst (λ (z : ℤ). z <ℤ pos 0) e k)

pub decide-zero : (x : ℤ) → (x ≡ pos 0) ⊎ (x ≡ pos 0 → ⊥)
decide-zero x = at (is_zero x) refl
  where
    at : (b : Bool) → is_zero x ≡ b → (x ≡ pos 0) ⊎ (x ≡ pos 0 → ⊥)
    at true q = inl (is_zero→ x (subst T (sym q) tt))
    at false q = inr (λ e. true-false (sym (ap is_zero e) ∙ q))

-- one that does not stop it stays on its side
pub row-way : (s : Option Kind) (x o : ℤ) → pos 0 <ℤ o → (Stops s x → ⊥) → T (not (violates s (x *ℤ o)))
row-way none x o h n = tt
row-way (some equality) x o h n = meets-eq (x *ℤ o) (⊎_elim (λ e. ap (λ (y : ℤ). y *ℤ o) e ∙ ring (o ∷ []) (search quote depth 30) tt) (λ k. absurd (n k)) (decide-zero x))
row-way (some inequality) x o h n = meets-ge (x *ℤ o) (mul-nonneg {a = x} {b = o} (⊎_elim (λ l. absurd (n l)) (λ g. g) (lt-or-ge x (pos 0))) (<ℤ-≤ℤ h))

-- ---- a pivot of the second half

-- how much row m changes for one unit of the move of column j; row k is the expression's
abbrev pub change : ℤ → ℕ → ℕ → Tableau → ℕ → ℤ
change z k j t m = entry (row_of t m) j *ℤ way z (entry (row_of t k) j)

-- column j is the lowest-numbered that improves the value of row k; of the rows that stop it soonest row i is the lowest-numbered
pub record Improvement (sort : ℕ → Option Kind) (z : ℤ) (k i j : ℕ) (t : Tableau) : Type 0 where
  pub pivots : Pivot i j t
  pub helpful : T (helps (sort (col_var t j)) z (entry (row_of t k) j))
  pub cols_first : (m : ℕ) → m < length t.cols → T (helps (sort (col_var t m)) z (entry (row_of t k) m)) → col_var t j ≤ col_var t m
  pub stops : Stops (sort (row_var t i)) (change z k j t i)
  pub soon : (m : ℕ) → m < length t.rows → Stops (sort (row_var t m)) (change z k j t m)
      → (constant_of (row_of t i) *ℤ size (change z k j t m)) ≤ℤ (constant_of (row_of t m) *ℤ size (change z k j t i))
  pub tied : (m : ℕ) → m < length t.rows → Stops (sort (row_var t m)) (change z k j t m)
      → constant_of (row_of t i) *ℤ size (change z k j t m) ≡ constant_of (row_of t m) *ℤ size (change z k j t i) → row_var t i ≤ row_var t m
