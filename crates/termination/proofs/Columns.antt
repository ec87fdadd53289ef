-- The column variables of a tableau: by number and by place, what an exchange does to them, and that all variables stay below a number.
use mathlib.Core.Path.{◌≡◌, refl, sym, ap, ◌∙◌, subst}
use mathlib.Core.Bool.{Bool, true, false, ◌||◌}
use mathlib.Core.Logic.{◌⊎◌, inl, inr}
use mathlib.Core.List.{List, [], ◌∷◌}
use Prim.Native.Nat.{ℕ, zero, suc, ◌+◌, ◌<◌, suc-le-suc}
use native.Mathlib.Decide.{ℕ_discrete}
use native.Mathlib.Nat.{le_of_suc-le-suc, not-suc-le-zero, zero-lt-suc}
use native.Mathlib.Omega.{arith}
use lib.Dec.{T, eqb, eqb→eq, eqb_refl}
use lib.ListN.{length, get_or, set}
use Rattle.model.specs.Lists.{any}
use Rattle.model.specs.Sets.{Constraint}
use Rattle.feasibility.specs.Tableau.{Tableau, exchange, start}
use Rattle.termination.specs.Unlimited.{in_cols}
use Rattle.model.proofs.Count.{from-T}
use Rattle.feasibility.proofs.Exchange.{Pivot}
use Rattle.feasibility.proofs.Verdicts.{row_var, col_var}
use Rattle.feasibility.proofs.Start.{length_from}
use Rattle.feasibility.proofs.Points.{Placed, col-row, from_at, rows-from}
use Rattle.feasibility.proofs.Sound.{length-cols, length-rows, col-other, col-new, row_new, row_other, Sound, exchange-sound, first-length}

-- ---- by number and by place

-- v is the column variable at some place
pub record At (t : Tableau) (v : ℕ) : Type 0 where
  pub place : ℕ
  pub inside : place < length t.cols
  pub is : col_var t place ≡ v

any_at : (cols : List ℕ) (k : ℕ) → k < length cols → T (any (eqb (get_or cols k 0)) cols)
any_at [] k h = absurd (not-suc-le-zero h)
any_at (c ∷ cols) zero h = left (eqb c c) (eqb_refl c)
  where
    left : (a : Bool) → T a → T (a || any (eqb c) cols)
    left true t = tt
    left false t = absurd t
any_at (c ∷ cols) (suc k) h = right (eqb (get_or cols k 0) c) (any_at cols k (le_of_suc-le-suc h))
  where
    right : (a : Bool) → T (any (eqb (get_or cols k 0)) cols) → T (a || any (eqb (get_or cols k 0)) cols)
    right true t = tt
    right false t = t

any_place : (v : ℕ) (cols : List ℕ) → T (any (eqb v) cols) → (k : ℕ) × (k < length cols) × (get_or cols k 0 ≡ v)
any_place v [] t = absurd t
any_place v (c ∷ cols) t = at (eqb v c) refl t (any_place v cols)
  where
    at : (b : Bool) → eqb v c ≡ b → T (b || any (eqb v) cols) → (T (any (eqb v) cols) → (k : ℕ) × (k < length cols) × (get_or cols k 0 ≡ v)) → (k : ℕ) × (k < length (c ∷ cols)) × (get_or (c ∷ cols) k 0 ≡ v)
    at true q t f = (0, zero-lt-suc (length cols), sym (eqb→eq v c (subst T (sym q) tt)))
    at false q t f = let h = f t in (suc h.0, suc-le-suc h.1, h.2)

to-false : (b : Bool) → (T b → ⊥) → b ≡ false
to-false true n = absurd (n tt)
to-false false n = refl

pub col-yes : (t : Tableau) (k : ℕ) → k < length t.cols → in_cols t (col_var t k) ≡ true
col-yes t k h = from-T (in_cols t (col_var t k)) (any_at t.cols k h)

pub col-at : (t : Tableau) (v : ℕ) → in_cols t v ≡ true → At t v
col-at t v e = let p = any_place v t.cols (subst T (sym e) tt) in record { place = p.0; inside = p.1; is = p.2 }

pub col-no : (t : Tableau) (v : ℕ) → (At t v → ⊥) → in_cols t v ≡ false
col-no t v n = to-false (in_cols t v) (λ b. n (col-at t v (from-T (in_cols t v) b)))

pub row-no : (t : Tableau) → Placed t → (k : ℕ) → k < length t.rows → in_cols t (row_var t k) ≡ false
row-no t pl k h = col-no t (row_var t k) (λ p. col-row (sym (pl.cols_at p.place p.inside) ∙ ap pl.loc p.is ∙ pl.rows_at k h))

-- ---- after an exchange

not_eqb : (v a : ℕ) → (v ≡ a → ⊥) → eqb v a ≡ false
not_eqb v a n = to-false (eqb v a) (λ t. n (eqb→eq v a t))

in-other : (v a : ℕ) (cols : List ℕ) (j : ℕ) → (v ≡ a → ⊥) → (v ≡ get_or cols j 0 → ⊥) → any (eqb v) (set cols j a) ≡ any (eqb v) cols
in-other v a [] j n m = refl
in-other v a (c ∷ cols) zero n m = ap (λ (b : Bool). b || any (eqb v) cols) (not_eqb v a n ∙ sym (not_eqb v c m))
in-other v a (c ∷ cols) (suc j) n m = ap (λ (b : Bool). eqb v c || b) (in-other v a cols j n m)

pub same_or_not : (m n : ℕ) → (m ≡ n) ⊎ (m ≡ n → ⊥)
same_or_not m n = pick (ℕ_discrete m n)
  where
    pick : Dec (m ≡ n) → (m ≡ n) ⊎ (m ≡ n → ⊥)
    pick (yes e) = inl e
    pick (no e) = inr e

module _ (i j : ℕ) (t : Tableau) (p : Pivot i j t) where
  pub stays-where : (v : ℕ) → (v ≡ row_var t i → ⊥) → (v ≡ col_var t j → ⊥) → in_cols (exchange i j t) v ≡ in_cols t v
  unfolding exchange
  stays-where v n m = in-other v (row_var t i) t.cols j n m

  pub leaver-in : in_cols (exchange i j t) (row_var t i) ≡ true
  leaver-in = ap (in_cols (exchange i j t)) (sym (col-new i j t p.col)) ∙ col-yes (exchange i j t) j (subst (λ (n : ℕ). j < n) (sym (length-cols i j t)) p.col)

  pub enterer-out : Sound t → in_cols (exchange i j t) (col_var t j) ≡ false
  enterer-out g =
      ap (in_cols (exchange i j t)) (sym (row_new i j t p.row))
      ∙ row-no (exchange i j t) (exchange-sound i j t p g).placed i (subst (λ (n : ℕ). i < n) (sym (length-rows i j t)) p.row)

-- ---- the numbers of all variables

-- are below N
pub record Numbered (N : ℕ) (t : Tableau) : Type 0 where
  pub cols_below : (k : ℕ) → k < length t.cols → col_var t k < N
  pub rows_below : (k : ℕ) → k < length t.rows → row_var t k < N

pub numbered-on : (N i j : ℕ) (t : Tableau) → Pivot i j t → Numbered N t → Numbered N (exchange i j t)
numbered-on N i j t p g = record { cols_below = λ k h. cols k (same_or_not k j) (subst (λ (n : ℕ). k < n) (length-cols i j t) h); rows_below = λ k h. rows k (same_or_not k i) (subst (λ (n : ℕ). k < n) (length-rows i j t) h) }
  where
    cols : (k : ℕ) → (k ≡ j) ⊎ (k ≡ j → ⊥) → k < length t.cols → col_var (exchange i j t) k < N
    cols k (inl e) h = subst (λ (v : ℕ). v < N) (sym (ap (col_var (exchange i j t)) e ∙ col-new i j t p.col)) (g.rows_below i p.row)
    cols k (inr n) h = subst (λ (v : ℕ). v < N) (sym (col-other i j t k n)) (g.cols_below k h)

    rows : (k : ℕ) → (k ≡ i) ⊎ (k ≡ i → ⊥) → k < length t.rows → row_var (exchange i j t) k < N
    rows k (inl e) h = subst (λ (v : ℕ). v < N) (sym (ap (row_var (exchange i j t)) e ∙ row_new i j t p.row)) (g.cols_below j p.col)
    rows k (inr n) h = subst (λ (v : ℕ). v < N) (sym (row_other i j t k h n)) (g.rows_below k h)

-- of the first tableau: the axes, k divisions, and the constraints
pub numbered-start : (k : ℕ) (rs : List Constraint) → Numbered (8 + k + length rs) (start k rs)
numbered-start k rs =
    record {
      cols_below = λ j h.
          let l : j < 8 + k = subst (λ (n : ℕ). j < n) (length_from 0 (8 + k)) h in
          subst (λ (v : ℕ). v < 8 + k + length rs) (sym (from_at 0 (8 + k) j l)) (omega arith);
      rows_below = λ i h.
          let l : i < length rs = subst (λ (n : ℕ). i < n) (first-length k (8 + k) rs) h in
          subst (λ (v : ℕ). v < 8 + k + length rs) (sym (rows-from k (8 + k) rs i h)) (omega arith);
    }
