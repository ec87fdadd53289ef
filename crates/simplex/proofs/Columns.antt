-- Where the columns of a tableau stand among a row's numbers, and what stands there after a change of the row. Assumes nothing.
use mathlib.Core.Path.{◌≡◌, refl, sym, ap, ◌∙◌, subst}
use mathlib.Core.Bool.{Bool, true, false, cond}
use mathlib.Core.List.{List, map}
use mathlib.Core.Logic.{◌⊎◌, inl, inr, ⊎_elim}
use Prim.Native.Nat.{ℕ, zero, suc, ◌+◌, ◌-◌, ◌≤◌, ◌<◌}
use native.Mathlib.Nat.{le_of_suc-le-suc, not-suc-le-zero}
use native.Mathlib.Numerals.{add-two}
use native.Mathlib.Omega.{arith}
use borrow.Author.Tests.{lt-ltb, le-ltb, ltb-true, ltb-false}
use lib.Dec.{ltb}
use lib.ListN.{length, get_or, set}
use lib.Seq.{ext_get_or, get_or-set_same, get_or-set_other}
use lib.IntN.{ℤ, pos, ◌-ℤ◌, ◌*ℤ◌}
use Rattle.feasibility.specs.Tableau.{combine}
use Rattle.tableau.specs.Rows.{entry}
use Rattle.simplex.specs.Table.{tabulate, column_of, standing, number_at}
use Rattle.feasibility.proofs.Rows.{get_or-combine}
use Rattle.tableau.proofs.Lines.{map-zero}

-- ---- where the columns stand

module _ (k : ℕ) where
  yes : {A : Type 0} (b : Bool) (x y : A) → b ≡ true → cond b x y ≡ x
  yes b x y e = ap (λ c. cond c x y) e

  pub no : {A : Type 0} (b : Bool) (x y : A) → b ≡ false → cond b x y ≡ y
  no b x y e = ap (λ c. cond c x y) e

  -- the three parts of the columns
  pub column-low : (j : ℕ) → j < 8 → column_of k j ≡ k + j
  column-low j h = yes (ltb j 8) (k + j) _ (lt-ltb j 8 h)

  pub column-mid : (j : ℕ) → 8 ≤ j → j < 8 + k → column_of k j ≡ j - 8
  column-mid j h l = no (ltb j 8) (k + j) _ (le-ltb j 8 h) ∙ yes (ltb j (8 + k)) (j - 8) j (lt-ltb j (8 + k) l)

  pub column-high : (j : ℕ) → 8 + k ≤ j → column_of k j ≡ j
  column-high j h = no (ltb j 8) (k + j) _ (le-ltb j 8 (omega arith)) ∙ no (ltb j (8 + k)) (j - 8) j (le-ltb j (8 + k) h)

  pub standing-low : (c : ℕ) → c < k → standing k c ≡ 8 + c
  standing-low c h = yes (ltb c k) (8 + c) _ (lt-ltb c k h)

  pub standing-mid : (c : ℕ) → k ≤ c → c < 8 + k → standing k c ≡ c - k
  standing-mid c h l = no (ltb c k) (8 + c) _ (le-ltb c k h) ∙ yes (ltb c (8 + k)) (c - k) c (lt-ltb c (8 + k) l)

  pub standing-high : (c : ℕ) → 8 + k ≤ c → standing k c ≡ c
  standing-high c h = no (ltb c k) (8 + c) _ (le-ltb c k (omega arith)) ∙ no (ltb c (8 + k)) (c - k) c (le-ltb c (8 + k) h)

  below : (a b : ℕ) → (a < b) ⊎ (b ≤ a)
  below a b = at (ltb a b) refl
    where
      at : (t : Bool) → ltb a b ≡ t → (a < b) ⊎ (b ≤ a)
      at true e = inl (ltb-true a b e)
      at false e = inr (ltb-false a b e)

  pub standing-column : (j : ℕ) → standing k (column_of k j) ≡ j
  standing-column j = ⊎_elim low (λ h. ⊎_elim (mid h) high (below j (8 + k))) (below j 8)
    where
      low : j < 8 → standing k (column_of k j) ≡ j
      low h = ap (standing k) (column-low j h) ∙ standing-mid (k + j) (omega arith) (omega arith) ∙ minus
        where
          minus : k + j - k ≡ j
          minus = omega arith

      mid : 8 ≤ j → j < 8 + k → standing k (column_of k j) ≡ j
      mid h l = ap (standing k) (column-mid j h l) ∙ standing-low (j - 8) (omega arith) ∙ minus
        where
          minus : 8 + (j - 8) ≡ j
          minus = omega arith

      high : 8 + k ≤ j → standing k (column_of k j) ≡ j
      high h = ap (standing k) (column-high j h) ∙ standing-high j h

  pub column-standing : (c : ℕ) → column_of k (standing k c) ≡ c
  column-standing c = ⊎_elim low (λ h. ⊎_elim (mid h) high (below c (8 + k))) (below c k)
    where
      low : c < k → column_of k (standing k c) ≡ c
      low h = ap (column_of k) (standing-low c h) ∙ column-mid (8 + c) (omega arith) (omega arith) ∙ minus
        where
          minus : 8 + c - 8 ≡ c
          minus = omega arith

      mid : k ≤ c → c < 8 + k → column_of k (standing k c) ≡ c
      mid h l = ap (column_of k) (standing-mid c h l) ∙ column-low (c - k) (omega arith) ∙ minus
        where
          minus : k + (c - k) ≡ c
          minus = omega arith

      high : 8 + k ≤ c → column_of k (standing k c) ≡ c
      high h = ap (column_of k) (standing-high c h) ∙ column-high c h

  pub column-in : (j : ℕ) → j < 8 + k → column_of k j < 8 + k
  column-in j l = ⊎_elim (λ h. subst (λ n. n < 8 + k) (sym (column-low j h)) (omega arith)) (λ h. subst (λ n. n < 8 + k) (sym (column-mid j h l)) (omega arith)) (below j 8)

-- ---- lists by their places

pub tabulate-at : {A : Type 0} (n : ℕ) (f : ℕ → A) (i : ℕ) (d : A) → i < n → get_or (tabulate n f) i d ≡ f i
tabulate-at zero f i d h = absurd (not-suc-le-zero h)
tabulate-at (suc n) f zero d h = refl
tabulate-at (suc n) f (suc i) d h = tabulate-at n (λ i. f (suc i)) i d (le_of_suc-le-suc h)

pub tabulate-length : {A : Type 0} (n : ℕ) (f : ℕ → A) → length (tabulate n f) ≡ n
tabulate-length zero f = refl
tabulate-length (suc n) f = ap suc (tabulate-length n (λ i. f (suc i)))

module _ (k : ℕ) (kin : k ≤ 8) where
  abbrev pub lay : ℤ → List ℤ → List ℤ
  lay d ns = tabulate 18 (number_at k d ns)

  pub lay_at : (d : ℤ) (ns : List ℤ) (i : ℕ) → i < 18 → get_or (lay d ns) i (pos 0) ≡ number_at k d ns i
  lay_at d ns i h = tabulate-at 18 (number_at k d ns) i (pos 0) h

  pub lay-length : (d : ℤ) (ns : List ℤ) → length (lay d ns) ≡ 18
  lay-length d ns = tabulate-length 18 (number_at k d ns)

  pub lay-is : (l : List ℤ) (d : ℤ) (ns : List ℤ) → length l ≡ 18 → ((i : ℕ) → i < 18 → get_or l i (pos 0) ≡ number_at k d ns i) → l ≡ lay d ns
  lay-is l d ns e h =
      ext_get_or (pos 0) l (lay d ns) (e ∙ sym (lay-length d ns)) (λ i l. h i (subst (λ n. i < n) e l) ∙ sym (lay_at d ns i (subst (λ n. i < n) e l)))

  -- ---- the number at a place after a change of the row

  pub number-entry : (d : ℤ) (ns : List ℤ) (j : ℕ) → number_at k d ns (column_of k j + 2) ≡ get_or ns (suc j) (pos 0)
  unfolding number_at
  number-entry d ns j = rw add-two (ap (λ m. get_or ns (suc m) (pos 0)) (standing-column k j))

  pub lay-entry : (d : ℤ) (ns : List ℤ) (j : ℕ) → j < 8 + k → entry (lay d ns) (column_of k j) ≡ get_or ns (suc j) (pos 0)
  lay-entry d ns j h = let c = column-in k j h in lay_at d ns (column_of k j + 2) (omega arith) ∙ number-entry d ns j

  pub number-map : (g : ℤ → ℤ) (d : ℤ) (ns : List ℤ) (i : ℕ) → g (pos 0) ≡ pos 0 → number_at k (g d) (map g ns) i ≡ g (number_at k d ns i)
  unfolding number_at
  number-map g d ns zero e = refl
  number-map g d ns (suc zero) e = map-zero g ns 0 e
  number-map g d ns (suc (suc c)) e = map-zero g ns (suc (standing k c)) e

  pub number-set : (d : ℤ) (ns : List ℤ) (j : ℕ) (x : ℤ) → suc j < length ns → number_at k d (set ns (suc j) x) (column_of k j + 2) ≡ x
  number-set d ns j x h = number-entry d (set ns (suc j) x) j ∙ get_or-set_same ns (suc j) x (pos 0) h

  pub number-other : (d : ℤ) (ns : List ℤ) (j : ℕ) (x : ℤ) (i : ℕ) → (i ≡ column_of k j + 2 → ⊥) → number_at k d (set ns (suc j) x) i ≡ number_at k d ns i
  unfolding number_at
  number-other d ns j x zero n = refl
  number-other d ns j x (suc zero) n = get_or-set_other ns (suc j) 0 x (pos 0) (λ e. omega arith)
  number-other d ns j x (suc (suc c)) n =
      get_or-set_other ns (suc j) (suc (standing k c)) x (pos 0)
      (λ e. let q : standing k c ≡ j = omega arith in n (ap (λ m. suc (suc m)) (sym (column-standing k c) ∙ ap (column_of k) q) ∙ sym (add-two (column_of k j))))

  pub number-combine : (d p a : ℤ) (us vs : List ℤ) (i : ℕ) → length us ≡ length vs → number_at k d (combine p a us vs) (suc i) ≡ p *ℤ number_at k d us (suc i) -ℤ a *ℤ number_at k d vs (suc i)
  unfolding number_at
  number-combine d p a us vs zero e = get_or-combine p a us vs 0 e
  number-combine d p a us vs (suc c) e = get_or-combine p a us vs (suc (standing k c)) e

  -- past the denominator it does not count
  pub number-den : (d d' : ℤ) (ns : List ℤ) (i : ℕ) → number_at k d ns (suc i) ≡ number_at k d' ns (suc i)
  unfolding number_at
  number-den d d' ns zero = refl
  number-den d d' ns (suc c) = refl

  pub number-zero : (d : ℤ) (ns : List ℤ) → number_at k d ns 0 ≡ d
  unfolding number_at
  number-zero d ns = refl
