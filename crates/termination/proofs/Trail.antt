-- Steps one after another, of any kind (`Walk`): the same column variables never come back. By the highest number that moves: it never moves
-- both ways (`never`), so it moves once at most.
use mathlib.Core.Path.{◌≡◌, refl, sym, ap, ◌∙◌, subst}
use mathlib.Core.Bool.{Bool, true, false, not}
use mathlib.Core.Logic.{◌⊎◌, inl, inr, ⊎_elim}
use Prim.Native.Nat.{ℕ, zero, suc, ◌≤◌, ◌<◌}
use native.Mathlib.Nat.{le_refl, not-suc-le-zero}
use native.Mathlib.Omega.{arith}
use Rattle.integers.specs.Part.{lt-or-le}
use Rattle.feasibility.specs.Tableau.{Tableau, exchange}
use Rattle.feasibility.proofs.Exchange.{Pivot}
use Rattle.feasibility.proofs.Verdicts.{row_var, col_var, true-false}
use Rattle.feasibility.proofs.Sound.{Sound}
use Rattle.termination.specs.Unlimited.{in_cols, SameColumns}
use Rattle.termination.proofs.Columns.{col-yes, row-no, stays-where, leaver-in, enterer-out}

-- ---- a kind of step

-- what a step has to have, so that no choice of column variables comes back: `Same t u` says what of t is so in u
pub record Walk : Type 1 where
  pub Good : Tableau → Type 0
  pub Turns : ℕ → ℕ → Tableau → Type 0
  pub Same : Tableau → Tableau → Type 0
  pub pivot : (i j : ℕ) (t : Tableau) → Turns i j t → Pivot i j t
  pub sound : (t : Tableau) → Good t → Sound t
  pub onward : (i j : ℕ) (t : Tableau) → Turns i j t → Good t → Good (exchange i j t)
  pub self : (t : Tableau) → Same t t
  pub on : (i j : ℕ) (t u : Tableau) → Turns i j t → Good t → Same u t → Same u (exchange i j t)
  pub back : (i j : ℕ) (t u : Tableau) → Turns i j t → Good t → Same t u → Same (exchange i j t) u
  -- r leaves t and enters u, and nothing above r is in play
  pub never : (i j : ℕ) (t : Tableau) → Good t → Turns i j t → (i' j' : ℕ) (u : Tableau) → Good u → Turns i' j' u
      → col_var u j' ≡ row_var t i → row_var u i' < row_var t i → col_var t j < row_var t i → Same t u → ((v : ℕ) → row_var t i < v → in_cols u v ≡ in_cols t v) → ⊥

-- ---- steps in which only variables below r move

abbrev pub Trail : (ℕ → ℕ → Tableau → Type 0) → ℕ → ℕ → Tableau → Tableau → Type 0
Trail Turns r zero t u = t ≡ u
Trail Turns r (suc n) t u = (i : ℕ) × (j : ℕ) × Turns i j t × (row_var t i < r) × (col_var t j < r) × Trail Turns r n (exchange i j t) u

low-or-is : (v r : ℕ) → v < suc r → (v < r) ⊎ (v ≡ r)
low-or-is v r h = ⊎_elim inl (λ g. inr (omega arith)) (lt-or-le v r)

above : {v w r : ℕ} → w < r → r ≤ v → v ≡ w → ⊥
above h k e = omega arith

not-self : {a b : ℕ} → a < b → b ≡ a → ⊥
not-self l e = omega arith

not_low : {a b c : ℕ} → c < suc a → a < b → b ≡ c → ⊥
not_low h l e = omega arith

either : (a b r : ℕ) → a < suc r → b < suc r → ((a < r) × (b < r)) ⊎ ((a ≡ r) ⊎ (b ≡ r))
either a b r h k = ⊎_elim (λ x. ⊎_elim (λ y. inl (x, y)) (λ y. inr (inr y)) (low-or-is b r k)) (λ x. inr (inl x)) (low-or-is a r h)

not-not : (b : Bool) → b ≡ not b → ⊥
not-not true e = true-false e
not-not false e = true-false (sym e)

module _ (W : Walk) where
  abbrev Tr : ℕ → ℕ → Tableau → Tableau → Type 0
  Tr r n t u = Trail W.Turns r n t u

  -- the others stay where they are
  kept : (r n : ℕ) (t u : Tableau) → Tr r n t u → (v : ℕ) → r ≤ v → in_cols t v ≡ in_cols u v
  kept r zero t u e v h = ap (λ (x : Tableau). in_cols x v) e
  kept r (suc n) t u s v h = sym (stays-where s.0 s.1 t (W.pivot s.0 s.1 t s.2) v (above s.3 h) (above s.4 h)) ∙ kept r n (exchange s.0 s.1 t) u s.5 v h

  -- r has left: where nothing above r moves, r does not move again
  module _ (t₀ : Tableau) (g₀ : W.Good t₀) (i₀ j₀ : ℕ) (turn₀ : W.Turns i₀ j₀ t₀) (low₀ : col_var t₀ j₀ < row_var t₀ i₀) where
    abbrev r : ℕ
    r = row_var t₀ i₀

    stays_out : (n : ℕ) (t u : Tableau) → W.Good t → W.Same t₀ t → ((v : ℕ) → r < v → in_cols t v ≡ in_cols t₀ v) → in_cols t r ≡ true → Tr (suc r) n t u → Tr r n t u
    stays_out zero t u g k b y s = s
    stays_out (suc n) t u g k b y s =
        let i : ℕ = s.0 in
        let j : ℕ = s.1 in
        let p : Pivot i j t = W.pivot i j t s.2 in
        let no_row : row_var t i ≡ r → ⊥ = λ e. true-false (sym y ∙ ap (in_cols t) (sym e) ∙ row-no t (W.sound t g).placed i p.row) in
        let low : row_var t i < r = ⊎_elim (λ h. h) (λ e. absurd (no_row e)) (low-or-is (row_var t i) r s.3) in
        let no-col : col_var t j ≡ r → ⊥ = λ e. W.never i₀ j₀ t₀ g₀ turn₀ i j t g s.2 e low low₀ k b in
        let lowc : col_var t j < r = ⊎_elim (λ h. h) (λ e. absurd (no-col e)) (low-or-is (col_var t j) r s.4) in (
          i,
          j,
          s.2,
          low,
          lowc,
          stays_out n (exchange i j t) u (W.onward i j t s.2 g) (W.on i j t t₀ s.2 g k)
              (λ v h. stays-where i j t p v (above low (omega (arith, h))) (above lowc (omega (arith, h))) ∙ b v h)
              (stays-where i j t p r (λ e. no_row (sym e)) (λ e. no-col (sym e)) ∙ y)
              s.5,
        )

  -- r has come in: where nothing above r moves, r does not move again
  module _ (t₀ : Tableau) (g₀ : W.Good t₀) (i₀ j₀ : ℕ) (turn₀ : W.Turns i₀ j₀ t₀) (low₀ : row_var t₀ i₀ < col_var t₀ j₀) where
    abbrev c : ℕ
    c = col_var t₀ j₀

    stays-in : (n : ℕ) (t u : Tableau) → W.Good t → W.Same t t₀ → ((v : ℕ) → c < v → in_cols t₀ v ≡ in_cols t v) → in_cols t c ≡ false → Tr (suc c) n t u → Tr c n t u
    stays-in zero t u g k b y s = s
    stays-in (suc n) t u g k b y s =
        let i : ℕ = s.0 in
        let j : ℕ = s.1 in
        let p : Pivot i j t = W.pivot i j t s.2 in
        let no-col : col_var t j ≡ c → ⊥ = λ e. true-false (sym (col-yes t j p.col) ∙ ap (in_cols t) e ∙ y) in
        let lowc : col_var t j < c = ⊎_elim (λ h. h) (λ e. absurd (no-col e)) (low-or-is (col_var t j) c s.4) in
        let no_row : row_var t i ≡ c → ⊥ = λ e.
        W.never i j t g s.2 i₀ j₀ t₀ g₀ turn₀ (sym e)
        (subst (λ (v : ℕ). row_var t₀ i₀ < v) (sym e) low₀)
        (subst (λ (v : ℕ). col_var t j < v) (sym e) lowc) k
        (λ v h. b v (subst (λ (x : ℕ). x < v) e h)) in
        let low : row_var t i < c = ⊎_elim (λ h. h) (λ e. absurd (no_row e)) (low-or-is (row_var t i) c s.3) in (
          i,
          j,
          s.2,
          low,
          lowc,
          stays-in n (exchange i j t) u (W.onward i j t s.2 g) (W.back i j t t₀ s.2 g k)
              (λ v h. b v h ∙ sym (stays-where i j t p v (above low (omega (arith, h))) (above lowc (omega (arith, h)))))
              (stays-where i j t p c (λ e. no_row (sym e)) (λ e. no-col (sym e)) ∙ y)
              s.5,
        )

  -- r moves, and nothing above r: it does not move again
  module _ (i j n : ℕ) (t u : Tableau) (g : W.Good t) (turn : W.Turns i j t) where
    abbrev p : Pivot i j t
    p = W.pivot i j t turn

    apart : row_var t i ≡ col_var t j → ⊥
    apart e = true-false (sym (col-yes t j p.col) ∙ ap (in_cols t) (sym e) ∙ row-no t (W.sound t g).placed i p.row)

    gone-out : col_var t j < suc (row_var t i) → Tr (suc (row_var t i)) n (exchange i j t) u → Tr (row_var t i) n (exchange i j t) u
    gone-out h s =
        stays_out t g i j turn (⊎_elim (λ l. l) (λ e. absurd (apart (sym e))) (low-or-is (col_var t j) (row_var t i) h)) n (exchange i j t) u (W.onward i j t turn g)
        (W.on i j t t turn g (W.self t))
        (λ v l. stays-where i j t p v (λ e. not-self l e) (λ e. not_low h l e)) (leaver-in i j t p) s

    come-in : row_var t i < suc (col_var t j) → Tr (suc (col_var t j)) n (exchange i j t) u → Tr (col_var t j) n (exchange i j t) u
    come-in h s =
        stays-in t g i j turn (⊎_elim (λ l. l) (λ e. absurd (apart e)) (low-or-is (row_var t i) (col_var t j) h)) n (exchange i j t) u (W.onward i j t turn g)
        (W.back i j t t turn g (W.self t))
        (λ v l. sym (stays-where i j t p v (λ e. not_low h l e) (λ e. not-self l e))) (enterer-out i j t p (W.sound t g)) s

    -- what is left is below r, and r has changed its side
    once : (r : ℕ) → row_var t i < suc r → col_var t j < suc r → (row_var t i ≡ r) ⊎ (col_var t j ≡ r) → Tr (suc r) n (exchange i j t) u
        → Tr r n (exchange i j t) u × (in_cols (exchange i j t) r ≡ not (in_cols t r))
    once r h k (inl e) s = (
      subst (λ (x : ℕ). Tr x n (exchange i j t) u) e (gone-out (subst (λ (x : ℕ). col_var t j < suc x) (sym e) k) (subst (λ (x : ℕ). Tr (suc x) n (exchange i j t) u) (sym e) s)),
      subst (λ (x : ℕ). in_cols (exchange i j t) x ≡ not (in_cols t x)) e (leaver-in i j t p ∙ sym (ap not (row-no t (W.sound t g).placed i p.row))),
    )
    once r h k (inr e) s = (
      subst (λ (x : ℕ). Tr x n (exchange i j t) u) e (come-in (subst (λ (x : ℕ). row_var t i < suc x) (sym e) h) (subst (λ (x : ℕ). Tr (suc x) n (exchange i j t) u) (sym e) s)),
      subst (λ (x : ℕ). in_cols (exchange i j t) x ≡ not (in_cols t x)) e (enterer-out i j t p (W.sound t g) ∙ sym (ap not (col-yes t j p.col))),
    )

  -- ---- the same column variables

  -- r would have changed its side
  same-narrows : (r n : ℕ) (t u : Tableau) → W.Good t → Tr (suc r) n t u → in_cols t r ≡ in_cols u r → Tr r n t u
  same-narrows r zero t u g s e = s
  same-narrows r (suc n) t u g s e = at (either (row_var t s.0) (col_var t s.1) r s.3 s.4) (same-narrows r n (exchange s.0 s.1 t) u)
    where
      i : ℕ
      i = s.0

      j : ℕ
      j = s.1

      at : ((row_var t i < r) × (col_var t j < r)) ⊎ ((row_var t i ≡ r) ⊎ (col_var t j ≡ r))
          → (W.Good (exchange i j t) → Tr (suc r) n (exchange i j t) u → in_cols (exchange i j t) r ≡ in_cols u r → Tr r n (exchange i j t) u) → Tr r (suc n) t u
      at (inl h) f = (i, j, s.2, h.0, h.1, f (W.onward i j t s.2 g) s.5 (stays-where i j t (W.pivot i j t s.2) r (above h.0 (le_refl r)) (above h.1 (le_refl r)) ∙ e))
      at (inr h) f =
          let o = once i j n t u g s.2 r s.3 s.4 h s.5 in
          absurd (not-not (in_cols t r) (e ∙ sym (kept r n (exchange i j t) u o.0 r (le_refl r)) ∙ o.1))

  pub no_return : (r n : ℕ) (t u : Tableau) → W.Good t → Tr r n t u → SameColumns t u → n ≡ 0
  no_return zero zero t u g s e = refl
  no_return zero (suc n) t u g s e = absurd (not-suc-le-zero s.3)
  no_return (suc r) n t u g s e = no_return r n t u g (same-narrows r n t u g s (e r)) e
