-- The rows that a run's pivots build are those of the tableau that the table shows (document 02, request 4).
-- Assumes nothing.
use mathlib.Core.Path.{◌≡◌, refl, sym, ap, ap₂, ◌∙◌, subst}
use mathlib.Core.Bool.{Bool, true, false, not, cond}
use mathlib.Core.List.{List, [], ◌∷◌, map}
use mathlib.Core.Option.{Option}
use Prim.Native.Nat.{ℕ, zero, suc, ◌+◌, ◌-◌, ◌*◌, ◌≤◌, ◌<◌, zero-le}
use native.Mathlib.Nat.{zero-add}
use native.Mathlib.Omega.{arith}
use lib.ListN.{length, get_or}
use lib.IntN.{ℤ}
use Rattle.model.specs.Lists.{filter, cons_if}
use Rattle.model.specs.Sets.{Kind, is_zero}
use Rattle.feasibility.specs.Tableau as T
use Rattle.feasibility.specs.Tableau.{Row, Tableau, exchange, look, pivot, built, built_rows}
use Rattle.feasibility.proofs.Built.{built-calm, built-stuck, built-wide, built-step}
use Rattle.feasibility.proofs.Exchange as X
use Rattle.feasibility.proofs.Verdicts.{row_var, col_var}
use Rattle.tableau.specs.Rows.{touched}
use Rattle.tableau.proofs.Lines.{touched-le}
use Rattle.simplex.specs.declared.Verdict.{Verdict}
use Rattle.simplex.specs.declared.Verdict.TheVariants.{Wide}
use Rattle.simplex.specs.declared.Move.{Move}
use Rattle.simplex.specs.declared.Move.TheVariants.{Stop, Pivot}
use Rattle.simplex.specs.Table.{column_of, layout, move_at, pivot_rows, pivot_place, pivot_built, count_move, built_table_at}
use Rattle.simplex.proofs.Columns.{lay-entry}
use Rattle.simplex.proofs.Moves.{pivot-left_at, pivot-length, rows-length}
use Rattle.simplex.proofs.Shows.{exchange-shows, Shows}
use Rattle.simplex.proofs.Choosing.{Chosen, calm, stuck, spent, turns, chosen}
use Rattle.simplex.proofs.Bridge.{Sorted}

-- ---- one pivot

-- the number that an exchange returns is exactly that of the tableau's rows with a nonzero entry in the column
pub built-rows : (k j : ℕ) (t : Tableau) (rows : List (List ℤ)) (place : List ℕ) → Shows k rows place t
    → j < length t.cols → pivot_built rows place (col_var t j) ≡ length (built_rows j t)
unfolding touched
built-rows k j t rows place s h =
    ap₂ (λ (n : ℕ) (u : List (List ℤ)). touched (n - 64) u) (s.cols_at j h).1 s.rows_are
    ∙ ap (λ (n : ℕ). touched n (map (layout k) t.rows)) minus
    ∙ each t.rows
  where
    minus : 64 + column_of k j - 64 ≡ column_of k j
    minus = omega arith

    one : (b : Bool) (r : Row) (l : List Row) → cond b 0 1 + length l ≡ length (cons_if (not b) r l)
    one true r l = zero-add (length l)
    one false r l = omega arith

    each : (rs : List Row)
        → touched (column_of k j) (map (layout k) rs) ≡ length (filter (λ (r : Row). not (is_zero (T.entry r j))) rs)
    each [] = refl
    each (r ∷ rs) =
        let jin : j < 8 + k = subst (λ (n : ℕ). j < n) s.width h in
        ap₂ (λ (z : ℤ) (n : ℕ). cond (is_zero z) 0 1 + n) (lay-entry k s.few r.den r.nums j jin) (each rs)
        ∙ one (is_zero (T.entry r j)) r _

-- ---- a run

module _ (b : ℕ) (kinds : List ℕ) where
  -- the rows built in n pivots and after one of them
  abbrev count : ℕ → List (List ℤ) → List ℕ → ℕ
  count n t place = built_table_at b kinds n t place

  abbrev after : ℕ → List (List ℤ) → List ℕ → ℕ → ℕ → ℕ
  after n t place v w = pivot_built t place w + count n (pivot_rows t place v w) (pivot_place place v w)

  module _ (t : List (List ℤ)) (place : List ℕ) where
    pub built-stop : (n : ℕ) (x : Verdict) → move_at b t place kinds n ≡ Stop x → count n t place ≡ 0
    unfolding built_table_at
    built-stop zero x e = refl
    built-stop (suc n) x e = ap (λ (m : Move). count_move m (count n) t place) e

    built-more : (n v w : ℕ) → move_at b t place kinds (suc n) ≡ Pivot v w → count (suc n) t place ≡ after n t place v w
    unfolding built_table_at
    built-more n v w e = ap (λ (m : Move). count_move m (count n) t place) e

    pub built-pivot : (n v w : ℕ) → move_at b t place kinds n ≡ Pivot v w → count n t place ≡ after (n - 1) t place v w
    built-pivot zero v w e = absurd (let h = pivot-left_at b kinds 0 t place v w e in omega arith)
    built-pivot (suc n) v w e = built-more n v w e ∙ ap (λ (m : ℕ). after m t place v w) {x = n} {y = suc n - 1} (omega arith)

  -- a pivot builds 64 rows at most
  pub built-le : (n : ℕ) (t : List (List ℤ)) (place : List ℕ) → length t ≤ 64 → count n t place ≤ 64 * n
  unfolding built_table_at
  built-le zero t place h = zero-le
  built-le (suc n) t place h = at (move_at b t place kinds (suc n)) (λ t place h. built-le n t place h)
    where
      at : (m : Move) → ((t : List (List ℤ)) (place : List ℕ) → length t ≤ 64 → count n t place ≤ 64 * n)
          → count_move m (count n) t place ≤ 64 * suc n
      at (Stop x) ih = zero-le
      at (Pivot v w) ih =
          let l = rows-length t place v w in
          let i = ih (pivot_rows t place v w) (pivot_place place v w) (omega arith) in
          let k = touched-le (get_or place w 0 - 64) t in
          omega arith

module _ (k : ℕ) (sort : ℕ → Option Kind) (kinds : List ℕ) (b : ℕ) where
  pub built-shows : (n : ℕ) (t : Tableau) (rows : List (List ℤ)) (place : List ℕ) → Shows k rows place t
      → Sorted k sort kinds place → built_table_at b kinds n rows place ≡ built (T.narrow b) sort n t
  unfolding built_table_at built
  built-shows zero t rows place s ks = refl
  built-shows (suc n) t rows place s ks =
      at (look sort t) refl (chosen k sort t rows place kinds s ks b (suc n))
      (λ i j p. built-shows n (exchange i j t) (rows' i j) (place' i j) (exchange-shows k i j t p rows place s)
      (λ v h. ks v (subst (λ (m : ℕ). v < m) (pivot-length place (row_var t i) (col_var t j)) h)))
    where
      rows' : ℕ → ℕ → List (List ℤ)
      rows' i j = pivot_rows rows place (row_var t i) (col_var t j)

      place' : ℕ → ℕ → List ℕ
      place' i j = pivot_place place (row_var t i) (col_var t j)

      Now : Type 0
      Now = built_table_at b kinds (suc n) rows place ≡ built (T.narrow b) sort (suc n) t

      Then : ℕ → ℕ → Type 0
      Then i j = built_table_at b kinds n (rows' i j) (place' i j) ≡ built (T.narrow b) sort n (exchange i j t)

      on : (i j : ℕ) → look sort t ≡ pivot i j → j < length t.cols → (c : Bool) → T.narrow b j t ≡ c
          → cond c (Pivot (row_var t i) (col_var t j)) (Stop Wide) ≡ move_at b rows place kinds (suc n) → Then i j → Now
      on i j q h false z e ih = built-stop b kinds rows place (suc n) Wide (sym e) ∙ sym (built-wide (T.narrow b) sort n i j t q z)
      on i j q h true z e ih =
          built-more b kinds rows place n (row_var t i) (col_var t j) (sym e)
          ∙ ap₂ ◌+◌ (built-rows k j t rows place s h) ih
          ∙ sym (built-step (T.narrow b) sort n i j t q z)

      at : (l : T.Look) → look sort t ≡ l → Chosen k sort t rows place kinds s ks b (suc n) l
          → ((i j : ℕ) → X.Pivot i j t → Then i j) → Now
      at _ q (calm e) ih = built-stop b kinds rows place (suc n) _ e ∙ sym (built-calm (T.narrow b) sort (suc n) t q)
      at _ q (stuck e) ih = built-stop b kinds rows place (suc n) _ e ∙ sym (built-stuck (T.narrow b) sort (suc n) t q)
      at _ q (spent i j z e) ih = absurd (clash z)
        where
          clash : suc n ≡ 0 → ⊥
          clash z = omega arith
      at _ q (turns i j p m e) ih = on i j q p.col (T.narrow b j t) refl e (ih i j p)
