-- A tableau with one more row at its end, of a free variable: steps 1, 2 and 4, the exchange, and the row as the code holds it beside the
-- table. Assumes nothing.
use mathlib.Core.Path.{◌≡◌, refl, sym, ap, ap₂, ◌∙◌, subst}
use mathlib.Core.Bool.{Bool, true, false, ◌&&◌, ◌||◌, cond}
use mathlib.Core.List.{List, [], ◌∷◌, ◌++◌, map, tail}
use mathlib.Core.Option.{Option, none, some}
use Prim.Native.Nat.{ℕ, suc, ◌+◌, ◌-◌, ◌<◌}
use native.Mathlib.Nat.{zero-add}
use native.Mathlib.Omega.{arith}
use lib.Dec.{leb}
use lib.ListN.{length, get_or, set, length-map, get_or-append}
use lib.Seq.{set-append_left}
use lib.IntN.{ℤ, pos, nat_abs, ◌*ℤ◌}
use Rattle.model.specs.Sets.{Kind, is_zero}
use Rattle.model.specs.Lists.{all}
use Rattle.model.proofs.Lists.{map-append}
use Rattle.model.proofs.Count.{all_append, and-true}
use Rattle.feasibility.specs.Tableau.{Row, Tableau, entry, constant_of, violates, lowest, lower, when, violated_rows, helpful_cols, look, row, column, exchange, solved, replaced, reduced, combine, narrow, no_row}
use Rattle.feasibility.proofs.Exchange as X
use Rattle.feasibility.proofs.Exchange.{Shape, shape_at, shape-replaced}
use Rattle.feasibility.proofs.Verdicts.{row_var, col_var, lowest-some, found-row}
use Rattle.tableau.specs.Rows.{den, solve_row, rebuild_row, narrow_row_at}
use Rattle.simplex.specs.Table.{column_of, layout}
use Rattle.simplex.proofs.Shown.{rebuild-shows, narrow-shows}
use Rattle.simplex.proofs.Shows.{Shows, solved-is, a-place, jin, r-shape}
use Rattle.climbing.specs.Steps.{pivot_goal}

abbrev pub with_row : Tableau → Row → Tableau
with_row t g = record { cols = t.cols; rows = t.rows ++ (g ∷ []) }

-- ---- steps 1 and 2

lowest-last : (i : ℕ) (ms : List (Option ℕ)) → lowest i (ms ++ (none ∷ [])) ≡ lowest i ms
lowest-last i [] = refl
lowest-last i (none ∷ ms) = lowest-last (suc i) ms
lowest-last i (some v ∷ ms) = ap (lower (v, i)) (lowest-last (suc i) ms)

module _ (sort : ℕ → Option Kind) (t : Tableau) (g : Row) (free : sort g.var ≡ none) where
  lowest-same : lowest 0 (violated_rows sort (with_row t g).rows) ≡ lowest 0 (violated_rows sort t.rows)
  lowest-same =
      ap (lowest 0) (map-append (λ (r : Row). when (violates (sort r.var) (constant_of r)) r.var) t.rows (g ∷ []))
      ∙ ap (λ (s : Option Kind). lowest 0 (violated_rows sort t.rows ++ (when (violates s (constant_of g)) g.var ∷ []))) free
      ∙ lowest-last 0 (violated_rows sort t.rows)

  row_same : (o : Option (ℕ × ℕ)) → lowest 0 (violated_rows sort t.rows) ≡ o → row sort (with_row t g) o ≡ row sort t o
  row_same none e = refl
  row_same (some m) e =
      let l = lowest-some 0 (violated_rows sort t.rows) m e in
      let c = found-row sort t.rows l.m m.0 l.found in
      ap (λ (r : Row). column m.1 (lowest 0 (helpful_cols sort (constant_of r) t.cols (tail r.nums))))
      (get_or-append t.rows (g ∷ []) no_row m.1 (subst (λ n. n < length t.rows) (sym (l.place ∙ zero-add l.m)) c.0))

  pub look-last : look sort (with_row t g) ≡ look sort t
  unfolding look
  look-last = ap (row sort (with_row t g)) lowest-same ∙ row_same (lowest 0 (violated_rows sort t.rows)) refl

-- ---- step 4

abbrev pub narrow_of : ℕ → ℕ → Row → Bool
narrow_of m j r = is_zero (entry r j) || all (λ (z : ℤ). leb (nat_abs z) m) (r.den ∷ r.nums)

pub narrow-last : (m j : ℕ) (t : Tableau) (g : Row) → narrow m j (with_row t g) ≡ (narrow m j t && narrow_of m j g)
narrow-last m j t g = all_append (narrow_of m j) t.rows (g ∷ []) ∙ ap (λ b. narrow m j t && b) (and-true (narrow_of m j g))

-- ---- the exchange

module _ (i j : ℕ) (t : Tableau) (g : Row) (h : i < length t.rows) where
  abbrev pub crossed : Row
  crossed = replaced (get_or t.rows i no_row) j g

  pub exchange-last : exchange i j (with_row t g) ≡ with_row (exchange i j t) crossed
  unfolding exchange
  exchange-last =
      let r : Row = get_or t.rows i no_row in
      let u : Row = solved r j (get_or t.cols j 0) in
      ap (λ (s : Row). record {
        cols = set t.cols j s.var;
        rows = set (map (replaced s j) (t.rows ++ (g ∷ []))) i (solved s j (get_or t.cols j 0));
      }) (get_or-append t.rows (g ∷ []) no_row i h)
      ∙ ap (λ (l : List Row). record { cols = set t.cols j r.var; rows = set l i u }) (map-append (replaced r j) t.rows (g ∷ []))
      ∙ ap (λ (l : List Row). record { cols = set t.cols j r.var; rows = l }) (set-append_left (map (replaced r j) t.rows) (crossed ∷ []) i u (subst (λ n. i < n) (sym (length-map t.rows (replaced r j))) h))

  crossed-var : crossed.var ≡ g.var
  crossed-var = at (is_zero (entry g j))
    where
      r : Row
      r = get_or t.rows i no_row

      at : (b : Bool) → (cond b g (reduced (record { var = g.var; den = entry r j *ℤ g.den; nums = set (combine (entry r j) (entry g j) g.nums r.nums) (suc j) (entry g j *ℤ r.den) }))).var ≡ g.var
      at true = refl
      at false = refl

-- ---- the row beside the table

-- goal is the row g, of a free variable
pub record Goal (k : ℕ) (sort : ℕ → Option Kind) (g : Row) (goal : List ℤ) : Type 0 where
  pub shape : Shape (8 + k) g
  pub free : sort g.var ≡ none
  pub goal_is : goal ≡ layout k g

module _ (k : ℕ) (sort : ℕ → Option Kind) (t : Tableau) (g : Row) (rows : List (List ℤ)) (goal : List ℤ) (place : List ℕ) (s : Shows k rows place t) (γ : Goal k sort g goal) where
  abbrev spot : ℕ → ℕ
  spot j = get_or place (col_var t j) 0 - 64

  pub spot_is : (j : ℕ) → j < length t.cols → spot j ≡ column_of k j
  spot_is j h = ap (λ n. n - 64) (s.cols_at j h).1 ∙ minus
    where
      minus : 64 + column_of k j - 64 ≡ column_of k j
      minus = omega arith

  pub goal-narrow : (m j : ℕ) → j < length t.cols → narrow_row_at m (spot j) goal ≡ narrow_of m j g
  goal-narrow m j h = ap₂ (narrow_row_at m) (spot_is j h) γ.goal_is ∙ narrow-shows k s.few m g j (subst (λ n. j < n) s.width h) γ.shape

  module _ (i j : ℕ) (p : X.Pivot i j t) where
    abbrev r : Row
    r = get_or t.rows i no_row

    pivot-goal : pivot_goal rows goal place (row_var t i) (col_var t j) ≡ layout k (replaced r j g)
    unfolding pivot_goal
    pivot-goal =
        ap₂ (λ n c. rebuild_row c (den (solve_row (get_or rows n []) c)) (set (solve_row (get_or rows n []) c) 0 (pos 0)) goal) (a-place k i j t p rows place s) (spot_is j p.col)
        ∙ ap₂ (λ (u l : List ℤ). rebuild_row (column_of k j) (den u) (set u 0 (pos 0)) l) (solved-is k i j t p rows place s) γ.goal_is
        ∙ rebuild-shows k s.few r j (col_var t j) (jin k i j t p rows place s) (r-shape k i j t p rows place s) p.entry g γ.shape

    pub goal-crossed : Goal k sort (crossed i j t g p.row) (pivot_goal rows goal place (row_var t i) (col_var t j))
    goal-crossed =
        record {
          shape = subst (λ n. Shape n (replaced r j g)) s.width
              (shape-replaced j t.cols p.col r (shape_at (length t.cols) t.rows i p.row s.shaped) p.entry g (subst (λ n. Shape n g) (sym s.width) γ.shape));
          free = ap sort (crossed-var i j t g p.row) ∙ γ.free;
          goal_is = pivot-goal;
        }
