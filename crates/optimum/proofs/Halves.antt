-- Both halves of the value search: every tableau has the first one's solutions, row k stays the expression's, and no row of the second half's is
-- violated; what the second half ends with.
use mathlib.Core.Path.{◌≡◌, refl, sym, ap, ◌∙◌, subst}
use mathlib.Core.Bool.{Bool, true, false}
use mathlib.Core.Logic.{◌⊎◌, inl, inr}
use mathlib.Core.List.{tail}
use mathlib.Core.Option.{Option, none}
use Prim.Native.Nat.{ℕ, zero, suc, ◌<◌}
use lib.Dec.{T}
use lib.IntN.{ℤ}
use lib.ListN.{length}
use Rattle.model.specs.Sets.{Kind}
use Rattle.feasibility.specs.Tableau.{point, Tableau, entry, constant_of, violates, helps, lowest, helpful_cols, exchange, reach}
use Rattle.feasibility.proofs.Exchange.{Solves, Pivot, exchange-on, exchange-back}
use Rattle.feasibility.proofs.Verdicts.{Turn, row_var, col_var}
use Rattle.feasibility.proofs.Reached.{reach-keeps, reach-point}
use Rattle.feasibility.proofs.Sound.{row_of, length-rows, row_other, Sound, exchange-sound}
use Rattle.optimum.specs.Value.{Extreme, unbounded, too_wide, too_long, Aim, best, endless, turn, aim, fraction, climb}
use Rattle.optimum.proofs.Moves.{Stops, change, Improvement}
use Rattle.optimum.proofs.Feasible.{Feasible, feasible-start, feasible-on}
use Rattle.optimum.proofs.Aimed.{Aims, none-improves, none-stops, improves, aimed}
use Rattle.optimum.proofs.Climb.{climb-best, climb-endless, climb-long, climb-wide, climb-step}

-- the same solutions
pub record Same (s t : Tableau) : Type 0 where
  pub on : (x : ℕ → ℤ) (D : ℤ) → Solves x D s.cols s.rows → Solves x D t.cols t.rows
  pub back : (x : ℕ → ℤ) (D : ℤ) → Solves x D t.cols t.rows → Solves x D s.cols s.rows

pub same_self : (t : Tableau) → Same t t
same_self t = record { on = λ x D h. h; back = λ x D h. h }

same-on : (s : Tableau) (i j : ℕ) (t : Tableau) → Pivot i j t → Sound t → Same s t → Same s (exchange i j t)
same-on s i j t p g m = record { on = λ x D h. exchange-on i j t p g.shaped x D (m.on x D h); back = λ x D h. m.back x D (exchange-back i j t p g.shaped x D h) }

module _ (sort : ℕ → Option Kind) (k e : ℕ) (free : sort e ≡ none) (s : Tableau) where
  -- ---- the first half: every tableau has this

  pub record Stage (t : Tableau) : Type 0 where
    pub sound : Sound t
    pub inside : k < length t.rows
    pub expression : row_var t k ≡ e
    pub same : Same s t

  -- the expression's row is never violated, so it stays
  stage-on : (i j : ℕ) (t : Tableau) → Turn sort i j t → Stage t → Stage (exchange i j t)
  stage-on i j t p g =
      record {
        sound = exchange-sound i j t p.pivots g.sound;
        inside = subst (λ (n : ℕ). k < n) (sym (length-rows i j t)) g.inside;
        expression = row_other i j t k g.inside apart ∙ g.expression;
        same = same-on s i j t p.pivots g.sound g.same;
      }
    where
      apart : k ≡ i → ⊥
      apart q = subst (λ (o : Option Kind). T (violates o (constant_of (row_of t i)))) (ap sort (ap (row_var t) (sym q) ∙ g.expression) ∙ free) p.violated

  pub stage-reached : (fits : ℕ → Tableau → Bool) (n : ℕ) → Stage s → Stage (reach fits sort n s).tableau
  stage-reached fits n g = reach-keeps fits sort Stage (λ i j t p f. stage-on i j t p) n s g

  -- a point: the second half may begin
  pub stage-point : (fits : ℕ → Tableau → Bool) (n : ℕ) → Stage s → (reach fits sort n s).verdict ≡ point → Feasible sort k e (reach fits sort n s).tableau
  stage-point fits n g q =
      let u : Tableau = (reach fits sort n s).tableau in
      let h : Stage u = stage-reached fits n g in
      feasible-start sort k e u h.sound (reach-point fits sort n s q) h.inside h.expression

-- ---- the second half

-- so many exchanges lead from a tableau to u, each of the row and column that the second half finds, in numbers that fit
pub data Climbs (fits : ℕ → Tableau → Bool) (sort : ℕ → Option Kind) (z : ℤ) (k : ℕ) (u : Tableau) : ℕ → Tableau → Type 0 where
  there : Climbs fits sort z k u 0 u
  exchanged : {n : ℕ} {t : Tableau} (i j : ℕ) → aim sort z k t ≡ turn i j → fits j t ≡ true → Climbs fits sort z k u n (exchange i j t) → Climbs fits sort z k u (suc n) t

module _ (sort : ℕ → Option Kind) (z : ℤ) (k e : ℕ) where
  abbrev F : Tableau → Type 0
  F t = Feasible sort k e t

  found : (t : Tableau) → F t → (l : Aim) → aim sort z k t ≡ l → Aims sort z k t l
  found t g l q = subst (Aims sort z k t) q (aimed sort z k t g.allowed)

  -- the row and column that a step finds are a pivot that improves the value
  pub aimed-turn : (t : Tableau) → F t → (i j : ℕ) → aim sort z k t ≡ turn i j → Improvement sort z k i j t
  aimed-turn t g i j q = only (found t g (turn i j) q)
    where
      only : Aims sort z k t (turn i j) → Improvement sort z k i j t
      only (improves i j p) = p

  -- how it ends, and at which tableau: with the same solutions as s
  pub data End (s : Tableau) (x : Extreme) : Type 0 where
    at_value : (u : Tableau) → F u → Same s u → lowest 0 (helpful_cols sort z u.cols (tail (row_of u k).nums)) ≡ none → x ≡ fraction (row_of u k) → End s x
    at-endless : (u : Tableau) → F u → Same s u → (j : ℕ) → j < length u.cols → T (helps (sort (col_var u j)) z (entry (row_of u k) j))
        → ((m : ℕ) → m < length u.rows → Stops (sort (row_var u m)) (change z k j u m) → ⊥) → x ≡ unbounded → End s x
    at-limit : (x ≡ too_wide) ⊎ (x ≡ too_long) → End s x

  module _ (free : sort e ≡ none) where
    pub feasible-step : (t : Tableau) → F t → (i j : ℕ) → aim sort z k t ≡ turn i j → F (exchange i j t)
    feasible-step t g i j q = feasible-on sort k e free z t g i j (aimed-turn t g i j q)

    pub climbs-feasible : (fits : ℕ → Tableau → Bool) (n : ℕ) (t u : Tableau) → Climbs fits sort z k u n t → F t → F u
    climbs-feasible fits zero t _ there g = g
    climbs-feasible fits (suc n) t u (exchanged i j q f c) g = climbs-feasible fits n (exchange i j t) u c (feasible-step t g i j q)

    module _ (s : Tableau) (fits : ℕ → Tableau → Bool) where
      best-end : (n : ℕ) (t : Tableau) → F t → Same s t → aim sort z k t ≡ best → End s (climb fits sort z k n t)
      best-end n t g m q = at (found t g best q)
        where
          at : Aims sort z k t best → End s (climb fits sort z k n t)
          at (none-improves h) = at_value t g m h (climb-best fits sort z k n t q)

      endless-end : (n : ℕ) (t : Tableau) → F t → Same s t → aim sort z k t ≡ endless → End s (climb fits sort z k n t)
      endless-end n t g m q = at (found t g endless q)
        where
          at : Aims sort z k t endless → End s (climb fits sort z k n t)
          at (none-stops j h a b) = at-endless t g m j h a b (climb-endless fits sort z k n t q)

      pub climb-end : (n : ℕ) (t : Tableau) → F t → Same s t → End s (climb fits sort z k n t)
      climb-end zero t g m = at (aim sort z k t) refl
        where
          at : (l : Aim) → aim sort z k t ≡ l → End s (climb fits sort z k 0 t)
          at best q = best-end 0 t g m q
          at endless q = endless-end 0 t g m q
          at (turn i j) q = at-limit (inr (climb-long fits sort z k i j t q))
      climb-end (suc n) t g m = at (aim sort z k t) refl (λ t'. climb-end n t')
        where
          at : (l : Aim) → aim sort z k t ≡ l → ((t' : Tableau) → F t' → Same s t' → End s (climb fits sort z k n t')) → End s (climb fits sort z k (suc n) t)
          at best q ih = best-end (suc n) t g m q
          at endless q ih = endless-end (suc n) t g m q
          at (turn i j) q ih = on (fits j t) refl
            where
              on : (b : Bool) → fits j t ≡ b → End s (climb fits sort z k (suc n) t)
              on false f = at-limit (inl (climb-wide fits sort z k n i j t q f))
              on true f =
                  subst (End s) (sym (climb-step fits sort z k n i j t q f))
                  (ih (exchange i j t) (feasible-step t g i j q) (same-on s i j t (aimed-turn t g i j q).pivots g.sound m))
