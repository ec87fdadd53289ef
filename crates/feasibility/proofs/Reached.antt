-- The tableau that a test reaches: it has what the first one has and each pivot keeps, and after a point no row of it is violated.
use mathlib.Core.Path.{◌≡◌, refl, sym, subst}
use mathlib.Core.Bool.{Bool, true, false}
use mathlib.Core.Option.{Option}
use Prim.Native.Nat.{ℕ, zero, suc}
use lib.Dec.{T}
use Rattle.model.specs.Sets.{Kind}
use Rattle.feasibility.specs.Tableau.{Verdict, point, dropped, long, wide, Tableau, exchange, Look, none_violated, none_helps, pivot, look, Ending, reach}
use Rattle.feasibility.proofs.Reach.{reach-calm, reach-stuck, reach-long, reach-wide, reach_step}
use Rattle.feasibility.proofs.Verdicts.{Turn, Found, turns, looked}

abbrev IsPoint : Verdict → Type 0
IsPoint point = Unit {0}
IsPoint dropped = ⊥
IsPoint long = ⊥
IsPoint wide = ⊥

module _ (fits : ℕ → Tableau → Bool) (sort : ℕ → Option Kind) where
  -- what an exchange of the row and column that steps 1 and 2 find keeps, if they fit
  module _ (P : Tableau → Type 0) (kept : (i j : ℕ) (t : Tableau) → Turn sort i j t → T (fits j t) → P t → P (exchange i j t)) where
    at_once : (n : ℕ) (t : Tableau) (v : Ending) → reach fits sort n t ≡ v → P v.tableau → P (reach fits sort n t).tableau
    at_once n t v q p = subst (λ (e : Ending). P e.tableau) (sym q) p

    pub reach-keeps : (n : ℕ) (t : Tableau) → P t → P (reach fits sort n t).tableau
    reach-keeps zero t p = at (look sort t) refl
      where
        at : (l : Look) → look sort t ≡ l → P (reach fits sort 0 t).tableau
        at none_violated q = at_once 0 t _ (reach-calm fits sort 0 t q) p
        at none_helps q = at_once 0 t _ (reach-stuck fits sort 0 t q) p
        at (pivot i j) q = at_once 0 t _ (reach-long fits sort i j t q) p
    reach-keeps (suc n) t p = at (look sort t) refl (looked sort t) (λ t'. reach-keeps n t')
      where
        at : (l : Look) → look sort t ≡ l → Found sort t l → ((t' : Tableau) → P t' → P (reach fits sort n t').tableau) → P (reach fits sort (suc n) t).tableau
        at none_violated q f ih = at_once (suc n) t _ (reach-calm fits sort (suc n) t q) p
        at none_helps q f ih = at_once (suc n) t _ (reach-stuck fits sort (suc n) t q) p
        at (pivot _ _) q (turns i j turn) ih = on (fits j t) refl
          where
            on : (b : Bool) → fits j t ≡ b → P (reach fits sort (suc n) t).tableau
            on false z = at_once (suc n) t _ (reach-wide fits sort n i j t q z) p
            on true z = at_once (suc n) t _ (reach_step fits sort n i j t q z) (ih (exchange i j t) (kept i j t turn (subst T (sym z) tt) p))

  -- after a point no row is violated
  abbrev Calm : Ending → Type 0
  Calm e = e.verdict ≡ point → look sort e.tableau ≡ none_violated

  other : (v : Verdict) → (IsPoint v → ⊥) → {X : Type 0} → v ≡ point → X
  other v n e = absurd (n (subst IsPoint (sym e) tt))

  pub reach-point : (n : ℕ) (t : Tableau) → Calm (reach fits sort n t)
  reach-point zero t = at (look sort t) refl
    where
      at : (l : Look) → look sort t ≡ l → Calm (reach fits sort 0 t)
      at none_violated q = subst Calm (sym (reach-calm fits sort 0 t q)) (λ e. q)
      at none_helps q = subst Calm (sym (reach-stuck fits sort 0 t q)) (other dropped (λ x. x))
      at (pivot i j) q = subst Calm (sym (reach-long fits sort i j t q)) (other long (λ x. x))
  reach-point (suc n) t = at (look sort t) refl (λ t'. reach-point n t')
    where
      at : (l : Look) → look sort t ≡ l → ((t' : Tableau) → Calm (reach fits sort n t')) → Calm (reach fits sort (suc n) t)
      at none_violated q ih = subst Calm (sym (reach-calm fits sort (suc n) t q)) (λ e. q)
      at none_helps q ih = subst Calm (sym (reach-stuck fits sort (suc n) t q)) (other dropped (λ x. x))
      at (pivot i j) q ih = on (fits j t) refl
        where
          on : (b : Bool) → fits j t ≡ b → Calm (reach fits sort (suc n) t)
          on false z = subst Calm (sym (reach-wide fits sort n i j t q z)) (other wide (λ x. x))
          on true z = subst Calm (sym (reach_step fits sort n i j t q z)) (ih (exchange i j t))
