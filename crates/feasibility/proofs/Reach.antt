-- One step of a test: how it ends, and how it goes on. Assumes nothing.
use mathlib.Core.Path.{◌≡◌, refl, ap}
use mathlib.Core.Bool.{Bool, true, false}
use mathlib.Core.Option.{Option}
use Prim.Native.Nat.{ℕ, zero, suc}
use Rattle.model.specs.Sets.{Kind}
use Rattle.feasibility.specs.Tableau.{point, dropped, long, wide, Tableau, exchange, none_violated, none_helps, pivot, look, Ending, ended, reach}

module _ (fits : ℕ → Tableau → Bool) (sort : ℕ → Option Kind) where
  pub reach-calm : (n : ℕ) (t : Tableau) → look sort t ≡ none_violated → reach fits sort n t ≡ ended point n t
  unfolding reach
  reach-calm zero t q = rw (q, reach) refl
  reach-calm (suc n) t q = rw (q, reach) refl

  pub reach-stuck : (n : ℕ) (t : Tableau) → look sort t ≡ none_helps → reach fits sort n t ≡ ended dropped n t
  unfolding reach
  reach-stuck zero t q = rw (q, reach) refl
  reach-stuck (suc n) t q = rw (q, reach) refl

  pub reach-long : (i j : ℕ) (t : Tableau) → look sort t ≡ pivot i j → reach fits sort 0 t ≡ ended long 0 t
  unfolding reach
  reach-long i j t q = rw (q, reach) refl

  pub reach-wide : (n i j : ℕ) (t : Tableau) → look sort t ≡ pivot i j → fits j t ≡ false → reach fits sort (suc n) t ≡ ended wide (suc n) t
  unfolding reach
  reach-wide n i j t q z =
      rw (q, reach)
      (ap (λ (b : Bool). elim b as (λ (b : Bool). Ending) [ false ↦ ended wide (suc n) t | true ↦ reach fits sort n (exchange i j t) ]) z)

  pub reach_step : (n i j : ℕ) (t : Tableau) → look sort t ≡ pivot i j → fits j t ≡ true → reach fits sort (suc n) t ≡ reach fits sort n (exchange i j t)
  unfolding reach
  reach_step n i j t q z =
      rw (q, reach)
      (ap (λ (b : Bool). elim b as (λ (b : Bool). Ending) [ false ↦ ended wide (suc n) t | true ↦ reach fits sort n (exchange i j t) ]) z)
