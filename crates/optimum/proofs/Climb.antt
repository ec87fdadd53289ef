-- One step of the second half: how it ends, and how it goes on. Assumes nothing.
use mathlib.Core.Path.{◌≡◌, refl, ap}
use mathlib.Core.Bool.{Bool, true, false}
use mathlib.Core.Option.{Option}
use Prim.Native.Nat.{ℕ, zero, suc}
use lib.IntN.{ℤ}
use Rattle.model.specs.Sets.{Kind}
use Rattle.feasibility.specs.Tableau.{Tableau, exchange}
use Rattle.feasibility.proofs.Sound.{row_of}
use Rattle.optimum.specs.Value.{Extreme, unbounded, too_wide, too_long, best, endless, turn, aim, fraction, climb}

module _ (fits : ℕ → Tableau → Bool) (sort : ℕ → Option Kind) (z : ℤ) (k : ℕ) where
  pub climb-best : (n : ℕ) (t : Tableau) → aim sort z k t ≡ best → climb fits sort z k n t ≡ fraction (row_of t k)
  unfolding climb
  climb-best zero t q = rw (q, climb) refl
  climb-best (suc n) t q = rw (q, climb) refl

  -- "unbounded comes first": whatever pivots are left, and whatever fits
  pub climb-endless : (n : ℕ) (t : Tableau) → aim sort z k t ≡ endless → climb fits sort z k n t ≡ unbounded
  unfolding climb
  climb-endless zero t q = rw (q, climb) refl
  climb-endless (suc n) t q = rw (q, climb) refl

  pub climb-long : (i j : ℕ) (t : Tableau) → aim sort z k t ≡ turn i j → climb fits sort z k 0 t ≡ too_long
  unfolding climb
  climb-long i j t q = rw (q, climb) refl

  abbrev on-fit : ℕ → ℕ → ℕ → Tableau → Bool → Extreme
  on-fit n i j t b = elim b [ false ↦ too_wide | true ↦ climb fits sort z k n (exchange i j t) ]

  pub climb-wide : (n i j : ℕ) (t : Tableau) → aim sort z k t ≡ turn i j → fits j t ≡ false → climb fits sort z k (suc n) t ≡ too_wide
  unfolding climb
  climb-wide n i j t q f = rw (q, climb) (ap (on-fit n i j t) f)

  pub climb-step : (n i j : ℕ) (t : Tableau) → aim sort z k t ≡ turn i j → fits j t ≡ true → climb fits sort z k (suc n) t ≡ climb fits sort z k n (exchange i j t)
  unfolding climb
  climb-step n i j t q f = rw (q, climb) (ap (on-fit n i j t) f)
