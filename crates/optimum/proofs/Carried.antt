-- Carrying the value search over from one bound to a higher one is the search under the higher, in both halves; so at 64 and then 128 bits.
-- Assumes nothing.
use mathlib.Core.Path.{◌≡◌, refl, sym, ap, ◌∙◌, subst}
use mathlib.Core.Bool.{Bool, true, false}
use mathlib.Core.Option.{Option}
use Prim.Native.Nat.{ℕ, zero, suc}
use lib.Dec.{T, leb→le}
use lib.IntN.{ℤ}
use lib.ListN.{length}
use Rattle.model.specs.Sets.{Kind, Constraint, BasicSet, conditions}
use Rattle.feasibility.specs.Tableau.{Verdict, point, dropped, long, wide, Tableau, exchange, narrow, bound, Ending, ended, reach, carried, sorts}
use Rattle.model.proofs.Count.{from-T}
use Rattle.feasibility.proofs.Sizes.{Implies, carried-run, narrow-more}
use Rattle.feasibility.proofs.Sound.{row_of}
use Rattle.optimum.specs.Value.{Extreme, unbounded, Aim, best, endless, turn, aim, fraction, climb, climbed, climb_on, climbed_on, with_expression, extreme_by, extreme_within, extreme_of}
use Rattle.optimum.proofs.Climb.{climb-best, climb-endless, climb-step}

module _ (fits fits' : ℕ → Tableau → Bool) (more : Implies fits fits') (sort : ℕ → Option Kind) (z : ℤ) (k : ℕ) where
  -- ---- the second half

  on-best : (n : ℕ) (t : Tableau) → aim sort z k t ≡ best → climb_on fits fits' sort z k (suc n) t ≡ fraction (row_of t k)
  unfolding climb_on
  on-best n t q = rw (q, climb_on) refl

  on-endless : (n : ℕ) (t : Tableau) → aim sort z k t ≡ endless → climb_on fits fits' sort z k (suc n) t ≡ unbounded
  unfolding climb_on
  on-endless n t q = rw (q, climb_on) refl

  abbrev on-fit : ℕ → ℕ → ℕ → Tableau → Bool → Extreme
  on-fit n i j t b = elim b [ false ↦ climb fits' sort z k (suc n) t | true ↦ climb_on fits fits' sort z k n (exchange i j t) ]

  on-turn : (n i j : ℕ) (t : Tableau) (b : Bool) → aim sort z k t ≡ turn i j → fits j t ≡ b → climb_on fits fits' sort z k (suc n) t ≡ on-fit n i j t b
  unfolding climb_on
  on-turn n i j t b q f = rw (q, climb_on) (ap (on-fit n i j t) f)

  climb-carried : (n : ℕ) (t : Tableau) → climb_on fits fits' sort z k n t ≡ climb fits' sort z k n t
  unfolding climb_on
  climb-carried zero t = refl
  climb-carried (suc n) t = at (aim sort z k t) refl (λ t'. climb-carried n t')
    where
      at : (l : Aim) → aim sort z k t ≡ l → ((t' : Tableau) → climb_on fits fits' sort z k n t' ≡ climb fits' sort z k n t') → climb_on fits fits' sort z k (suc n) t ≡ climb fits' sort z k (suc n) t
      at best q ih = on-best n t q ∙ sym (climb-best fits' sort z k (suc n) t q)
      at endless q ih = on-endless n t q ∙ sym (climb-endless fits' sort z k (suc n) t q)
      at (turn i j) q ih = on (fits j t) refl
        where
          on : (b : Bool) → fits j t ≡ b → climb_on fits fits' sort z k (suc n) t ≡ climb fits' sort z k (suc n) t
          on false f = on-turn n i j t false q f
          on true f = on-turn n i j t true q f ∙ ih (exchange i j t) ∙ sym (climb-step fits' sort z k n i j t q (from-T (fits' j t) (more j t (subst T (sym f) tt))))

  -- ---- both

  climbed-on : (v : Verdict) (n : ℕ) (t : Tableau) → climbed_on fits fits' sort z k (ended v n t) ≡ climbed fits' sort z k (carried fits' sort (ended v n t))
  climbed-on point n t = climb-carried n t
  climbed-on dropped n t = refl
  climbed-on long n t = refl
  climbed-on wide n t = refl

  climbed-carried : (n : ℕ) (t : Tableau) → climbed_on fits fits' sort z k (reach fits sort n t) ≡ climbed fits' sort z k (reach fits' sort n t)
  climbed-carried n t =
      let e : Ending = reach fits sort n t in
      climbed-on e.verdict e.left e.tableau ∙ ap (climbed fits' sort z k) (carried-run fits fits' more sort n t)

-- 64 bits and then 128 is 128
pub carried-is : (z : ℤ) (b : BasicSet) (e : Constraint) → extreme_of z b e ≡ extreme_within 128 z b e
unfolding extreme_of extreme_by
carried-is z b e = climbed-carried (narrow (bound 64)) (narrow (bound 128)) (narrow-more (bound 64) (bound 128) (leb→le (bound 64) (bound 128) tt)) (sorts b) z (length (conditions b)) 200 (with_expression b e)
