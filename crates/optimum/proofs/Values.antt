-- Greatest and least (document 02, request 11): "No point with fractions of the basic set goes beyond the value returned, and some such point
-- reaches it; .. empty is said only when it has none, unbounded only when their values pass every number." The value is "a fraction in lowest
-- terms, its denominator positive, both numbers of 128 bits".
use mathlib.Core.Path.{◌≡◌, sym, ◌∙◌, subst}
use mathlib.Core.Bool.{Bool, not}
use Prim.Native.Nat.{ℕ, ◌-◌, ◌^◌, ◌≤◌, ◌<◌}
use lib.Dec.{T, leb→le}
use lib.IntN.{ℤ, pos}
use lib.ListN.{length}
use Rattle.integers.specs.Z.{Within}
use Rattle.model.specs.Lists.{all}
use Rattle.model.specs.Sets.{Constraint, BasicSet, absent, over_axes, RationalPoint, meets_basic}
use Rattle.codec.specs.Bytes.{coefficient}
use Rattle.codec.specs.Valid.{Valid, Fits}
use Rattle.feasibility.specs.Tableau.{point, Tableau, constant_of, violates, narrow, bound, reach, sorts}
use Rattle.feasibility.proofs.Verdicts.{row_var}
use Rattle.feasibility.proofs.Sound.{row_of}
use Rattle.optimum.specs.Value.{empty, unbounded, attained, with_expression, extreme_of}
use Rattle.optimum.proofs.Carried.{carried-is}
use Rattle.optimum.proofs.Halves.{stage-point, Climbs, climbs-feasible}
use Rattle.optimum.proofs.Meaning.{place, variable, free, first-stage, Best, Beyond, value-by, unbounded-by, empty-by}
use Rattle.optimum.proofs.Ranges.{ValueWithin, within_by}
use Rattle.optimum.proofs.Numbers.{conditions-within}

module _ (b : BasicSet) (e : Constraint) (z : ℤ) where
  -- basic set and expression are of n axes
  module _ (n : ℕ) (within : T (over_axes n b)) (axes : T (absent n e.axes)) (nz : z ≡ pos 0 → ⊥) where
    pub extreme-value : (p : ℤ) (q : ℕ) → extreme_of z b e ≡ attained p q → Best b e n z p q
    extreme-value p q f = value-by b e (narrow (bound 128)) 200 z n within axes nz p q (sym (carried-is z b e) ∙ f)

    pub extreme-unbounded : extreme_of z b e ≡ unbounded → (K : ℤ) → Beyond b e n z K
    extreme-unbounded f = unbounded-by b e (narrow (bound 128)) 200 z n within axes nz (sym (carried-is z b e) ∙ f)

  pub extreme-empty : extreme_of z b e ≡ empty → (o : RationalPoint) → length o.x ≤ 8 → length o.q ≤ length b.divisions → ¬ T (meets_basic o b)
  extreme-empty f = empty-by b e (narrow (bound 128)) 200 z (sym (carried-is z b e) ∙ f)

  -- "both numbers of 128 bits", and not the least of them: of a valid basic set and an expression of an inequality's numbers
  pub extreme-fits : (n : ℕ) → Valid n b → Fits 2147483648 e.constant → T (all coefficient e.axes) → T (all coefficient e.divisions)
      → (p : ℤ) (q : ℕ) → extreme_of z b e ≡ attained p q → Within (2 ^ 127 - 1) p × (q ≤ 2 ^ 127 - 1)
  extreme-fits n v width axes divisions p q f =
      subst (ValueWithin (2 ^ 127 - 1)) (sym (carried-is z b e) ∙ f)
      (within_by 128 (leb→le 2 128 tt) b e z (conditions-within n b e v width axes divisions (2 ^ 127 - 1) (leb→le 2147483648 (2 ^ 127 - 1) tt)) 200)

  -- the first half ends with a point: no row of a tableau that the second half comes to is violated
  pub second-calm : (fits fits' : ℕ → Tableau → Bool) (pivots : ℕ) → (reach fits (sorts b) pivots (with_expression b e)).verdict ≡ point
      → (n : ℕ) (u : Tableau) → Climbs fits' (sorts b) z (place b e) u n (reach fits (sorts b) pivots (with_expression b e)).tableau
      → (i : ℕ) → i < length u.rows → T (not (violates (sorts b (row_var u i)) (constant_of (row_of u i))))
  second-calm fits fits' pivots q n u c =
      (climbs-feasible (sorts b) z (place b e) (variable b e) (free b e) fits' n (reach fits (sorts b) pivots (with_expression b e)).tableau u c
      (stage-point (sorts b) (place b e) (variable b e) (free b e) (with_expression b e) fits pivots (first-stage b e) q)).allowed
