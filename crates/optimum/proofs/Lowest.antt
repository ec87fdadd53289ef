-- A row's value in lowest terms.
use mathlib.Core.Path.{◌≡◌, refl, sym, ap, ◌∙◌, subst}
use Prim.Native.Nat.{ℕ, ◌*◌, ◌/◌, ◌<◌, ◌∣◌}
use native.Mathlib.Nat.{mul-one, pos_of_dvd_of_pos, eq-one_of_dvd-one, dvd-mul_left, mul-div_cancel', mul-dvd-mul_left, dvd_of_mul-dvd-mul_left, zero-lt-suc}
use lib.Dec.{ltb→lt}
use lib.IntN.{ℤ, pos, negsuc, nat_abs, ◌*ℤ◌}
use lib.Signed.{◌<ℤ◌}
use Rattle.integers.specs.Gcd.{IsGcd}
use Rattle.integers.specs.Order.{<ℤ-≤ℤ}
use Rattle.integers.specs.Size.{nat_abs_mul, nat_abs-nonneg}
use Rattle.model.specs.Sets.{floor_div}
use Rattle.feasibility.specs.Tableau.{Row, constant_of, gcd}
use Rattle.feasibility.proofs.Reduce.{euclid-is, evenly}
use Rattle.optimum.specs.Value.{Extreme, empty, unbounded, too_wide, too_long, attained, fraction}

-- c over d is p over q, in lowest terms
pub record LowestTerms (c d p : ℤ) (q : ℕ) : Type 0 where
  pub factor : ℕ
  pub positive : 0 < factor
  pub top : pos factor *ℤ p ≡ c
  pub bottom : pos factor *ℤ pos q ≡ d
  pub over : 0 < q
  pub least : gcd (nat_abs p) q ≡ 1

size-pos : (d : ℤ) → pos 0 <ℤ d → 0 < nat_abs d
size-pos (pos n) h = ltb→lt 0 n h.lt
size-pos (negsuc n) h = zero-lt-suc n

divided : (c d : ℤ) → pos 0 <ℤ d → (g : ℕ) → IsGcd (nat_abs c) (nat_abs d) g → LowestTerms c d (floor_div c g) (nat_abs d / g)
divided c d h g is =
    record {
      factor = g;
      positive = gp;
      top = even;
      bottom = ap pos whole ∙ nat_abs-nonneg (<ℤ-≤ℤ h);
      over = pos_of_dvd_of_pos (subst (λ (n : ℕ). q ∣ n) whole (dvd-mul_left q g)) (size-pos d h);
      least = eq-one_of_dvd-one (dvd_of_mul-dvd-mul_left l gp (subst (λ (n : ℕ). g * l ∣ n) (sym (mul-one g)) (is.most (g * l) in_c in-d)));
    }
  where
    gp : 0 < g
    gp = pos_of_dvd_of_pos is.right (size-pos d h)

    p : ℤ
    p = floor_div c g

    q : ℕ
    q = nat_abs d / g

    even : pos g *ℤ p ≡ c
    even = evenly g c gp is.left

    whole : g * q ≡ nat_abs d
    whole = mul-div_cancel' g is.right

    l : ℕ
    l = gcd (nat_abs p) q

    in_c : g * l ∣ nat_abs c
    in_c = subst (λ (n : ℕ). g * l ∣ n) (sym (nat_abs_mul (pos g) p) ∙ ap nat_abs even) (mul-dvd-mul_left l g (euclid-is (nat_abs p) q).left)

    in-d : g * l ∣ nat_abs d
    in-d = subst (λ (n : ℕ). g * l ∣ n) whole (mul-dvd-mul_left l g (euclid-is (nat_abs p) q).right)

pub lowest-terms : (r : Row) (p : ℤ) (q : ℕ) → pos 0 <ℤ r.den → fraction r ≡ attained p q → LowestTerms (constant_of r) r.den p q
lowest-terms r p q h e = subst Terms e (by _ refl (euclid-is (nat_abs (constant_of r)) (nat_abs r.den)))
  where
    Terms : Extreme → Type 0
    Terms empty = ⊥
    Terms unbounded = ⊥
    Terms too_wide = ⊥
    Terms too_long = ⊥
    Terms (attained p q) = LowestTerms (constant_of r) r.den p q

    by : (g : ℕ) → attained (floor_div (constant_of r) g) (nat_abs r.den / g) ≡ fraction r → IsGcd (nat_abs (constant_of r)) (nat_abs r.den) g → Terms (fraction r)
    by g e is = subst Terms e (divided (constant_of r) r.den h g is)
