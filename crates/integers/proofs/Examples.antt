-- The solvers and the lemmas on machine integers at work: each is a template to copy. Assumes nothing.
use Rattle.std.specs.Prelude.{true, false, List, [], ◌∷◌, ◌≡◌, refl, ℕ, ◌^◌, ◌<◌, ◌≤◌, T, ℤ, pos, nat_abs, ◌+ℤ◌, ◌-ℤ◌, ◌*ℤ◌, length, ◌≤ℤ◌, ◌<ℤ◌}
use Rattle.std.proofs.Common.{arith, SFits, Fits, to_z, of_z}
use Rattle.std.specs.Int.Signed.{lt_z, le_z, mag, non_neg, quot_z}
use Rattle.std.specs.Int.{w16, w32, w64}
use Rattle.integers.specs.Z.{Within}
use Rattle.integers.specs.Ring.{ring, quote}
use Rattle.integers.specs.Lin.{le, lt, eq, fits, abs, lin, lia-le, lia-lt, lia-no, lia-nat, lia-fits}
use Rattle.integers.specs.Order.{mul-nonneg, <ℤ-≤ℤ}
use Rattle.integers.specs.Size.{nat_abs-lt, within-fits, within-mul, within-mono}
use Rattle.integers.proofs.BoundedProducts.{products-fit}
use Rattle.integers.specs.Div.{floor_div, floor-within, quot_fits}
use Rattle.integers.specs.Sum.{AllWithin, dot, numerator-within, value-within}
use Rattle.integers.specs.Bound.{bounds, fits_by}
use Rattle.integers.specs.Mach.{mach, Bits, ask, b-of, b-lit, b-nat, b-op, to_z_of_z, to_z-nat, to_z-zero, cast-nat, divisor-pos, result_is, of_z-same, clash, is_lt, is_ge, is_le, is_gt}

-- ---- `ring`: an identity. The list names the atoms
pivot-identity : (p q r s t v w : ℤ) → (r *ℤ p -ℤ q *ℤ s) *ℤ v +ℤ q *ℤ (s *ℤ v +ℤ t *ℤ w) ≡ r *ℤ p *ℤ v +ℤ q *ℤ t *ℤ w
pivot-identity p q r s t v w = ring (p ∷ q ∷ r ∷ s ∷ t ∷ v ∷ w ∷ []) (search quote depth 30) tt

literals : (a b : ℤ) → (a +ℤ pos 3) *ℤ (b -ℤ pos 5) ≡ a *ℤ b +ℤ pos 3 *ℤ b -ℤ pos 5 *ℤ a -ℤ pos 15
literals a b = ring (a ∷ b ∷ []) (search quote depth 30) tt

-- nine atoms, degree four
sylvester : (a b c d e f g h i : ℤ) → (a *ℤ e -ℤ b *ℤ d) *ℤ (a *ℤ i -ℤ c *ℤ g) -ℤ (a *ℤ f -ℤ c *ℤ d) *ℤ (a *ℤ h -ℤ b *ℤ g) ≡ a *ℤ (a *ℤ e *ℤ i -ℤ a *ℤ f *ℤ h -ℤ b *ℤ d *ℤ i +ℤ b *ℤ f *ℤ g +ℤ c *ℤ d *ℤ h -ℤ c *ℤ e *ℤ g)
sylvester a b c d e f g h i = ring (a ∷ b ∷ c ∷ d ∷ e ∷ f ∷ g ∷ h ∷ i ∷ []) (search quote depth 30) tt

-- ---- `lia`: a linear fact, over any products. The second list names the facts
absurd-row : (c a₁ a₂ a₃ v₁ v₂ v₃ d v : ℤ) → c <ℤ pos 0 → (a₁ *ℤ v₁) ≤ℤ pos 0 → (a₂ *ℤ v₂) ≤ℤ pos 0 → (a₃ *ℤ v₃) ≤ℤ pos 0
    → c +ℤ a₁ *ℤ v₁ +ℤ a₂ *ℤ v₂ +ℤ a₃ *ℤ v₃ ≡ d *ℤ v → pos 0 ≤ℤ (d *ℤ v) → ⊥
absurd-row c a₁ a₂ a₃ v₁ v₂ v₃ d v h k₁ k₂ k₃ e n = lia-no (c ∷ a₁ ∷ a₂ ∷ a₃ ∷ v₁ ∷ v₂ ∷ v₃ ∷ d ∷ v ∷ []) (lt h ∷ le k₁ ∷ le k₂ ∷ le k₃ ∷ eq e ∷ le n ∷ []) (search lin depth 30) (omega arith)

-- a product's sign is a fact like any other
multiplied : (c a v d x : ℤ) → c <ℤ pos 0 → (a *ℤ v) ≤ℤ pos 0 → c +ℤ a *ℤ v ≡ d *ℤ x → pos 0 <ℤ d → pos 0 ≤ℤ x → ⊥
multiplied c a v d x h k e hd hx = lia-no (c ∷ a ∷ v ∷ d ∷ x ∷ []) (lt h ∷ le k ∷ eq e ∷ le (mul-nonneg (<ℤ-≤ℤ hd) hx) ∷ []) (search lin depth 30) (omega arith)

-- a natural number is an atom `pos m`; a fact of ℕ comes from facts of ℤ
to-nat : (m n : ℕ) → pos m <ℤ (pos n -ℤ pos 3) → m < n
to-nat m n h = lia-nat (pos m ∷ pos n ∷ []) (lt h ∷ []) (search lin depth 30) (omega arith)

-- ranges
sum-range : (a b : ℤ) → SFits w32 a → SFits w32 b → SFits w64 (a +ℤ b -ℤ pos 1)
sum-range a b h k = lia-fits (a ∷ b ∷ []) (fits h ∷ fits k ∷ []) (search lin depth 30) (omega arith)

product-range : (a x s : ℤ) → Within 32767 a → Within 1048576 x → Within 549739036672 s → SFits w64 (s -ℤ a *ℤ x)
product-range a x s ha hx hs = lia-fits (a ∷ x ∷ s ∷ []) (abs hs ∷ abs (within-mul ha hx) ∷ []) (search lin depth 30) (omega arith)

-- ---- `bounds`: a range with no list of atoms or facts, found from the `Within` facts in reach
found-range : (a x s : ℤ) → Within 32767 a → Within 1048576 x → Within 549739036672 s → SFits w64 (s +ℤ a *ℤ x)
found-range a x s ha hx hs = fits_by (search bounds depth 20) (omega arith)

-- ---- the word size: the bound's instance at 64 bits, and what membership and the search need there
determinant-64 : {a b c d : ℤ} → Within 2147483647 a → Within 2147483647 b → Within 2147483647 c → Within 2147483647 d → SFits w64 (a *ℤ b -ℤ c *ℤ d)
determinant-64 ha hb hc hd = (products-fit w64 ha hb hc hd).difference

-- document 01's numbers: coordinates of 21 bits, coefficients of 16, constants of 32; 8 axes and 8 divisions
module _ {c : ℤ} {a x : List ℤ} (hc : Within 2147483648 c) (ha : AllWithin 32768 a) (hx : AllWithin 1048576 x) (l : length x ≤ length a) (n : length x ≤ 8) where
  quotient-64 : (d : ℕ) → Within 549755813888 (floor_div (c +ℤ dot a x) d)
  quotient-64 d = floor-within d (within-mono (omega arith) (numerator-within hc ha hx l))

  value-64 : {e q : List ℤ} → AllWithin 32768 e → AllWithin 549755813888 q → length q ≤ length e → length q ≤ 8 → SFits w64 (c +ℤ (dot a x +ℤ dot e q))
  value-64 he hq m k = within-fits (omega arith) (value-within hc ha hx l he hq m)

-- ---- machine integers
module _ (a b : ℤ) (fa : SFits w64 a) (fb : SFits w64 b) where
  -- what `a + b` asks, where the sum is known to fit, and what it stands for
  asked : SFits w64 (a +ℤ b) → SFits w64 (to_z w64 (of_z w64 a) +ℤ to_z w64 (of_z w64 b))
  asked h = rw (to_z_of_z fa, to_z_of_z fb) h

  stands : SFits w64 (a +ℤ b) → to_z w64 (of_z w64 (to_z w64 (of_z w64 a) +ℤ to_z w64 (of_z w64 b))) ≡ a +ℤ b
  stands h = (b-op (b-of fa) (b-of fb) ◌+ℤ◌ h).is

  -- two operations: the first one's range is in reach, and `search mach` reads through it
  chain : Within 1000 a → SFits w64 (to_z w64 (of_z w64 (to_z w64 (of_z w64 a) +ℤ pos 1)) *ℤ pos 3)
  chain h =
      let f : SFits w64 (to_z w64 (of_z w64 a) +ℤ pos 1) = lia-fits (a ∷ []) (abs h ∷ []) (search mach depth 30) (omega arith) in
      lia-fits (a ∷ []) (abs h ∷ []) (search mach depth 30) (omega arith)

  -- what `a / b` asks
  divided : pos 0 <ℤ b → (0 < of_z w64 b) × SFits w64 (quot_z (to_z w64 (of_z w64 a)) (to_z w64 (of_z w64 b)))
  divided h = (divisor-pos w64 h, ask (b-of fa) (b-of fb) quot_z (quot_fits fa h))

  -- `a < b` taken, `a < 0` left, `a <= b` taken and left
  taken : lt_z (to_z w64 (of_z w64 a)) (to_z w64 (of_z w64 b)) ≡ true → a <ℤ b
  taken t = is_lt (b-of fa) (b-of fb) t

  left : lt_z (to_z w64 (of_z w64 a)) (pos 0) ≡ false → pos 0 ≤ℤ a
  left t = is_ge (b-of fa) (b-lit w64 0 refl) t

  at_most : le_z (to_z w64 (of_z w64 a)) (to_z w64 (of_z w64 b)) ≡ true → a ≤ℤ b
  at_most t = is_le (b-of fa) (b-of fb) t

  above : le_z (to_z w64 (of_z w64 a)) (to_z w64 (of_z w64 b)) ≡ false → b <ℤ a
  above t = is_gt (b-of fa) (b-of fb) t

  -- `a == b`
  equal : of_z w64 a ≡ of_z w64 b → a ≡ b
  equal e = of_z-same fa fb e

  -- a signed counter that falls to 0: its size is the measure
  falls : pos 0 <ℤ a → nat_abs (a -ℤ pos 1) < nat_abs a
  falls h = nat_abs-lt {a = a -ℤ pos 1} {b = a} (lia-le (a ∷ []) (lt h ∷ []) (search lin depth 30) (omega arith)) (lia-lt (a ∷ []) [] (search lin depth 30) (omega arith))

-- casts: u8 to i64, i64 to u64, i16 to i64
from_byte : (n : ℕ) → n < 256 → to_z w64 n ≡ pos n
from_byte n h = to_z-nat w64 n 256 h tt

to-unsigned : (z : ℤ) (n : ℕ) → z ≡ pos n → n < 1000 → T (non_neg z) × Fits w64 (nat_abs z)
to-unsigned z n e h = cast-nat w64 z n e (omega arith)

wider : (z : ℤ) → SFits w16 z → SFits w64 (to_z w16 (of_z w16 z))
wider z f = let m = f.sfits in rw (to_z_of_z f) (record { sfits = omega arith })

-- a cast byte in a sum
with_byte : (n : ℕ) → n < 256 → Bits w64 n (pos n)
with_byte n h = b-nat w64 n 256 h tt

-- a call's result, by its range; a loop's local that is 0; two answers of one test
called : (z : ℤ) → mag z < 2 ^ 63 → to_z w64 (of_z w64 z) ≡ z
called z h = result_is w64 z h

zero_bits : (n : ℕ) → Fits w64 n → to_z w64 n ≡ pos 0 → n ≡ 0
zero_bits n f e = to_z-zero w64 n f e

both_ways : (a b : ℤ) → lt_z a b ≡ true → lt_z a b ≡ false → ⊥
both_ways a b p q = clash p q
