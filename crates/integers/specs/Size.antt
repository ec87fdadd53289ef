-- The size of an integer, `nat_abs`, and bounds by it: `Within n z`. Bounds go through sums, products and the width's range. Assumes nothing.
use Rattle.std.specs.Prelude.{◌≡◌, refl, [], ◌∷◌, ℕ, zero, suc, ◌+◌, ◌-◌, ◌*◌, ◌/◌, ◌^◌, ◌≤◌, ◌<◌, ℤ, pos, negsuc, neg_ℤ, nat_abs, ◌+ℤ◌, ◌-ℤ◌, ◌*ℤ◌, ◌≤ℤ◌, ◌<ℤ◌}
use Rattle.std.proofs.Common.{ap, subst, arith, mul-le-mul, le_trans, le_of_eq}
use Rattle.std.specs.Int.Signed.{mag}
use Rattle.std.specs.Int.{Width}
use mir.Val.{SFits, hbits}
use Rattle.integers.specs.Z.{Within}
use Rattle.integers.specs.Lin.{le, lt, fits, abs, lin, lia-no, lia-abs, lia-fits, lia-nat}

-- ---- nat_abs
pub nat_abs-neg : (z : ℤ) → nat_abs (neg_ℤ z) ≡ nat_abs z
nat_abs-neg (pos zero) = refl
nat_abs-neg (pos (suc n)) = refl
nat_abs-neg (negsuc n) = refl

pub nat_abs_mul : (a b : ℤ) → nat_abs (a *ℤ b) ≡ nat_abs a * nat_abs b
nat_abs_mul (pos a) (pos b) = refl
nat_abs_mul (pos a) (negsuc b) = nat_abs-neg (pos (a * suc b))
nat_abs_mul (negsuc a) (pos b) = nat_abs-neg (pos (suc a * b))
nat_abs_mul (negsuc a) (negsuc b) = refl

pub nat_abs-zero : (z : ℤ) → nat_abs z ≡ 0 → z ≡ pos 0
nat_abs-zero (pos n) e = ap pos e
nat_abs-zero (negsuc n) e = absurd (omega arith)

pub nat_abs-nonneg : {z : ℤ} → pos 0 ≤ℤ z → pos (nat_abs z) ≡ z
nat_abs-nonneg {z = pos n} h = refl
nat_abs-nonneg {z = negsuc n} h = absurd h.le

pub nat_abs-nonpos : {z : ℤ} → z ≤ℤ pos 0 → pos (nat_abs z) ≡ neg_ℤ z
nat_abs-nonpos {z = pos zero} h = refl
nat_abs-nonpos {z = pos (suc n)} h = absurd (lia-no (pos n ∷ []) (le {a = pos n +ℤ pos 1} {b = pos 0} (subst (λ (x : ℕ). pos x ≤ℤ pos 0) (omega arith) h) ∷ []) (search lin depth 30) (omega arith))
nat_abs-nonpos {z = negsuc n} h = refl

-- a number by its sign and its `mag`, which counts −1 as 0
pub mag-nonneg : {z : ℤ} → pos 0 ≤ℤ z → z ≡ pos (mag z)
mag-nonneg {z = pos n} h = refl
mag-nonneg {z = negsuc n} h = absurd h.le

pub mag-negative : {z : ℤ} → z <ℤ pos 0 → z ≡ negsuc (mag z)
mag-negative {z = pos n} h = absurd (lia-no (pos n ∷ []) (lt h ∷ []) (search lin depth 30) (omega arith))
mag-negative {z = negsuc n} h = refl

-- ---- bounds by size
pub within-self : (z : ℤ) → Within (nat_abs z) z
within-self z = record { size = omega arith }

pub within-mono : {m n : ℕ} {z : ℤ} → m ≤ n → Within m z → Within n z
within-mono h k = record { size = le_trans k.size h }

pub within-neg : {n : ℕ} {z : ℤ} → Within n z → Within n (neg_ℤ z)
within-neg {n} {z} h = record { size = le_trans (le_of_eq (nat_abs-neg z)) h.size }

pub within-add : {m n : ℕ} {a b : ℤ} → Within m a → Within n b → Within (m + n) (a +ℤ b)
within-add {m} {n} {a} {b} h k = lia-abs (a ∷ b ∷ []) (abs h ∷ abs k ∷ []) (search lin depth 30) (omega arith)

pub nat_abs-add : (a b : ℤ) → nat_abs (a +ℤ b) ≤ nat_abs a + nat_abs b
nat_abs-add a b = (within-add (within-self a) (within-self b)).size

pub within-sub : {m n : ℕ} {a b : ℤ} → Within m a → Within n b → Within (m + n) (a -ℤ b)
within-sub {m} {n} {a} {b} h k = lia-abs (a ∷ b ∷ []) (abs h ∷ abs k ∷ []) (search lin depth 30) (omega arith)

pub within-mul : {m n : ℕ} {a b : ℤ} → Within m a → Within n b → Within (m * n) (a *ℤ b)
within-mul {m} {n} {a} {b} h k = record { size = le_trans (le_of_eq (nat_abs_mul a b)) (mul-le-mul h.size k.size) }

pub within_of : {n : ℕ} {z : ℤ} → neg_ℤ (pos n) ≤ℤ z → z ≤ℤ pos n → Within n z
within_of {n} {z} h k = lia-abs (z ∷ pos n ∷ []) (le h ∷ le k ∷ []) (search lin depth 30) (omega arith)

-- ---- and a width's range
pub within-fits : {w : Width} {n : ℕ} {z : ℤ} → n < 2 ^ hbits w → Within n z → SFits w z
within-fits {w} {n} {z} h k = lia-fits (z ∷ []) (abs k ∷ []) (search lin depth 30) (omega arith)

pub fits-within : {w : Width} {z : ℤ} → SFits w z → Within (2 ^ hbits w) z
fits-within {w} {z} h = lia-abs (z ∷ []) (fits h ∷ []) (search lin depth 30) (omega arith)

-- a measure: from 0 on, the size grows with the number
pub nat_abs-lt : {a b : ℤ} → pos 0 ≤ℤ a → a <ℤ b → nat_abs a < nat_abs b
nat_abs-lt {a = pos m} {b = pos n} h k = lia-nat (pos m ∷ pos n ∷ []) (lt k ∷ []) (search lin depth 30) (omega arith)
nat_abs-lt {a = pos m} {b = negsuc n} h k = absurd k.lt
nat_abs-lt {a = negsuc m} {b} h k = absurd h.le

-- ---- the word size as a parameter (document 000, section 2.1, equation (1): MAXDI, and the claim on `linint` and `qpiv` after it)
-- step 4's bound, document 000's for a·b − c·d at W bits: 2,147,483,647 at 64, 9,223,372,036,854,775,807 at 128. Numbers within it have products,
-- and sums and differences of two products, that W bits hold
abbrev pub bound : ℕ → ℕ
bound W = 2 ^ (W / 2 - 1) - 1

-- what `a * b - c * d` and `a * b + c * d` compute, each with the property P
pub record Products (P : ℤ → Type 0) (a b c d : ℤ) : Type 0 where
  pub left : P (a *ℤ b)
  pub right : P (c *ℤ d)
  pub difference : P (a *ℤ b -ℤ c *ℤ d)
  pub sum : P (a *ℤ b +ℤ c *ℤ d)
