-- Laws of a sign and a size, `signed neg n`: they name no word. Assumes nothing.
use mathlib.Core.Path.{◌≡◌, refl, sym, ap, ◌∙◌}
use mathlib.Core.Bool.{Bool, true, false, not, beq}
use mathlib.Core.List.{[], ◌∷◌}
use Prim.Native.Nat.{ℕ, zero, suc, ◌+◌, ◌-◌, ◌*◌, ◌/◌, ◌≤◌, ◌<◌, zero-le}
use native.Mathlib.Omega.{arith}
use native.Mathlib.Nat.{zero-div}
use lib.IntN.{ℤ, pos, negsuc, neg_ℤ, nat_abs, ◌+ℤ◌, ◌*ℤ◌}
use lib.Signed.{quot_z, lt_z}
use borrow.Author.Tests.{le-ltb}
use Rattle.integers.specs.Mach.{clash}
use Rattle.integers.specs.Ring.{ring, quote}
use Rattle.wide.specs.Wide.{signed, xor}

pub nat_abs-signed : (s : Bool) (n : ℕ) → nat_abs (signed s n) ≡ n
nat_abs-signed false n = refl
nat_abs-signed true zero = refl
nat_abs-signed true (suc n) = refl

pub signed_mul : (s t : Bool) (m n : ℕ) → signed (xor s t) (m * n) ≡ signed s m *ℤ signed t n
signed_mul false false m n = refl
signed_mul false true m n = ring (pos m ∷ pos n ∷ []) {a = neg_ℤ (pos m *ℤ pos n)} {b = pos m *ℤ neg_ℤ (pos n)} (search quote depth 30) tt
signed_mul true false m n = ring (pos m ∷ pos n ∷ []) {a = neg_ℤ (pos m *ℤ pos n)} {b = neg_ℤ (pos m) *ℤ pos n} (search quote depth 30) tt
signed_mul true true m n = ring (pos m ∷ pos n ∷ []) {a = pos m *ℤ pos n} {b = neg_ℤ (pos m) *ℤ neg_ℤ (pos n)} (search quote depth 30) tt

-- signs that differ
pub xor-differs : (s t : Bool) → not (beq s t) ≡ xor s t
xor-differs false false = refl
xor-differs false true = refl
xor-differs true false = refl
xor-differs true true = refl

-- the same sign
pub signed_add : (s : Bool) (m n : ℕ) → signed s (m + n) ≡ signed s m +ℤ signed s n
signed_add false m n = refl
signed_add true m n = ring (pos m ∷ pos n ∷ []) {a = neg_ℤ (pos m +ℤ pos n)} {b = neg_ℤ (pos m) +ℤ neg_ℤ (pos n)} (search quote depth 30) tt

-- the other sign, and no larger
take-k : (s : Bool) (k n : ℕ) → signed s k ≡ signed s (k + n) +ℤ signed (not s) n
take-k false k n = ring (pos k ∷ pos n ∷ []) {a = pos k} {b = pos k +ℤ pos n +ℤ neg_ℤ (pos n)} (search quote depth 30) tt
take-k true k n = ring (pos k ∷ pos n ∷ []) {a = neg_ℤ (pos k)} {b = neg_ℤ (pos k +ℤ pos n) +ℤ pos n} (search quote depth 30) tt

pub signed-take : (s : Bool) (m n : ℕ) → n ≤ m → signed s (m - n) ≡ signed s m +ℤ signed (not s) n
signed-take s m n h = take-k s (m - n) n ∙ ap (λ (x : ℕ). signed s x +ℤ signed (not s) n) (omega arith)

pub add_comm : (x y : ℤ) → x +ℤ y ≡ y +ℤ x
add_comm x y = ring (x ∷ y ∷ []) (search quote depth 30) tt

pub signed_quot : (s : Bool) (n d : ℕ) → signed s (n / d) ≡ quot_z (signed s n) (pos d)
signed_quot false n d = refl
signed_quot true zero d = ap (λ (x : ℕ). neg_ℤ (pos x)) (zero-div d) ∙ sym (ap pos (zero-div d))
signed_quot true (suc n) d = refl

pub signed-zero : (s : Bool) (n : ℕ) → n ≡ 0 → signed s n ≡ pos 0
signed-zero false n e = ap pos e
signed-zero true n e = ap (λ (x : ℕ). neg_ℤ (pos x)) e

-- below zero
pub signed_lt : (s : Bool) (n : ℕ) → 0 < n → lt_z (signed s n) (pos 0) ≡ s
signed_lt s zero h = absurd (omega arith)
signed_lt false (suc n) h = le-ltb (suc n) 0 (omega arith)
signed_lt true (suc n) h = refl

-- ---- a sum by the signs
pub alike : (s t : Bool) (m n k : ℕ) → xor s t ≡ false → k ≡ m + n → signed s k ≡ signed s m +ℤ signed t n
alike false false m n k e f = ap (signed false) f ∙ signed_add false m n
alike false true m n k e f = clash refl e
alike true false m n k e f = clash refl e
alike true true m n k e f = ap (signed true) f ∙ signed_add true m n

-- a number by its sign and its size
pub signed_is : (z : ℤ) → signed (lt_z z (pos 0)) (nat_abs z) ≡ z
signed_is (pos n) = ap (λ (b : Bool). signed b n) (le-ltb n 0 zero-le)
signed_is (negsuc n) = refl
