-- The order of ℤ: its laws, most by `lia`. Assumes nothing.
use Rattle.std.specs.Prelude.{◌≡◌, refl, ◌⊎◌, Bool, true, false, not, [], ◌∷◌, ℕ, zero, suc, ◌*◌, T, ℤ, pos, negsuc, nat_abs, ◌+ℤ◌, ◌-ℤ◌, ◌*ℤ◌, ◌≤ℤ◌, ◌<ℤ◌}
use Rattle.std.proofs.Common.{sym, ap, ◌∙◌, inl, inr, ⊎_elim, arith, mul-pos, le→leb, lt→ltb, ltb→lt}
use Rattle.std.specs.Int.Signed.{lt_z, lt_z_yes, lt_z_no}
use Rattle.integers.specs.Size.{nat_abs_mul, nat_abs-zero}
use Rattle.integers.specs.Lin.{le, lt, eq, lin, lia-le, lia-lt, lia-eq, lia-no}

-- ---- a linear order
pub ≤ℤ-trans : {a b c : ℤ} → a ≤ℤ b → b ≤ℤ c → a ≤ℤ c
≤ℤ-trans {a} {b} {c} h k = lia-le (a ∷ b ∷ c ∷ []) (le h ∷ le k ∷ []) (search lin depth 30) (omega arith)

pub ≤ℤ-antisymm : {a b : ℤ} → a ≤ℤ b → b ≤ℤ a → a ≡ b
≤ℤ-antisymm {a} {b} h k = lia-eq (a ∷ b ∷ []) (le h ∷ le k ∷ []) (search lin depth 30) (omega arith)

pub <ℤ-≤ℤ : {a b : ℤ} → a <ℤ b → a ≤ℤ b
<ℤ-≤ℤ {a} {b} h = lia-le (a ∷ b ∷ []) (lt h ∷ []) (search lin depth 30) (omega arith)

decide : (t : Bool) → (T t) ⊎ (T (not t))
decide true = inl tt
decide false = inr tt

-- which of the two holds
pub lt-or-ge : (a b : ℤ) → (a <ℤ b) ⊎ (b ≤ℤ a)
lt-or-ge a b = ⊎_elim (λ t. inl (lt_z_yes t)) (λ t. inr (lt_z_no t)) (decide (lt_z a b))

pub le-or-gt : (a b : ℤ) → (a ≤ℤ b) ⊎ (b <ℤ a)
le-or-gt a b = ⊎_elim inr inl (lt-or-ge b a)

pub ≤ℤ-total : (a b : ℤ) → (a ≤ℤ b) ⊎ (b ≤ℤ a)
≤ℤ-total a b = ⊎_elim (λ h. inl (<ℤ-≤ℤ h)) inr (lt-or-ge a b)

pub trichotomy : (a b : ℤ) → (a <ℤ b) ⊎ ((a ≡ b) ⊎ (b <ℤ a))
trichotomy a b = ⊎_elim inl (λ h. ⊎_elim (λ k. inr (inr k)) (λ k. inr (inl (≤ℤ-antisymm k h))) (lt-or-ge b a)) (lt-or-ge a b)

-- ---- sums
pub add-le : {a b c d : ℤ} → a ≤ℤ b → c ≤ℤ d → (a +ℤ c) ≤ℤ (b +ℤ d)
add-le {a} {b} {c} {d} h k = lia-le (a ∷ b ∷ c ∷ d ∷ []) (le h ∷ le k ∷ []) (search lin depth 30) (omega arith)

pub sub-nonneg : {a b : ℤ} → a ≤ℤ b → pos 0 ≤ℤ (b -ℤ a)
sub-nonneg {a} {b} h = lia-le (a ∷ b ∷ []) (le h ∷ []) (search lin depth 30) (omega arith)

pub sub-pos : {a b : ℤ} → a <ℤ b → pos 0 <ℤ (b -ℤ a)
sub-pos {a} {b} h = lia-lt (a ∷ b ∷ []) (lt h ∷ []) (search lin depth 30) (omega arith)

-- ---- products
pub pos-nonneg : (n : ℕ) → pos 0 ≤ℤ pos n
pos-nonneg n = record { le = le→leb 0 n (omega arith) }

pub mul-nonneg : {a b : ℤ} → pos 0 ≤ℤ a → pos 0 ≤ℤ b → pos 0 ≤ℤ (a *ℤ b)
mul-nonneg {a = pos m} {b = pos n} h k = pos-nonneg (m * n)
mul-nonneg {a = pos m} {b = negsuc n} h k = absurd k.le
mul-nonneg {a = negsuc m} {b} h k = absurd h.le

pub mul-pos-pos : {a b : ℤ} → pos 0 <ℤ a → pos 0 <ℤ b → pos 0 <ℤ (a *ℤ b)
mul-pos-pos {a = pos m} {b = pos n} h k = record { lt = lt→ltb 0 (m * n) (mul-pos (ltb→lt 0 m h.lt) (ltb→lt 0 n k.lt)) }
mul-pos-pos {a = pos m} {b = negsuc n} h k = absurd k.lt
mul-pos-pos {a = negsuc m} {b} h k = absurd h.lt

pub mul-le-right : {a b c : ℤ} → pos 0 ≤ℤ c → a ≤ℤ b → (a *ℤ c) ≤ℤ (b *ℤ c)
mul-le-right {a} {b} {c} h k = lia-le (a ∷ b ∷ c ∷ []) (le (mul-nonneg (sub-nonneg k) h) ∷ []) (search lin depth 30) (omega arith)

pub mul-lt-right : {a b c : ℤ} → pos 0 <ℤ c → a <ℤ b → (a *ℤ c) <ℤ (b *ℤ c)
mul-lt-right {a} {b} {c} h k = lia-lt (a ∷ b ∷ c ∷ []) (lt (mul-pos-pos (sub-pos k) h) ∷ []) (search lin depth 30) (omega arith)

-- the sign of a product
pub mul-nonpos : {a b : ℤ} → a ≤ℤ pos 0 → pos 0 ≤ℤ b → (a *ℤ b) ≤ℤ pos 0
mul-nonpos {a} {b} h k = lia-le (a ∷ b ∷ []) (le (mul-nonneg (sub-nonneg h) k) ∷ []) (search lin depth 30) (omega arith)

pub mul-nonpos-nonpos : {a b : ℤ} → a ≤ℤ pos 0 → b ≤ℤ pos 0 → pos 0 ≤ℤ (a *ℤ b)
mul-nonpos-nonpos {a} {b} h k = lia-le (a ∷ b ∷ []) (le (mul-nonneg (sub-nonneg h) (sub-nonneg k)) ∷ []) (search lin depth 30) (omega arith)

pub mul-neg-pos : {a b : ℤ} → a <ℤ pos 0 → pos 0 <ℤ b → (a *ℤ b) <ℤ pos 0
mul-neg-pos {a} {b} h k = lia-lt (a ∷ b ∷ []) (lt (mul-pos-pos (sub-pos h) k) ∷ []) (search lin depth 30) (omega arith)

pub mul-neg-neg : {a b : ℤ} → a <ℤ pos 0 → b <ℤ pos 0 → pos 0 <ℤ (a *ℤ b)
mul-neg-neg {a} {b} h k = lia-lt (a ∷ b ∷ []) (lt (mul-pos-pos (sub-pos h) (sub-pos k)) ∷ []) (search lin depth 30) (omega arith)

pub square-nonneg : (a : ℤ) → pos 0 ≤ℤ (a *ℤ a)
square-nonneg (pos m) = pos-nonneg (m * m)
square-nonneg (negsuc m) = pos-nonneg (suc m * suc m)

-- cancellation
pub le-of-mul-le : {a b c : ℤ} → pos 0 <ℤ c → (a *ℤ c) ≤ℤ (b *ℤ c) → a ≤ℤ b
le-of-mul-le {a} {b} {c} h k =
    ⊎_elim (λ l. l) (λ l. absurd (lia-no (a ∷ b ∷ c ∷ []) (lt (mul-lt-right h l) ∷ le k ∷ []) (search lin depth 30) (omega arith))) (le-or-gt a b)

pub lt-of-mul-lt : {a b c : ℤ} → pos 0 ≤ℤ c → (a *ℤ c) <ℤ (b *ℤ c) → a <ℤ b
lt-of-mul-lt {a} {b} {c} h k =
    ⊎_elim (λ l. l) (λ l. absurd (lia-no (a ∷ b ∷ c ∷ []) (le (mul-le-right h l) ∷ lt k ∷ []) (search lin depth 30) (omega arith))) (lt-or-ge a b)

pub mul-cancel : {a b c : ℤ} → pos 0 <ℤ c → a *ℤ c ≡ b *ℤ c → a ≡ b
mul-cancel {a} {b} {c} h e =
    ≤ℤ-antisymm (le-of-mul-le h (lia-le (a ∷ b ∷ c ∷ []) (eq e ∷ []) (search lin depth 30) (omega arith)))
    (le-of-mul-le h (lia-le (a ∷ b ∷ c ∷ []) (eq e ∷ []) (search lin depth 30) (omega arith)))

-- ---- both sides times a number
pub mul-le-left : {a b c : ℤ} → pos 0 ≤ℤ c → a ≤ℤ b → (c *ℤ a) ≤ℤ (c *ℤ b)
mul-le-left {a} {b} {c} h k = lia-le (a ∷ b ∷ c ∷ []) (le (mul-le-right h k) ∷ []) (search lin depth 30) (omega arith)

-- a product is 0 only where a factor is
pub mul-zero : {a b : ℤ} → a *ℤ b ≡ pos 0 → (a ≡ pos 0) ⊎ (b ≡ pos 0)
mul-zero {a} {b} e = go (nat_abs a) (nat_abs b) refl refl (sym (nat_abs_mul a b) ∙ ap nat_abs e)
  where
    go : (m n : ℕ) → nat_abs a ≡ m → nat_abs b ≡ n → m * n ≡ 0 → (a ≡ pos 0) ⊎ (b ≡ pos 0)
    go zero n p q z = inl (nat_abs-zero a p)
    go (suc m) zero p q z = inr (nat_abs-zero b q)
    go (suc m) (suc n) p q z = absurd (omega arith)
