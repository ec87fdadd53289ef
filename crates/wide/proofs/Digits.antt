-- Numbers of two words, over the base B of a word (or of half a word). Assumes nothing.
use mathlib.Core.Path.{◌≡◌, sym, ap, ap₂, ◌∙◌}
use Prim.Native.Nat.{ℕ, ◌+◌, ◌-◌, ◌*◌, ◌/◌, ◌%◌, ◌≤◌, ◌<◌}
use native.Mathlib.Omega.{arith}
use mathlib.Core.Logic.{◌⊎◌, inl, inr}
use lib.Arith.{digits_div, digits_mod}
use native.Mathlib.Nat.{eq-zero-or-pos, pos_of_ne-zero, mul-le-mul_left, div-add-mod', mod-lt, mul-le-mul, mul-le-mul_right, div-lt_iff_lt-mul}

-- ---- the product of two numbers of two digits, by its four partial products
pub poly : (B a1 a0 b1 b0 q0 r0 q1 r1 q2 r2 : ℕ) → q0 * B + r0 ≡ a0 * b0 → q1 * B + r1 ≡ a1 * b0 + q0 → q2 * B + r2 ≡ a0 * b1 + r1 → (a1 * b1 + q1 + q2) * (B * B) + (r2 * B + r0) ≡ (a1 * B + a0) * (b1 * B + b0)
poly B a1 a0 b1 b0 q0 r0 q1 r1 q2 r2 e0 e1 e2 = let f1 = ap (λ (x : ℕ). x * B) e1 in let f2 = ap (λ (x : ℕ). x * B) e2 in omega arith

room-k : (k B a b c d : ℕ) → B ≡ k + 1 → a < B → b < B → c < B → d < B → a * b + c + d < B * B
room-k k B a b c d e ha hb hc hd =
    let p : a * b ≤ k * k = mul-le-mul (omega arith) (omega arith) in
    let f : B * B ≡ (k + 1) * (k + 1) = ap (λ (x : ℕ). x * x) e in
    omega arith

-- a product of two digits has room for two more
pub room : (B a b c d : ℕ) → a < B → b < B → c < B → d < B → a * b + c + d < B * B
room B a b c d ha hb hc hd = room-k (B - 1) B a b c d (omega arith) ha hb hc hd

pub high_lt : (B a : ℕ) → 0 < B → a < B * B → a / B < B
high_lt B a h k = (div-lt_iff_lt-mul h).1 k

module _ (B a b : ℕ) where
  abbrev pub low : ℕ
  low = (a % B) * (b % B)

  abbrev pub mid : ℕ
  mid = (a / B) * (b % B) + low / B

  abbrev pub mid2 : ℕ
  mid2 = (a % B) * (b / B) + mid % B

  pub product_is : ((a / B) * (b / B) + mid / B + mid2 / B) * (B * B) + ((mid2 % B) * B + low % B) ≡ a * b
  product_is = poly B (a / B) (a % B) (b / B) (b % B) _ _ _ _ _ _ (div-add-mod' low B) (div-add-mod' mid B) (div-add-mod' mid2 B) ∙ ap₂ ◌*◌ (div-add-mod' a B) (div-add-mod' b B)

  -- every number on the way is below B · B
  module _ (h : 0 < B) (ha : a < B * B) (hb : b < B * B) where
    pub low_fits : low < B * B
    low_fits = let p = room B (a % B) (b % B) 0 0 (mod-lt a h) (mod-lt b h) h h in omega arith

    pub mid-fits : mid < B * B
    mid-fits = let p = room B (a / B) (b % B) (low / B) 0 (high_lt B a h ha) (mod-lt b h) (high_lt B low h low_fits) h in omega arith

    pub mid2-fits : mid2 < B * B
    mid2-fits = let p = room B (a % B) (b / B) (mid % B) 0 (mod-lt a h) (high_lt B b h hb) (mod-lt mid h) h in omega arith

    pub high_fits : (a / B) * (b / B) + mid / B + mid2 / B < B * B
    high_fits = room B (a / B) (b / B) (mid / B) (mid2 / B) (high_lt B a h ha) (high_lt B b h hb) (high_lt B mid h mid-fits) (high_lt B mid2 h mid2-fits)

-- ---- numbers hi · B + lo
pub sum_is : (B hi lo hi' lo' : ℕ) → (hi + hi') * B + (lo + lo') ≡ hi * B + lo + (hi' * B + lo')
sum_is B hi lo hi' lo' = omega arith

pub diff_is : (B hi lo hi' lo' : ℕ) → lo' ≤ lo → hi' ≤ hi → (hi - hi') * B + (lo - lo') ≡ (hi * B + lo) - (hi' * B + lo')
diff_is B hi lo hi' lo' h k = go (hi - hi') (omega arith)
  where
    go : (d : ℕ) → hi ≡ hi' + d → d * B + (lo - lo') ≡ (hi * B + lo) - (hi' * B + lo')
    go d e = let f = ap (λ (x : ℕ). x * B) e in omega arith

pub diff-borrowed : (M hi lo hi' lo' : ℕ) → lo < lo' → lo' ≤ M → hi' < hi → (hi - hi' - 1) * (M + 1) + (M - (lo' - lo) + 1) ≡ (hi * (M + 1) + lo) - (hi' * (M + 1) + lo')
diff-borrowed M hi lo hi' lo' h k l = go (hi - hi' - 1) (omega arith)
  where
    go : (d : ℕ) → hi ≡ hi' + d + 1 → d * (M + 1) + (M - (lo' - lo) + 1) ≡ (hi * (M + 1) + lo) - (hi' * (M + 1) + lo')
    go d e = let f = ap (λ (x : ℕ). x * (M + 1)) e in omega arith

pub back_in : (M a b : ℕ) → a < b → b ≤ M → M - (b - a) + 1 < M + 1
back_in M a b h k = omega arith

-- ---- zero
pub zero_high : (B h l : ℕ) → 0 < B → (h ≡ 0 → ⊥) → h * B + l ≡ 0 → ⊥
zero_high B h l p ne e = ne (go (eq-zero-or-pos h))
  where
    go : (h ≡ 0) ⊎ (0 < h) → h ≡ 0
    go (inl z) = z
    go (inr k) = let q : 1 * B ≤ h * B = mul-le-mul_right B k in absurd (omega arith)

pub one_word : (B h l : ℕ) → h ≡ 0 → h * B + l ≡ l
one_word B h l e = let f = ap (λ (x : ℕ). x * B) e in omega arith

-- quotient and remainder, by what they are
pub quotient_is : (x d q r : ℕ) → q * d + r ≡ x → r < d → q ≡ x / d
quotient_is x d q r e h = sym (digits_div q h) ∙ ap (λ (n : ℕ). n / d) e

pub remainder_is : (x d q r : ℕ) → q * d + r ≡ x → r < d → r ≡ x % d
remainder_is x d q r e h = sym (digits_mod q h) ∙ ap (λ (n : ℕ). n % d) e

pub high_zero : (B h l : ℕ) → h * B + l < B → h ≡ 0
high_zero B h l k = go (eq-zero-or-pos h)
  where
    go : (h ≡ 0) ⊎ (0 < h) → h ≡ 0
    go (inl z) = z
    go (inr p) = let q : 1 * B ≤ h * B = mul-le-mul_right B p in absurd (omega arith)

pub large : (M B h l : ℕ) → M < B → (h ≡ 0 → ⊥) → M < h * B + l
large M B h l k ne = let q : 1 * B ≤ h * B = mul-le-mul_right B (pos_of_ne-zero ne) in omega arith

-- what fits a word is its low word
pub low_word : (B h l : ℕ) → h * B + l < B → l ≡ h * B + l
low_word B h l k = sym (one_word B h l (high_zero B h l k))

-- ---- division by parts: q and r so far, k times d taken off
pub part_off : (x d q r k m : ℕ) → q * d + r ≡ x → m ≡ k * d → m ≤ r → (q + k) * d + (r - m) ≡ x
part_off x d q r k m e f h = omega arith

pub part-fits : (x d q r k m N : ℕ) → q * d + r ≡ x → m ≡ k * d → m ≤ r → 0 < d → x < N → q + k < N
part-fits x d q r k m N e f h g l = let p : (q + k) * 1 ≤ (q + k) * d = mul-le-mul_left (q + k) g in omega arith

pub once : (d : ℕ) → d ≡ 1 * d
once d = omega arith

pub two-room : (B h l : ℕ) → h < B → l < B → h * B + l < B * B
two-room B h l k m = let p : (h + 1) * B ≤ B * B = mul-le-mul_right B (omega arith) in omega arith

pub none_yet : (d x : ℕ) → 0 * d + x ≡ x
none_yet d x = omega arith

-- ---- division by one word d: the high word first, then what is left of it with the low word
pub word-divided : (B d xh xl : ℕ) → 0 < d →
    let t = (xh % d) * B + xl in let x = xh * B + xl in
    ((xh / d) * B + t / d ≡ x / d) × (t % d ≡ x % d)
word-divided B d xh xl h =
    let t = (xh % d) * B + xl in
    let e = digits d B xh xl (xh / d) (xh % d) (t / d) (t % d) (div-add-mod' xh d) (div-add-mod' t d) in
    (quotient_is _ d _ _ e (mod-lt t h), remainder_is _ d _ _ e (mod-lt t h))
  where
    digits : (d B xh xl qh rh q r : ℕ) → qh * d + rh ≡ xh → q * d + r ≡ rh * B + xl → (qh * B + q) * d + r ≡ xh * B + xl
    digits d B xh xl qh rh q r e0 e1 = let f0 = ap (λ (x : ℕ). x * B) e0 in omega arith
