-- The size of a number of two words from the bound of its value, and cells. Assumes nothing.
use mathlib.Core.Path.{◌≡◌, sym, ap, ap₂, ◌∙◌}
use mathlib.Core.Bool.{Bool, true, false, cond}
use mathlib.Core.Logic.{⊎_elim}
use Prim.Native.Nat.{ℕ, zero, suc, ◌+◌, ◌-◌, ◌*◌, ◌/◌, ◌%◌, ◌^◌, ◌≤◌, ◌<◌, zero-le}
use native.Mathlib.Omega.{arith}
use native.Mathlib.Nat.{eq-zero-or-pos, zero-div, le_trans, le_of_eq, mod-eq-sub-mod, mod-eq_of_lt, div-lt_iff_lt-mul, div-add-mod', two-pow-succ}
use lib.IntN.{ℤ, pos, nat_abs, ◌-ℤ◌, ◌*ℤ◌}
use lib.Arith.{digits_div, digits_mod}
use lib.Pow.{pow_pos}
use lib.Dec.{leb}
use lib.Signed.{lt_z}
use borrow.Author.Tests.{le-leb, lt-leb, le-ltb}
use Rattle.integers.specs.Part.{lt-or-le}
use Rattle.integers.specs.Z.{Within}
use Rattle.integers.specs.Size.{bound}
use Rattle.integers.proofs.BoundedProducts.{products}
use Rattle.wide.specs.declared.Wide.{Wide}
use Rattle.wide.specs.Wide.{size, value_of}
use Rattle.wide.specs.Wide.{signed}
use Rattle.wide.proofs.Signs.{nat_abs-signed, signed_is, signed_lt}

pub size-within : (x : Wide) (z : ℤ) {n : ℕ} → value_of x ≡ z → Within n z → size x.magnitude ≤ n
size-within x z e h = le_trans (le_of_eq (sym (nat_abs-signed x.neg (size x.magnitude)) ∙ ap nat_abs e)) h.size

-- two products of numbers within the bound of W bits, and their difference: `products` at any W
module _ (W : ℕ) (w : 2 ≤ W) (p q : Wide) {a b c d : ℤ} (ha : Within (bound W) a) (hb : Within (bound W) b) (hc : Within (bound W) c) (hd : Within (bound W) d) (ep : value_of p ≡ a *ℤ b) (eq : value_of q ≡ c *ℤ d) where
  below_top : (n : ℕ) → n ≤ 2 ^ (W - 1) - 1 → n < 2 ^ (W - 1)
  below_top n h = let k = pow_pos (W - 1) in omega arith

  pub both-fit : size p.magnitude + size q.magnitude < 2 ^ W
  both-fit =
      let r = products W w ha hb hc hd in
      let x = below_top _ (size-within p (a *ℤ b) ep r.left) in let y = below_top _ (size-within q (c *ℤ d) eq r.right) in
      both (size p.magnitude) (size q.magnitude) x y
    where
      both : (m n : ℕ) → m < 2 ^ (W - 1) → n < 2 ^ (W - 1) → m + n < 2 ^ W
      both m n x y = let e : suc (W - 1) ≡ W = omega arith in let f : 2 ^ W ≡ 2 ^ (W - 1) + 2 ^ (W - 1) = ap (λ (n : ℕ). 2 ^ n) (sym e) ∙ two-pow-succ (W - 1) in omega arith

  pub det-is : (r : Wide) → value_of r ≡ value_of p -ℤ value_of q → (value_of r ≡ a *ℤ b -ℤ c *ℤ d) × (size r.magnitude < 2 ^ (W - 1))
  det-is r e = let f = e ∙ ap₂ ◌-ℤ◌ ep eq in (f, below_top _ (size-within r (a *ℤ b -ℤ c *ℤ d) f (products W w ha hb hc hd).difference))

-- ---- cells: H is half the base B of a word
module _ (H B lo : ℕ) where
  abbrev pub cell_at : ℕ → ℤ
  cell_at hi = signed (leb H hi) ((hi % H) * B + lo)

  pub cell-low : (hi : ℕ) → hi < H → signed false (hi * B + lo) ≡ cell_at hi
  cell-low hi h = ap₂ (λ (s : Bool) (n : ℕ). signed s (n * B + lo)) (sym (lt-leb H hi h)) (sym (mod-eq_of_lt h))

  pub cell-high : (hi k : ℕ) → k < H → k ≡ hi - H → H ≤ hi → signed true (k * B + lo) ≡ cell_at hi
  cell-high hi k h e l = ap₂ (λ (s : Bool) (n : ℕ). signed s (n * B + lo)) (sym (le-leb H hi l)) (sym (mod-eq-sub-mod l ∙ ap (λ (n : ℕ). n % H) (sym e) ∙ mod-eq_of_lt h))

-- a number's own two words
module _ (H B : ℕ) (b : 0 < B) where
  abbrev pub high_at : ℤ → ℕ
  high_at z = cond (lt_z z (pos 0)) (nat_abs z / B + H) (nat_abs z / B)

  high_part : (n : ℕ) → n < H * B → n / B < H
  high_part n h = (div-lt_iff_lt-mul b).1 h

  pub cell-back : (z : ℤ) → nat_abs z < H * B → cell_at H B (nat_abs z % B) (high_at z) ≡ z
  cell-back z h =
      words (lt_z z (pos 0)) (nat_abs z) h ∙ ap (signed (lt_z z (pos 0))) (div-add-mod' (nat_abs z) B) ∙ signed_is z
    where
      words : (s : Bool) (n : ℕ) → n < H * B
          → cell_at H B (n % B) (cond s (n / B + H) (n / B)) ≡ signed s ((n / B) * B + n % B)
      words false n h = sym (cell-low H B (n % B) (n / B) (high_part n h))
      words true n h = sym (cell-high H B (n % B) (n / B + H) (n / B) (high_part n h) (omega arith) (omega arith))

  -- the high word of a sign and two words
  pub high_digit : (h l : ℕ) → l < B → (h * B + l) / B ≡ h
  high_digit h l k = digits_div h k

  pub low_digit : (h l : ℕ) → l < B → (h * B + l) % B ≡ l
  low_digit h l k = digits_mod h k

  -- a cell has its number's words but for one: 0 with a sign
  pub cell-low-word : (h l : ℕ) → l < B → nat_abs (cell_at H B l h) % B ≡ l
  cell-low-word h l k = ap (λ (n : ℕ). n % B) (nat_abs-signed (leb H h) ((h % H) * B + l)) ∙ low_digit (h % H) l k

  pub cell-high-word : (h l : ℕ) → l < B → h < H + H → (h ≡ H → l ≡ 0 → ⊥) → high_at (cell_at H B l h) ≡ h
  cell-high-word h l k m z = ⊎_elim under over (lt-or-le h H)
    where
      under : h < H → high_at (cell_at H B l h) ≡ h
      under u =
          ap high_at (sym (cell-low H B l h u)) ∙ ap (λ (t : Bool). cond t ((h * B + l) / B + H) ((h * B + l) / B)) (le-ltb (h * B + l) 0 zero-le) ∙ high_digit h l k

      some : (d : ℕ) → h ≡ d + H → 0 < d * B + l
      some zero e = ⊎_elim (λ (q : l ≡ 0). absurd (z (omega arith) q)) (λ (q : 0 < l). omega arith) (eq-zero-or-pos l)
      some (suc d) e = omega arith

      over : H ≤ h → high_at (cell_at H B l h) ≡ h
      over o =
          let d : ℕ = h - H in let y : h ≡ d + H = omega arith in let n : ℕ = d * B + l in
          ap high_at (sym (cell-high H B l h d (omega arith) (omega arith) o))
          ∙ ap₂ (λ (t : Bool) (x : ℕ). cond t (x / B + H) (x / B)) (signed_lt true n (some d y)) (nat_abs-signed true n) ∙ ap (λ (x : ℕ). x + H) (high_digit d l k) ∙ sym y

  pub cell-minus-zero : 0 < H → high_at (cell_at H B 0 H) ≡ H → ⊥
  cell-minus-zero h e =
      let f = sym (ap high_at (cell-high H B 0 H 0 h (omega arith) (omega arith))) in
      let g : high_at (signed true (0 * B + 0)) ≡ 0 / B = ap (λ (n : ℕ). high_at (signed true n)) (let y : 0 * B + 0 ≡ 0 = omega arith in y) in
      let q : 0 / B ≡ 0 = zero-div B in let r = sym g ∙ sym f ∙ e in omega arith
