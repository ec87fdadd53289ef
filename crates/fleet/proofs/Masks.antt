-- Masks: each bit is what the test says, and the count of one-bits is how many pass it.
use mathlib.Core.Path.{◌≡◌, refl, ap, sym, ◌∙◌}
use mathlib.Core.List.{List, [], ◌∷◌, map}
use mathlib.Core.Bool.{Bool, true, false}
use Prim.Native.Nat.{ℕ, zero, suc, ◌+◌, ◌-◌, ◌*◌, ◌/◌, ◌%◌, ◌^◌, ◌≤◌, ◌<◌}
use native.Mathlib.Nat.{pow-suc, pow-succ', div-div-eq-div-mul, div-eq_of_lt, div-one, lt_of_lt_of_le}
use native.Mathlib.Omega.{arith}
use lib.Pow.{pow_mono}
use lib.Count.{ones, ones_step}
use lib.ListN.{drop_of_length-le, length, get_or, drop, length-drop}
use lib.Seq.{drop-cons}
use Rattle.model.specs.Lists.{filter, cons_if}
use Rattle.fleet.specs.Fleet.{bit, mask_of}
use Rattle.fleet.specs.Looking.{itself}

pub bit_le : (b : Bool) → bit b ≤ 1
bit_le true = omega arith
bit_le false = omega arith

module _ {A : Type 0} (f : A → Bool) where
  pub mask_lt : (ps : List A) → mask_of f ps < 2 ^ length ps
  unfolding mask_of
  mask_lt [] = omega arith
  mask_lt (p ∷ ps) = rw pow-suc (omega (arith, mask_lt ps, bit_le (f p)))

  half : (m : ℕ) (b : Bool) → (m * 2 + bit b) / 2 ≡ m
  half m b = omega (arith, bit_le b)

  low : (m : ℕ) (b : Bool) → (m * 2 + bit b) % 2 ≡ bit b
  low m b = omega (arith, bit_le b)

  kept : (b : Bool) (p : A) (l : List A) → bit b + length l ≡ length (cons_if b p l)
  kept true p l = omega arith
  kept false p l = omega arith

  -- the count of one-bits is the number of those that pass
  pub ones-mask : (ps : List A) → ones (mask_of f ps) ≡ length (filter f ps)
  unfolding mask_of ones
  ones-mask [] = refl
  ones-mask (p ∷ ps) = ones_step (mask_of f ps * 2 + bit (f p)) ∙ rw (half (mask_of f ps) (f p), low (mask_of f ps) (f p), ones-mask ps) (kept (f p) p (filter f ps))

  -- bit i is what the test says of the i-th, from 0
  pub mask-bit : (ps : List A) (i : ℕ) (d : A) → i < length ps → mask_of f ps / 2 ^ i % 2 ≡ bit (f (get_or ps i d))
  unfolding mask_of
  mask-bit [] i d h = absurd (omega arith)
  mask-bit (p ∷ ps) zero d h = ap (λ (m : ℕ). m % 2) (div-one (mask_of f ps * 2 + bit (f p))) ∙ low (mask_of f ps) (f p)
  mask-bit (p ∷ ps) (suc i) d h =
      let whole = mask_of f ps * 2 + bit (f p) in
      ap (λ (m : ℕ). m % 2)
      (ap (λ (m : ℕ). whole / m) (pow-succ' 2 i) ∙ sym (div-div-eq-div-mul whole 2 (2 ^ i)) ∙ ap (λ (m : ℕ). m / 2 ^ i) (half (mask_of f ps) (f p)))
      ∙ mask-bit ps i d (omega arith)

  -- the bits past the last are 0
  pub mask-past : (ps : List A) (i : ℕ) → length ps ≤ i → mask_of f ps / 2 ^ i % 2 ≡ 0
  mask-past ps i h = ap (λ (m : ℕ). m % 2) (div-eq_of_lt (lt_of_lt_of_le (mask_lt ps) (pow_mono h)))

  pub mask-map : (ps : List A) → mask_of itself (map f ps) ≡ mask_of f ps
  unfolding mask_of
  mask-map [] = refl
  mask-map (p ∷ ps) = ap (λ (m : ℕ). m * 2 + bit (f p)) (mask-map ps)

  mask_at : (ps : List A) (i : ℕ) (d : A) → i < length ps → mask_of f (drop i ps) ≡ mask_of f (drop (suc i) ps) * 2 + bit (f (get_or ps i d))
  unfolding mask_of
  mask_at ps i d h = rw (drop-cons ps i d h, mask_of)

  pub mask_fits : (ps : List A) (i : ℕ) → length ps ≤ 64 → mask_of f (drop i ps) < 2 ^ 64
  mask_fits ps i h = lt_of_lt_of_le (mask_lt (drop i ps)) (pow_mono {i = length (drop i ps)} {j = 64} (omega (arith, length-drop i ps)))

  -- none is left behind the last
  pub mask_none : (ps : List A) (i : ℕ) → length ps ≤ i → 0 ≡ mask_of f (drop i ps)
  unfolding mask_of
  mask_none ps i h = sym (ap (mask_of f) (drop_of_length-le ps h))

  -- a turn of the loop, from the last to the first: the bit before place i
  pub mask-turn : (ps : List A) (i m b : ℕ) (d : A) → 0 < i → i ≤ length ps → m ≡ mask_of f (drop i ps) → b ≡ bit (f (get_or ps (i - 1) d))
      → m * 2 + b ≡ mask_of f (drop (i - 1) ps)
  mask-turn ps i m b d p le e q =
      let s : suc (i - 1) ≡ i = omega arith in
      sym (rw (mask_at ps (i - 1) d (omega arith), q, s, e))
