-- Two's complement of a number of two words, word by word (specs/Words): below 0 the difference from 2^128, which borrows unless the
-- lower word is 0. Assumes nothing.
use mathlib.Core.Path.{◌≡◌, refl, sym, ap, ◌∙◌}
use mathlib.Core.Bool.{true, false}
use mathlib.Core.Logic.{◌⊎◌, inl, inr}
use Prim.Native.Nat.{ℕ, ◌+◌, ◌-◌, ◌*◌, ◌/◌, ◌%◌, ◌<◌, zero-le}
use native.Mathlib.Omega.{arith}
use native.Mathlib.Nat.{eq-zero-or-pos}
use lib.IntN.{ℤ, pos, negsuc, nat_abs}
use lib.Signed.{lt_z}
use borrow.Author.Tests.{le-ltb}
use Rattle.integers.specs.Mach.{clash}
use Rattle.wide.specs.declared.Wide.{Wide}
use Rattle.wide.specs.Wide.{size, value_of}
use Rattle.wide.proofs.Digits.{quotient_is, remainder_is, diff_is, diff-borrowed, one_word}
use Rattle.wide.proofs.Signs.{nat_abs-signed, signed-zero}
use Rattle.extremes.specs.Words.{complement}

from_zero : (z : ℤ) → lt_z z (pos 0) ≡ false → complement z ≡ nat_abs z
from_zero (pos n) h = refl
from_zero (negsuc n) h = clash refl h

below-zero : (z : ℤ) → lt_z z (pos 0) ≡ true → complement z ≡ 340282366920938463463374607431768211456 - nat_abs z
below-zero (pos n) h = clash h (le-ltb n 0 zero-le)
below-zero (negsuc n) h = refl

module _ (z : ℤ) (m q r : ℕ) (c : complement z ≡ m) (e : q * 18446744073709551616 + r ≡ m) (h : r < 18446744073709551616) where
  lower : r ≡ complement z % 18446744073709551616
  lower = remainder_is m 18446744073709551616 q r e h ∙ ap (λ (k : ℕ). k % 18446744073709551616) (sym c)

  upper : q ≡ complement z / 18446744073709551616
  upper = quotient_is m 18446744073709551616 q r e h ∙ ap (λ (k : ℕ). k / 18446744073709551616) (sym c)

-- ---- from 0 on: the words as they are
module _ (x : Wide) (l : x.magnitude.lo < 18446744073709551616) (p : lt_z (value_of x) (pos 0) ≡ false) where
  plain : complement (value_of x) ≡ size x.magnitude
  plain = from_zero (value_of x) p ∙ nat_abs-signed x.neg (size x.magnitude)

  pub low-kept : x.magnitude.lo ≡ complement (value_of x) % 18446744073709551616
  low-kept = lower (value_of x) (size x.magnitude) x.magnitude.hi x.magnitude.lo plain refl l

  pub high-kept : x.magnitude.hi ≡ complement (value_of x) / 18446744073709551616
  high-kept = upper (value_of x) (size x.magnitude) x.magnitude.hi x.magnitude.lo plain refl l

-- ---- below 0
module _ (x : Wide) (h : x.magnitude.hi < 18446744073709551616) (p : lt_z (value_of x) (pos 0) ≡ true) where
  taken : complement (value_of x) ≡ 340282366920938463463374607431768211456 - size x.magnitude
  taken = below-zero (value_of x) p ∙ ap (λ (n : ℕ). 340282366920938463463374607431768211456 - n) (nat_abs-signed x.neg (size x.magnitude))

  module _ (e : x.magnitude.lo ≡ 0) where
    pub some-high : 0 < x.magnitude.hi
    some-high = at (eq-zero-or-pos x.magnitude.hi)
      where
        at : (x.magnitude.hi ≡ 0) ⊎ (0 < x.magnitude.hi) → 0 < x.magnitude.hi
        at (inl z) =
            let n : size x.magnitude ≡ 0 = one_word 18446744073709551616 x.magnitude.hi x.magnitude.lo z ∙ e in
            clash p (ap (λ (y : ℤ). lt_z y (pos 0)) (signed-zero x.neg (size x.magnitude) n))
        at (inr k) = k

    even : (18446744073709551616 - x.magnitude.hi) * 18446744073709551616 + (0 - x.magnitude.lo)
        ≡ 340282366920938463463374607431768211456 - size x.magnitude
    even = diff_is 18446744073709551616 18446744073709551616 0 x.magnitude.hi x.magnitude.lo (omega arith) (omega arith)

    pub low-zero : 0 ≡ complement (value_of x) % 18446744073709551616
    low-zero =
        let z : 0 ≡ 0 - x.magnitude.lo = omega arith in
        z ∙ lower (value_of x) _ (18446744073709551616 - x.magnitude.hi) (0 - x.magnitude.lo) taken even (omega arith)

    pub high-even : 18446744073709551615 - x.magnitude.hi + 1 ≡ complement (value_of x) / 18446744073709551616
    high-even =
        let z : 18446744073709551615 - x.magnitude.hi + 1 ≡ 18446744073709551616 - x.magnitude.hi = omega arith in
        z ∙ upper (value_of x) _ (18446744073709551616 - x.magnitude.hi) (0 - x.magnitude.lo) taken even (omega arith)

  module _ (l : x.magnitude.lo < 18446744073709551616) (s : 0 < x.magnitude.lo) where
    borrowed : (18446744073709551616 - x.magnitude.hi - 1) * 18446744073709551616 + (18446744073709551615 - (x.magnitude.lo - 0) + 1)
        ≡ 340282366920938463463374607431768211456 - size x.magnitude
    borrowed = diff-borrowed 18446744073709551615 18446744073709551616 0 x.magnitude.hi x.magnitude.lo s (omega arith) h

    pub low-taken : 18446744073709551615 - x.magnitude.lo + 1 ≡ complement (value_of x) % 18446744073709551616
    low-taken =
        let z : 18446744073709551615 - x.magnitude.lo + 1 ≡ 18446744073709551615 - (x.magnitude.lo - 0) + 1 = omega arith in
        z ∙ lower (value_of x) _ (18446744073709551616 - x.magnitude.hi - 1) (18446744073709551615 - (x.magnitude.lo - 0) + 1) taken borrowed (omega arith)

    pub high_taken : 18446744073709551615 - x.magnitude.hi ≡ complement (value_of x) / 18446744073709551616
    high_taken =
        let z : 18446744073709551615 - x.magnitude.hi ≡ 18446744073709551616 - x.magnitude.hi - 1 = omega arith in
        z ∙ upper (value_of x) _ (18446744073709551616 - x.magnitude.hi - 1) (18446744073709551615 - (x.magnitude.lo - 0) + 1) taken borrowed (omega arith)
