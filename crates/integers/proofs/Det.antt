-- The code `a * b - c * d` on numbers within `bound`: what each operation asks, and what the result's bits stand for, at any width. Assumes nothing.
use Rattle.std.specs.Prelude.{◌≡◌, ℤ, ◌-ℤ◌, ◌*ℤ◌}
use Rattle.std.specs.Int.{Width}
use mir.Val.{SFits, to_z, of_z, bits}
use Rattle.integers.specs.Z.{Within}
use Rattle.integers.specs.Size.{bound, within-fits}
use Rattle.integers.proofs.BoundedProducts.{bound-fits, products-fit}
use Rattle.integers.specs.Mach.{Bits, b-of, b-op, ask}

-- z as it is read back from its bits
abbrev pub rd : Width → ℤ → ℤ
rd w z = to_z w (of_z w z)

module _ (w : Width) where
  abbrev pub Half : ℤ → Type 0
  Half z = Within (bound (bits w)) z

  pub half-bits : {a : ℤ} → Half a → Bits w (of_z w a) a
  half-bits ha = b-of (within-fits (bound-fits w) ha)

  pub mul-ask : {a b : ℤ} → Half a → Half b → SFits w (rd w a *ℤ rd w b)
  mul-ask ha hb = ask (half-bits ha) (half-bits hb) ◌*ℤ◌ (products-fit w ha hb ha hb).left

  mul-bits : {a b : ℤ} → Half a → Half b → Bits w (of_z w (rd w a *ℤ rd w b)) (a *ℤ b)
  mul-bits ha hb = b-op (half-bits ha) (half-bits hb) ◌*ℤ◌ (products-fit w ha hb ha hb).left

  module _ {a b c d : ℤ} (ha : Half a) (hb : Half b) (hc : Half c) (hd : Half d) where
    pub det-ask : SFits w (rd w (rd w a *ℤ rd w b) -ℤ rd w (rd w c *ℤ rd w d))
    det-ask = ask (mul-bits ha hb) (mul-bits hc hd) ◌-ℤ◌ (products-fit w ha hb hc hd).difference

    pub det-is : rd w (rd w (rd w a *ℤ rd w b) -ℤ rd w (rd w c *ℤ rd w d)) ≡ a *ℤ b -ℤ c *ℤ d
    det-is = (b-op (mul-bits ha hb) (mul-bits hc hd) ◌-ℤ◌ (products-fit w ha hb hc hd).difference).is
