-- A bound on the size of an expression, found by `search`: `fits_by (search bounds depth 20) (omega arith) : SFits w z`.
-- The bound goes through sums, products, negation, literals, and what a machine reads back (`to_z w (of_z w z)`), down to facts `Within n x`,
-- `n < m` and `Bits w s x` in reach, also in fields. It forgets signs: where a difference is smaller than a sum, use `lia-fits`. Assumes nothing.
use Rattle.std.proofs.Common.{sym, subst, le_of_lt}
use Rattle.std.specs.Prelude.{ℕ, suc, ◌+◌, ◌*◌, ◌^◌, ◌<◌, T, leb, ℤ, pos, negsuc, neg_ℤ, ◌+ℤ◌, ◌*ℤ◌}
use Rattle.std.specs.Int.{Width}
use mir.Val.{SFits, hbits, to_z, of_z}
use Rattle.integers.specs.Z.{Within}
use Rattle.integers.specs.Size.{within-self, within-add, within-mul, within-neg, within-fits}
use Rattle.integers.specs.Mach.{Bits, to_z_of_z, to_z-nat}

pub record Bounded (z : ℤ) : Type 0 where
  pub bound : ℕ
  pub ok : Within bound z

abbrev pub by-within : {n : ℕ} {z : ℤ} → Within n z → Bounded z
by-within {n} h = record { bound = n; ok = h }

abbrev pub by-pos : (n : ℕ) → T (leb 0 n) → Bounded (pos n)
by-pos n t = record { bound = n; ok = within-self (pos n) }

abbrev pub by-nat : (n m : ℕ) → n < m → Bounded (pos n)
by-nat n m h = record { bound = m; ok = record { size = le_of_lt h } }

abbrev pub by-negsuc : (n : ℕ) → T (leb 0 n) → Bounded (negsuc n)
by-negsuc n t = record { bound = suc n; ok = within-self (negsuc n) }

abbrev pub by-add : {a b : ℤ} → Bounded a → Bounded b → Bounded (a +ℤ b)
by-add x y = record { bound = x.bound + y.bound; ok = within-add x.ok y.ok }

abbrev pub by-mul : {a b : ℤ} → Bounded a → Bounded b → Bounded (a *ℤ b)
by-mul x y = record { bound = x.bound * y.bound; ok = within-mul x.ok y.ok }

abbrev pub by-neg : {a : ℤ} → Bounded a → Bounded (neg_ℤ a)
by-neg x = record { bound = x.bound; ok = within-neg x.ok }

abbrev pub by-back : {w : Width} {z : ℤ} → SFits w z → Bounded z → Bounded (to_z w (of_z w z))
by-back h x = record { bound = x.bound; ok = subst (Within x.bound) (sym (to_z_of_z h)) x.ok }

abbrev pub by_bits : {w : Width} {n : ℕ} {z : ℤ} → Bits w n z → Bounded z → Bounded (to_z w n)
by_bits h x = record { bound = x.bound; ok = subst (Within x.bound) (sym h.is) x.ok }

abbrev pub by-cast : (w : Width) (n m : ℕ) → n < m → T (leb m (2 ^ hbits w)) → Bounded (to_z w n)
by-cast w n m h t = record { bound = m; ok = subst (Within m) (sym (to_z-nat w n m h t)) (by-nat n m h).ok }

pub ruleset bounds = (tt, by-add, by-mul, by-neg, by-pos, by-negsuc, by-within, by-back, by_bits, by-cast, by-nat)

pub fits_by : {w : Width} {z : ℤ} (x : Bounded z) → x.bound < 2 ^ hbits w → SFits w z
fits_by x h = within-fits h x.ok
