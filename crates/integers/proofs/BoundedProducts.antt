-- Numbers within document 000's bound: their products, and sums and differences of two products, fit the word; one more, and they do not.
-- Assumes nothing.
use Rattle.std.specs.Prelude.{ℕ, zero, suc, ◌+◌, ◌-◌, ◌*◌, ◌/◌, ◌^◌, ◌≤◌, ◌<◌, ℤ, pos, neg_ℤ, ◌-ℤ◌, ◌*ℤ◌}
use Rattle.std.proofs.Common.{arith, mul-le-mul, lt_of_lt_of_le, lt_irrefl, lit<, pow_pos, pow-add, pow_mono}
use Rattle.std.specs.Int.{Width, w8, w16, w32, w64, w128}
use mir.Val.{SFits, hbits, bits}
use Rattle.integers.specs.Z.{Within}
use Rattle.integers.specs.Size.{within-add, within-sub, within-mul, within-mono, within-fits, bound, Products}

bound-below : (W : ℕ) → bound W < 2 ^ (W / 2 - 1)
bound-below W = let p = pow_pos (W / 2 - 1) in omega arith

two-squares : (n K : ℕ) → n < K → n * n + n * n < K * K + K * K
two-squares n zero h = absurd (omega arith)
two-squares n (suc K) h = let q : n * n ≤ K * K = let l : n ≤ K = omega arith in mul-le-mul l l in omega arith

two-powers : (W : ℕ) → 2 ≤ W → 2 ^ (W / 2 - 1) * 2 ^ (W / 2 - 1) + 2 ^ (W / 2 - 1) * 2 ^ (W / 2 - 1) ≤ 2 ^ (W - 1)
two-powers W h =
    let k = W / 2 - 1 in let l : k + k + 1 ≤ W - 1 = omega arith in let m = pow_mono l in
    let e = pow-add 2 (k + k) 1 in let f = pow-add 2 k k in omega arith

room : (W : ℕ) → 2 ≤ W → bound W * bound W + bound W * bound W < 2 ^ (W - 1)
room W h = lt_of_lt_of_le (two-squares (bound W) (2 ^ (W / 2 - 1)) (bound-below W)) (two-powers W h)

module _ {a b c d : ℤ} where
  pub products : (W : ℕ) → 2 ≤ W → Within (bound W) a → Within (bound W) b → Within (bound W) c → Within (bound W) d → Products (Within (2 ^ (W - 1) - 1)) a b c d
  products W h ha hb hc hd =
      let r = room W h in let x = within-mul ha hb in let y = within-mul hc hd in
      record {
        left = within-mono (omega arith) x;
        right = within-mono (omega arith) y;
        difference = within-mono (omega arith) (within-sub x y);
        sum = within-mono (omega arith) (within-add x y);
      }

  -- at a width of the machine
  pub products-fit : (w : Width) → Within (bound (bits w)) a → Within (bound (bits w)) b → Within (bound (bits w)) c → Within (bound (bits w)) d → Products (SFits w) a b c d
  products-fit w ha hb hc hd =
      let p = products (bits w) (wide w) ha hb hc hd in
      record { left = fit p.left; right = fit p.right; difference = fit p.difference; sum = fit p.sum }
    where
      wide : (w : Width) → 2 ≤ bits w
      wide w8 = omega arith
      wide w16 = omega arith
      wide w32 = omega arith
      wide w64 = omega arith
      wide w128 = omega arith

      fit : {z : ℤ} → Within (2 ^ (bits w - 1) - 1) z → SFits w z
      fit h = within-fits (below w) h
        where
          below : (w : Width) → 2 ^ (bits w - 1) - 1 < 2 ^ hbits w
          below w8 = lit< tt
          below w16 = lit< tt
          below w32 = lit< tt
          below w64 = lit< tt
          below w128 = lit< tt

pub bound-fits : (w : Width) → bound (bits w) < 2 ^ hbits w
bound-fits w8 = lit< tt
bound-fits w16 = lit< tt
bound-fits w32 = lit< tt
bound-fits w64 = lit< tt
bound-fits w128 = lit< tt

-- the bound is the largest: one more, and a · b − c · d does not fit
pub bound-most : (w : Width) → let k = pos (bound (bits w) + 1) in SFits w (k *ℤ k -ℤ neg_ℤ k *ℤ k) → ⊥
bound-most w8 h = lt_irrefl _ h.sfits
bound-most w16 h = lt_irrefl _ h.sfits
bound-most w32 h = lt_irrefl _ h.sfits
bound-most w64 h = lt_irrefl _ h.sfits
bound-most w128 h = lt_irrefl _ h.sfits
