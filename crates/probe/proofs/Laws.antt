-- The pivots of many tests.
use Rattle.std.proofs.Common.{◌≡◌, ℕ, ◌+◌, ◌*◌, ◌%◌, ◌^◌, add-mul, one-mul, mul-zero}
use native.Mathlib.Nat.{mod-add-mod}

-- so many tests of no pivots
pub unmade : (t : ℕ) {p : ℕ} → p ≡ 0 → 0 ≡ (t * p) % 2 ^ 64
unmade t e = rw (e, mul-zero)

-- one test of p pivots more, modulo W
pub once_more : (W p i : ℕ) → ((i * p) % W + p) % W ≡ ((i + 1) * p) % W
once_more W p i = rw (mod-add-mod, add-mul, one-mul)
