use Rattle.std.proofs.Common.{◌≡◌, ℕ, ◌<◌, length, get_or, pos}
use Rattle.rules.proofs.coefficients.narrowed.Given as goal

abbrev pub invariant-loop-i : goal.invariant-loop-i
invariant-loop-i l = record { long : length l.r ≡ 8; written : (k : ℕ) → k < l.i → get_or l.r k (pos 0) ≡ get_or l.a k (pos 0) }
