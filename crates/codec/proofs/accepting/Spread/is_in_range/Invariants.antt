use Rattle.std.specs.Prelude.{◌≡◌, true, ℕ, ◌<◌}
use Rattle.codec.proofs.Ranges.{Between}
use Rattle.codec.proofs.accepting.Spread.is_in_range.Given as goal

abbrev pub invariant-loop-i : goal.invariant-loop-i
invariant-loop-i l = l.ok ≡ true → (j : ℕ) → j < l.i → Between l.n l.self.low l.self.high j
