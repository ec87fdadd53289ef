-- The places before i have met their number.
use Rattle.std.specs.Prelude.{◌≡◌, ℕ, ◌<◌, length, pos, ◌≤ℤ◌, get_or}
use Rattle.codec.specs.Accepting.{number_at, Under}
use Rattle.codec.proofs.accepting.Spread.widened.Given as goal

abbrev pub invariant-loop-i : goal.invariant-loop-i
invariant-loop-i l =
    record {
      low_length : length l.self.low ≡ 8;
      high_length : length l.self.high ≡ 8;
      low : Under l.self.low l.fn.self.low;
      high : Under l.fn.self.high l.self.high;
      over : (j : ℕ) → j < l.i → get_or l.self.low j (pos 0) ≤ℤ number_at l.s l.p j;
      upto : (j : ℕ) → j < l.i → number_at l.s l.p j ≤ℤ get_or l.self.high j (pos 0);
    }
