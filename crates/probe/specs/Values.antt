-- The numbers that tests and benchmarks in C get for an extreme value.
use Rattle.std.specs.Prelude.{◌≡◌, ℕ, List}
use Rattle.codec.specs.Bytes.{Answer, refused, gives}
use Rattle.optimum.specs.Value.{Extreme, empty, unbounded, too_wide, too_long, attained}
use Rattle.extremes.specs.Words.{value_words}
use Rattle.probe.specs.Numbers.{refusal_number}

abbrev pub extreme_number : Extreme → ℕ
extreme_number (attained p q) = 0
extreme_number empty = 1
extreme_number unbounded = 2
extreme_number too_wide = 3
extreme_number too_long = 4

abbrev pub extent_number : Answer Extreme → ℕ
extent_number (refused k) = refusal_number k
extent_number (gives x) = extreme_number x

-- the contract of a call whose answer on bytes is `a`: the number r, and the four words after the call
pub record ValueProbed (a : Answer Extreme) (r : ℕ) (words : List ℕ) : Type 0 where
  pub number : r ≡ extent_number a
  pub value : words ≡ value_words a
