-- What tests and benchmarks in C get for a count.
use Rattle.std.specs.Prelude.{◌≡◌, ℕ, List, Option, Some, None}
use Rattle.codec.specs.Bytes.{Answer, refused, gives}
use Rattle.enumeration.specs.Counting.{Tally}
use Rattle.counting.specs.Answers.{counted_is, table_is}
use Rattle.counting.specs.declared.levels.Counted.{Counted}
use Rattle.answers.specs.Numbers.{tested_in}
use Rattle.probe.specs.Numbers.{refusal_number}

-- spent is 2, as in a search
abbrev pub whole_number : Option ℕ → ℕ
whole_number (Some w) = 0
whole_number None = 2

abbrev pub count_number : Answer Counted → ℕ
count_number (refused k) = refusal_number k
count_number (gives c) = whole_number c.whole

-- 0 unless they were counted
abbrev pub whole_or_zero : Option ℕ → ℕ
whole_or_zero (Some w) = w
whole_or_zero None = 0

abbrev pub whole_in : Answer Counted → ℕ
whole_in (refused k) = 0
whole_in (gives c) = whole_or_zero c.whole

-- the contract of a count that is `a`: the number r, how many members, and how many prefixes tested
pub record CountProbed (a : Answer Tally) (r whole tested : ℕ) : Type 0 where
  pub number : r ≡ count_number (counted_is a)
  pub members : whole ≡ whole_in (counted_is a)
  pub prefixes : tested ≡ tested_in (counted_is a)

-- the same with the whole table of `size` places after the call
pub record CountsProbed (size : ℕ) (a : Answer Tally) (r : ℕ) (each : List ℕ) (whole tested : ℕ) : Type 0 where
  pub answer : CountProbed a r whole tested
  pub counts : each ≡ table_is size a
