-- The numbers that tests and benchmarks in C get for the answers of the public calls.
use Rattle.std.specs.Prelude.{◌≡◌, ℕ, ◌+◌, ◌-◌, Bool, true, false, List, [], ℤ}
use Rattle.std.proofs.Math.Option.{Option, none, some}
use Rattle.codec.specs.Bytes.{Answer, refused, gives}
use Rattle.feasibility.specs.Tableau.{Verdict, point, dropped, long, wide}
use Rattle.algebra.specs.Result.{length_of, table_of}
use Rattle.query.specs.Member.{padded}
use Rattle.search.specs.Sides.{point_or_zeros}
use Rattle.search.specs.declared.levels.Outcome.{Outcome}
use Rattle.search.specs.declared.levels.Outcome.TheVariants.{At, Nothing, Spent}
use Rattle.search.specs.declared.first.FirstPoint.{FirstPoint}

-- refusal k of member, a test, a search or a count: no other answer of theirs is over 4
abbrev pub refusal_number : ℕ → ℕ
refusal_number k = 100 + k

abbrev pub member_number : Answer Bool → ℕ
member_number (refused k) = refusal_number k
member_number (gives true) = 1
member_number (gives false) = 0

abbrev pub verdict_number : Verdict → ℕ
verdict_number point = 0
verdict_number dropped = 1
verdict_number long = 2
verdict_number wide = 3

-- 4: no such basic set
abbrev pub test_number : Answer (Option (Verdict × ℕ)) → ℕ
test_number (refused k) = refusal_number k
test_number (gives none) = 4
test_number (gives (some x)) = verdict_number x.0

-- 0 pivots where nothing is tested
abbrev pub pivots_number : Answer (Option (Verdict × ℕ)) → ℕ
pivots_number (refused k) = 0
pivots_number (gives none) = 0
pivots_number (gives (some x)) = x.1

abbrev pub outcome_number : Outcome → ℕ
outcome_number (At p) = 0
outcome_number Nothing = 1
outcome_number Spent = 2

abbrev pub search_number : Answer FirstPoint → ℕ
search_number (refused k) = refusal_number k
search_number (gives x) = outcome_number x.outcome

-- a refused search tested nothing and has no point
abbrev pub tested_in : Answer FirstPoint → ℕ
tested_in (refused k) = 0
tested_in (gives x) = x.tested

abbrev pub point_in : Answer FirstPoint → List ℤ
point_in (refused k) = padded []
point_in (gives x) = point_or_zeros x.outcome

-- the result's length; of refusal k the number 2^64 − 1 − k, which no length is
abbrev pub length_number : Answer ℕ → ℕ
length_number (refused k) = 18446744073709551615 - k
length_number (gives l) = l

-- the contract of an operation on bytes that is `a`: the number r, and the whole table of `room` bytes after the call
pub record Probed (room : ℕ) (a : Answer (List ℕ)) (r : ℕ) (table : List ℕ) : Type 0 where
  pub number : r ≡ length_number (length_of a)
  pub bytes : table ≡ table_of room a
