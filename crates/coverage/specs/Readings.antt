-- The answers of a range, and the lent table.
use Rattle.std.specs.Prelude.{◌≡◌, Result, List, [], ℕ, ℤ, length}
use Rattle.model.specs.declared.refusal.Refusal.{Refusal}
use Rattle.codec.specs.Bytes.{Answer, refused, gives}
use Rattle.codec.specs.Refusing.{answer_is}
use Rattle.algebra.specs.Result.{table_of}
use Rattle.query.specs.Member.{padded}
use Rattle.search.specs.declared.levels.Outcome.{Outcome}
use Rattle.search.specs.declared.levels.Outcome.TheVariants as O
use Rattle.boxes.specs.Range as R
use Rattle.boxes.specs.Range.{sure, never, depends, spent_inside, spent_outside}
use Rattle.coverage.specs.declared.ranges.Range.{Range}
use Rattle.coverage.specs.declared.ranges.Range.TheVariants.{Sure, Never, Depends, SpentInside, SpentOutside}
use Rattle.coverage.specs.declared.ranges.Reading.{Reading}

-- ---- by how the two searches ended: that of the set first
abbrev pub with_none : Outcome → Range
with_none (O.At q) = Never
with_none O.Nothing = Never
with_none O.Spent = SpentOutside

abbrev pub with_point : List ℤ → Outcome → Range
with_point p (O.At q) = Depends p q
with_point p O.Nothing = Sure
with_point p O.Spent = SpentOutside

abbrev pub range_by : Outcome → Outcome → Range
range_by (O.At p) o = with_point p o
range_by O.Nothing o = with_none o
range_by O.Spent o = SpentInside

-- ---- "Only `depends` carries points, and no tally is given": zeros otherwise
abbrev pub inside_of : Range → List ℤ
inside_of Sure = padded []
inside_of Never = padded []
inside_of (Depends p q) = p
inside_of SpentInside = padded []
inside_of SpentOutside = padded []

abbrev pub outside_of : Range → List ℤ
outside_of Sure = padded []
outside_of Never = padded []
outside_of (Depends p q) = q
outside_of SpentInside = padded []
outside_of SpentOutside = padded []

-- ---- the range, its points with 0 on absent axes; the length of the difference
abbrev pub told_of : R.Range → Range
told_of sure = Sure
told_of never = Never
told_of (depends p q) = Depends (padded p) (padded q)
told_of spent_inside = SpentInside
told_of spent_outside = SpentOutside

abbrev pub reading_of : R.Range → ℕ → Reading
reading_of r l = record { range = told_of r; length = l }

abbrev pub reading_is : Answer R.Reading → Answer Reading
reading_is (refused k) = refused k
reading_is (gives x) = gives (reading_of x.range (length x.bytes))

-- "the difference stays in the lent table", 0 behind it; all 0 after a refusal
abbrev pub bytes_in : Answer R.Reading → Answer (List ℕ)
bytes_in (refused k) = refused k
bytes_in (gives x) = gives x.bytes

-- the contract of a range that is `a`: the answer, and the whole table of `room` bytes after the call
pub record RangeIs (room : ℕ) (a : Answer R.Reading) (r : Result Reading Refusal) (table : List ℕ) : Type 0 where
  pub answer : answer_is (λ x. x) r ≡ reading_is a
  pub bytes : table ≡ table_of room (bytes_in a)
