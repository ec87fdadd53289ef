-- What tests and benchmarks in C get for a range.
use Rattle.std.specs.Prelude.{◌≡◌, ℕ, List, ℤ}
use Rattle.codec.specs.Bytes.{Answer, refused, gives}
use Rattle.algebra.specs.Result.{table_of}
use Rattle.boxes.specs.Range as R
use Rattle.coverage.specs.Readings.{reading_is, bytes_in}
use Rattle.coverage.specs.declared.ranges.Range.{Range}
use Rattle.coverage.specs.declared.ranges.Range.TheVariants.{Sure, Never, Depends, SpentInside, SpentOutside}
use Rattle.coverage.specs.declared.ranges.Reading.{Reading}
use Rattle.answers.specs.Numbers.{size_in, inside_in, outside_in}
use Rattle.probe.specs.Numbers.{refusal_number}

abbrev pub range_number : Range → ℕ
range_number Sure = 0
range_number Never = 1
range_number (Depends p q) = 2
range_number SpentInside = 3
range_number SpentOutside = 4

abbrev pub reading_number : Answer Reading → ℕ
reading_number (refused k) = refusal_number k
reading_number (gives x) = range_number x.range

-- the contract of a range that is `a`: the number r, the whole table of `room` bytes after the call, how many of them are the difference of
-- the box and the set, and the two points
pub record RangeProbed (room : ℕ) (a : Answer R.Reading) (r : ℕ) (table : List ℕ) (size : ℕ) (inside outside : List ℤ) : Type 0 where
  pub number : r ≡ reading_number (reading_is a)
  pub bytes : table ≡ table_of room (bytes_in a)
  pub length : size ≡ size_in (reading_is a)
  pub first_inside : inside ≡ inside_in (reading_is a)
  pub first_outside : outside ≡ outside_in (reading_is a)
