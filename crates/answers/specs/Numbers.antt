-- What the board's host gets (document 01, "Asking"): 1 or 0 for member, the result's length for an operation, minus the number for a
-- refusal; and for a count (document 02, 12) the number of points, or for spent a number that no refusal has.
use Rattle.std.specs.Prelude.{◌≡◌, Bool, true, false, List, [], ℕ, ◌≤◌, ℤ, pos, neg_ℤ, ◌+ℤ◌, ◌*ℤ◌, Option, Some, None}
use Rattle.std.specs.Int.{w64}
use Rattle.std.proofs.Common.{to_z}
use Rattle.codec.specs.Places.{longest_set}
use Rattle.codec.specs.Bytes.{Answer, refused, gives}
use Rattle.algebra.specs.Result.{length_of, table_of}
use Rattle.enumeration.specs.Counting.{Tally}
use Rattle.counting.specs.Answers.{counted_is, table_is}
use Rattle.counting.specs.declared.levels.Counted.{Counted}
use Rattle.fleet.specs.Fleet.{Fleet}
use Rattle.fleet.specs.Looking.{mask_in}
use Rattle.optimum.specs.Value.{Extreme, empty, unbounded, too_wide, too_long, attained}
use Rattle.extremes.specs.Words.{value_words}
use Rattle.query.specs.Member.{padded}
use Rattle.boxes.specs.Range as R
use Rattle.coverage.specs.Readings.{reading_is, inside_of, outside_of, bytes_in}
use Rattle.coverage.specs.declared.ranges.Range.{Range}
use Rattle.coverage.specs.declared.ranges.Range.TheVariants.{Sure, Never, Depends, SpentInside, SpentOutside}
use Rattle.coverage.specs.declared.ranges.Reading.{Reading}
use Rattle.model.specs.Sets.{Constraint}
use Rattle.model.specs.Values.{kind_is}
use Rattle.memory.specs.Memory.{Memory}
use Rattle.states.specs.Calls.{Step, Saying, Point, Empty, Wide, Long, Refused, Misused}

abbrev pub member_number : Answer Bool → ℤ
member_number (refused k) = neg_ℤ (pos k)
member_number (gives true) = pos 1
member_number (gives false) = pos 0

abbrev pub length_number : Answer ℕ → ℤ
length_number (refused k) = neg_ℤ (pos k)
length_number (gives l) = pos l

-- the contract of an operation on bytes that is `a`: the number r, and the whole table of `room` bytes after the call
pub record Hosted (room : ℕ) (a : Answer (List ℕ)) (r : ℤ) (table : List ℕ) : Type 0 where
  pub number : r ≡ length_number (length_of a)
  pub bytes : table ≡ table_of room a

-- no accepted set has more bytes: the length of a result is a number of the host
abbrev pub Short : Answer ℕ → Type 0
Short (refused k) = Unit {0}
Short (gives l) = l ≤ longest_set

-- a count: the number of members w; −1000 for spent
abbrev pub whole_number : Option ℕ → ℤ
whole_number (Some w) = pos w
whole_number None = neg_ℤ (pos 1000)

abbrev pub outcome_number : Answer Counted → ℤ
outcome_number (refused k) = neg_ℤ (pos k)
outcome_number (gives c) = whole_number c.whole

abbrev pub count_number : Answer Tally → ℤ
count_number a = outcome_number (counted_is a)

-- a refused count tested nothing
abbrev pub tested_in : Answer Counted → ℕ
tested_in (refused k) = 0
tested_in (gives c) = c.tested

-- the contract of a count that is `a`: the number r, and how many prefixes were tested
pub record CountHosted (a : Answer Tally) (r : ℤ) (tested : ℕ) : Type 0 where
  pub number : r ≡ count_number a
  pub prefixes : tested ≡ tested_in (counted_is a)

-- the same, and the whole table of `size` places after the call
pub record CountsHosted (size : ℕ) (a : Answer Tally) (r : ℤ) (table : List ℕ) (tested : ℕ) : Type 0 where
  pub answer : CountHosted a r tested
  pub counts : table ≡ table_is size a

-- of a fleet (02, request 2): how many of the points are in the set
abbrev pub fleet_number : Answer Fleet → ℤ
fleet_number (refused k) = neg_ℤ (pos k)
fleet_number (gives f) = pos f.count

-- the contract of a look whose answer on bytes is `a`: the number r, and the mask after the call
pub record Fleeted (a : Answer Fleet) (r : ℤ) (mask : ℕ) : Type 0 where
  pub number : r ≡ fleet_number a
  pub bits : mask ≡ mask_in a

-- of an extreme value (02, request 11): whether there is one, in which words, or why there is none
abbrev pub extreme_number : Extreme → ℤ
extreme_number (attained p q) = pos 1
extreme_number empty = pos 2
extreme_number unbounded = pos 3
extreme_number too_wide = pos 4
extreme_number too_long = pos 5

abbrev pub extent_number : Answer Extreme → ℤ
extent_number (refused k) = neg_ℤ (pos k)
extent_number (gives x) = extreme_number x

-- the contract of a call whose answer on bytes is `a`: the number r, and the four words after the call
pub record ValueHosted (a : Answer Extreme) (r : ℤ) (words : List ℕ) : Type 0 where
  pub number : r ≡ extent_number a
  pub value : words ≡ value_words a

-- a number of two words as C has it: the higher one signed
abbrev pub wide_of : ℕ → ℕ → ℤ
wide_of low high = to_z w64 high *ℤ pos 18446744073709551616 +ℤ pos low

-- of a range (02, request 5)
abbrev pub range_number : Range → ℤ
range_number Sure = pos 1
range_number Never = pos 2
range_number (Depends p q) = pos 3
range_number SpentInside = pos 4
range_number SpentOutside = pos 5

abbrev pub reading_number : Answer Reading → ℤ
reading_number (refused k) = neg_ℤ (pos k)
reading_number (gives x) = range_number x.range

-- a refused range has no difference and no points
abbrev pub size_in : Answer Reading → ℕ
size_in (refused k) = 0
size_in (gives x) = x.length

abbrev pub inside_in : Answer Reading → List ℤ
inside_in (refused k) = padded []
inside_in (gives x) = inside_of x.range

abbrev pub outside_in : Answer Reading → List ℤ
outside_in (refused k) = padded []
outside_in (gives x) = outside_of x.range

-- the contract of a range that is `a`: the number r, the whole table of `room` bytes after the call, how many of them are the difference of
-- the box and the set, and the two points
pub record RangeHosted (room : ℕ) (a : Answer R.Reading) (r : ℤ) (table : List ℕ) (size : ℕ) (inside outside : List ℤ) : Type 0 where
  pub number : r ≡ reading_number (reading_is a)
  pub bytes : table ≡ table_of room (bytes_in a)
  pub length : size ≡ size_in (reading_is a)
  pub first_inside : inside ≡ inside_in (reading_is a)
  pub first_outside : outside ≡ outside_in (reading_is a)

-- of a state (02, request 8): its word, 0 where there is no state
abbrev pub said_number : Saying → ℤ
said_number Misused = pos 0
said_number Point = pos 1
said_number Empty = pos 2
said_number Wide = pos 3
said_number Long = pos 4
said_number (Refused k) = neg_ℤ (pos k)

-- a rule's numbers
abbrev pub rule_by : Bool → ℤ → List ℤ → List ℤ → Constraint
rule_by equality constant axes divisions = record { kind = kind_is equality; number = 0; constant = constant; axes = axes; divisions = divisions }

-- the contract of a call on a state that is `a`: the number r, and every word of the four tables after the call
pub record StateHosted (a : Step) (r : ℤ) (tables : Memory) : Type 0 where
  pub number : r ≡ said_number a.said
  pub words : tables ≡ a.memory
