-- What a level of a count is asked and says, in the code's own structs.
use Rattle.std.specs.Prelude.{◌≡◌, Option, Some, None, List, [], ◌∷◌, ℕ, zero, suc, ◌+◌, ◌≤◌, ◌<◌, ℤ, pos, ◌+ℤ◌, length, take, drop, get_or, set, replicate}
use Rattle.codec.specs.Places.{set_from}
use Rattle.integers.specs.Z.{Within}
use Rattle.model.specs.Limits.{most_axes, most_coordinate}
use Rattle.bounds.specs.Sizes.{most_move}
use Rattle.bounds.specs.Ends.{AllWithin}
use Rattle.search.specs.Sides.{sides_of}
use Rattle.search.specs.Levels.{Lasting}
use Rattle.search.specs.declared.levels.Prefix.{Prefix}
use Rattle.enumeration.specs.Counting.{Members, members, count_at}
use Rattle.counting.specs.declared.levels.Chosen.{Chosen}
use Rattle.counting.specs.declared.levels.Counted.{Counted}

-- the members below a prefix
abbrev pub members_at : List ℕ → Prefix → Members
members_at s p = members (set_from s 0) (take p.k p.low) (drop p.k (sides_of p.n p.low p.high))

-- the points are counted in the table: place j has those with value first + j on the axis
pub record Added (c : Chosen) (ps : List (List ℤ)) (each each' : List ℕ) : Type 0 where
  pub places : length each' ≡ length each
  pub at : (j : ℕ) → j < length each → get_or each' j 0 ≡ get_or each j 0 + count_at c.axis (c.first +ℤ pos j) ps

-- no count is over t
pub record AtMost (t : ℕ) (each : List ℕ) : Type 0 where
  pub at : (j : ℕ) → get_or each j 0 ≤ t

-- m more fit at each place
pub record Room (m : ℕ) (each : List ℕ) : Type 0 where
  pub at : (j : ℕ) → get_or each j 0 + m ≤ 4294967295

-- m times a point that has v on the axis, whose first value is f
pub record Raised (f v : ℤ) (m : ℕ) (each each' : List ℕ) : Type 0 where
  pub notes : (c : Chosen) (p : List ℤ) → c.first ≡ f → get_or p c.axis (pos 0) ≡ v → Added c (replicate m p) each each'

-- m points one after the other on axis k, from value number i of its side on
abbrev pub line_of : List ℤ → ℕ → ℕ → ℕ → List (List ℤ)
line_of low k i zero = []
line_of low k i (suc m) = set low k (get_or low k (pos 0) +ℤ pos i) ∷ line_of low k (i + 1) m

-- these values are coordinates
pub record Along (low : List ℤ) (k i m : ℕ) : Type 0 where
  pub axis : k < most_axes
  pub lows : length low ≡ most_axes
  pub size : AllWithin most_coordinate low
  pub few : i + m ≤ suc most_move
  pub at : (j : ℕ) → j < m → Within most_coordinate (get_or low k (pos 0) +ℤ pos (i + j))

-- m values pass, and their points are counted in the table
pub record Gathered (s : List ℕ) (p : Prefix) (i t : ℕ) (c : Chosen) (m : ℕ) (each each' : List ℕ) : Type 0 where
  pub lasts : Lasting s p i t m
  pub added : Added c (line_of p.low p.k i m) each each'

abbrev pub counted : Option ℕ → ℕ → Counted
counted whole tested = record { whole = whole; tested = tested }

-- the members m, t prefixes having been tested before them: all counted, or the limit came first
pub data Summed (limit t : ℕ) (c : Chosen) (m : Members) (each : List ℕ) : Counted → List ℕ → Type 0 where
  within : t + m.tested ≤ limit → (each' : List ℕ) → Added c m.points each each'
      → Summed limit t c m each (counted (Some (length m.points)) (t + m.tested)) each'
  beyond : limit < t + m.tested → (each' : List ℕ) → length each' ≡ length each
      → Summed limit t c m each (counted None limit) each'
