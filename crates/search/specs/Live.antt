-- The rows of the basic sets of a set, and which of these can still hold, as the first-point search keeps them.
use Rattle.std.specs.Prelude.{◌≡◌, Bool, true, false, List, [], map, ℕ, ◌-◌, ◌≤◌, ◌<◌, ℤ, length, take, get_or}
use Rattle.model.specs.Limits.{most_axes, most_basic_sets, most_coordinate}
use Rattle.model.specs.Lists.{any}
use Rattle.model.specs.Sets.{BasicSet}
use Rattle.codec.specs.Places.{basic_at, set_from}
use Rattle.bounds.specs.Ends.{Ends}
use Rattle.bounds.specs.Rows.{start_of, Row}
use Rattle.runs.specs.Upward.{widened, Reach}
use Rattle.enumeration.specs.Search.{Interval, can_hold, box_of}
use Rattle.search.specs.declared.opening.Opening.{Opening}
use Rattle.search.specs.declared.opening.Opening.TheVariants.{Open, Shut}

-- the basic set of a row
abbrev pub row_basic : List ℕ → List ℤ → BasicSet
row_basic s r = basic_at s (start_of r)

-- a row for each basic set, in their order
pub record Rows (s : List ℕ) (n : ℕ) (rows : List (List ℤ)) : Type 0 where
  pub few : length rows ≤ most_basic_sets
  pub sets : map (row_basic s) rows ≡ set_from s 0
  pub at : (b : ℕ) → b < length rows → Row s n (get_or rows b [])

-- the first count rows are in use
pub record Rowed (s : List ℕ) (n count : ℕ) (rows : List (List ℤ)) : Type 0 where
  pub inside : count ≤ length rows
  pub used : Rows s n (take count rows)

-- a basic set that is not live cannot hold over the sides
pub record Live (s : List ℕ) (xs : List Interval) (live : List Bool) : Type 0 where
  pub places : length live ≡ most_basic_sets
  pub dead : (b : ℕ) → get_or live b false ≡ false → get_or (map (can_hold xs) (set_from s 0)) b false ≡ false

-- ---- a run of values of axis k, the first of them that of the box: its side goes up to the last of m
abbrev pub wide_box : ℕ → List ℤ → List ℤ → ℕ → List Interval
wide_box k low high m = box_of low (widened k (m - 1) high)

-- basic set i cannot hold over the side of m values, or more
pub record Fails (s : List ℕ) (wide : ℕ → List Interval) (m i : ℕ) : Type 0 where
  pub reach : ℕ
  pub enough : m ≤ reach
  pub is : get_or (map (can_hold (wide reach)) (set_from s 0)) i false ≡ false

-- some basic set can hold over the sides, and these are live there
pub record Holding (s : List ℕ) (xs : List Interval) (live : List Bool) : Type 0 where
  pub some : any (can_hold xs) (set_from s 0) ≡ true
  pub still : Live s xs live

-- none can, nor for m values
pub record Failing (s : List ℕ) (xs : List Interval) (wide : ℕ → List Interval) (most m : ℕ) : Type 0 where
  pub none : any (can_hold xs) (set_from s 0) ≡ false
  pub some : 0 < m
  pub few : m ≤ most
  pub far : (i : ℕ) → Fails s wide m i

abbrev pub Tested : List ℕ → List Interval → (ℕ → List Interval) → ℕ → Opening → Type 0
Tested s xs wide most (Open live) = Holding s xs live
Tested s xs wide most (Shut m) = Failing s xs wide most m

-- m values of axis k, the first of them that of the box: over the side from the last down to the first, if they are more than one, some basic set can hold
pub record Kept (s : List ℕ) (k : ℕ) (low high : List ℤ) (most m : ℕ) : Type 0 where
  pub some : 0 < m
  pub few : m ≤ most
  pub is : 1 < m → any (can_hold (box_of (widened k (m - 1) low) high)) (set_from s 0) ≡ true

-- the sides of a box, and those that are live over the sides of up to `most` values of axis k
pub record Sided (s : List ℕ) (k : ℕ) (low high : List ℤ) (live : List Bool) (most : ℕ) : Type 0 where
  pub ends : Ends low high most_coordinate
  pub axis : k < length low
  pub lives : Live s (box_of low high) live
  pub reach : Reach k high most
  pub some : 0 < most
  pub ahead : (m : ℕ) → m ≤ most → Live s (wide_box k low high m) live

-- the first count rows are those of the basic sets, over any number of axes
pub record Laid (s : List ℕ) (rows : List (List ℤ)) (count : ℕ) : Type 0 where
  pub laid : (n : ℕ) → n ≤ most_axes → Rowed s n count rows
