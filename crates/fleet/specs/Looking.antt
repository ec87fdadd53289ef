-- What the code knows on its way, and what its answers mean.
use Rattle.std.specs.Prelude.{◌≡◌, Bool, false, ◌||◌, List, ℕ, ◌*◌, ◌≤◌, ◌<◌, ℤ, length, take, drop, get_or, Result}
use Rattle.model.specs.Limits.{most_axes, most_coordinate, most_points}
use Rattle.model.specs.Sets.{in_basic, in_set}
use Rattle.codec.specs.Bytes.{Answer, refused, gives}
use Rattle.codec.specs.Places.{basic_at, set_from}
use Rattle.bounds.specs.Ends.{AllWithin}
use Rattle.fleet.specs.Fleet.{Fleet}
use Rattle.fleet.specs.declared.looks.Seen.{Seen}
use Rattle.model.specs.declared.refusal.Refusal.{Refusal}
use Rattle.codec.specs.Refusing.{answer_is}

-- k points of n coordinates each, none beyond the range of a coordinate
pub record Points (n k : ℕ) (xs : List ℤ) : Type 0 where
  pub axes : n ≤ most_axes
  pub few : k ≤ most_points
  pub size : length xs ≡ n * k
  pub range : AllWithin most_coordinate xs

-- point j, from 0, of the list
abbrev pub point_at : ℕ → List ℤ → ℕ → List ℤ
point_at n xs j = take n (drop (n * j) xs)

-- the flags after the basic set at a place: also the points that it holds
pub record Marked (s : List ℕ) (start n : ℕ) (xs : List ℤ) (k : ℕ) (flags r : List Bool) : Type 0 where
  pub size : length r ≡ most_points
  pub is : (j : ℕ) → j < k → get_or r j false ≡ (get_or flags j false || in_basic (point_at n xs j) (basic_at s start))

-- the flags after all basic sets
pub record Walked (s : List ℕ) (n : ℕ) (xs : List ℤ) (k : ℕ) (r : List Bool) : Type 0 where
  pub size : length r ≡ most_points
  pub is : (j : ℕ) → j < k → get_or r j false ≡ in_set (point_at n xs j) (set_from s 0)

abbrev pub seen_is : Seen → Fleet
seen_is s = record { mask = s.mask; count = s.count }

-- the answers of a look
abbrev pub fleet_is : Result Seen Refusal → Answer Fleet
fleet_is r = answer_is seen_is r

-- "A refused answer carries its number and otherwise zeros" (document 01, "Refused")
abbrev pub mask_in : Answer Fleet → ℕ
mask_in (refused k) = 0
mask_in (gives f) = f.mask

abbrev pub itself : Bool → Bool
itself b = b
