-- A whole fleet at one look (document 02, request 2).
use Rattle.std.specs.Prelude.{Bool, true, false, ◌&&◌, cond, List, [], ◌∷◌, ℕ, zero, suc, ◌+◌, ◌*◌, ◌/◌, ◌%◌, eqb, leb, ℤ, length, take, drop}
use Rattle.std.specs.Int.Count.{ones}
use Rattle.model.specs.Limits.{most_points}
use Rattle.model.specs.Refusals.{bad_point, bad_fleet}
use Rattle.model.specs.Lists.{all}
use Rattle.model.specs.Sets.{Set, in_set}
use Rattle.codec.specs.Bytes.{Answer, refused, gives, decode}
use Rattle.query.specs.Member.{coordinate}

-- "a list of points, 32-bit coordinates with n to a point": the first k points of the list
abbrev pub points_of : ℕ → ℕ → List ℤ → List (List ℤ)
points_of n zero xs = []
points_of n (suc k) xs = take n xs ∷ points_of n k (drop n xs)

-- 16: "more than 64 points or a list that isn't a whole number of points"
abbrev pub list_fits : ℕ → List ℤ → Bool
list_fits n xs = eqb (length xs % n) 0 && leb (length xs / n) most_points

abbrev pub bit : Bool → ℕ
bit true = 1
bit false = 0

-- "a 64-bit mask, point 1 in the lowest bit": of the points that pass a test
module _ {A : Type 0} where
  unfoldable pub mask_of : (A → Bool) → List A → ℕ
  mask_of f [] = 0
  mask_of f (x ∷ xs) = mask_of f xs * 2 + bit (f x)

-- "and how many of them may run, which is the count of one-bits"
pub record Fleet : Type 0 where
  pub mask : ℕ
  pub count : ℕ

abbrev pub counted : ℕ → Fleet
counted m = record { mask = m; count = ones m }

abbrev pub holding : Set → List ℤ → Bool
holding s x = in_set x s

abbrev pub fleet_of : Set → List (List ℤ) → Fleet
fleet_of s ps = counted (mask_of (holding s) ps)

-- the set's own numbers, 16, then 12: "One bad coordinate refuses the list"
unfoldable pub fleet_bytes : ℕ → List ℕ → List ℤ → Answer Fleet
fleet_bytes n a xs = on_set (decode n a)
  where
    on_set : Answer Set → Answer Fleet
    on_set (refused m) = refused m
    on_set (gives s) =
        cond (list_fits n xs) (cond (all coordinate xs) (gives (fleet_of s (points_of n (length xs / n) xs))) (refused bad_point)) (refused bad_fleet)
