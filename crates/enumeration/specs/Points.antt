-- All points of a box in dictionary order, each axis upward.
use Rattle.std.specs.Prelude.{List, [], ◌∷◌, ◌++◌, map, ℕ, zero, suc, ℤ, pos, ◌+ℤ◌}
use Rattle.enumeration.specs.Search.{Interval, width}

-- each of k values upward from x, in front of each of the points
abbrev pub points_up : List (List ℤ) → ℕ → ℤ → List (List ℤ)
points_up ps zero x = []
points_up ps (suc k) x = map (λ (p : List ℤ). x ∷ p) ps ++ points_up ps k (x +ℤ pos 1)

abbrev pub points_in : List Interval → List (List ℤ)
points_in [] = [] ∷ []
points_in (b ∷ bs) = points_up (points_in bs) (width b) b.low
