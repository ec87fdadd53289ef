-- What the first-point search's code computes: ends of sums over the sides of a box, and the walk with what is left of the limit.
use Rattle.std.specs.Prelude.{◌≡◌, true, cond, List, [], ℕ, ◌+◌, ◌-◌, ◌≤◌, ◌<◌, leb, ℤ, pos, ◌≤ℤ◌, length, take, drop, get_or, replicate}
use Rattle.model.specs.Limits.{most_axes, most_coordinate}
use Rattle.codec.specs.Bytes.{Answer, refused, gives, decode, number}
use Rattle.codec.specs.Places.{Accepted}
use Rattle.enumeration.specs.Search.{Interval, box_of, Walk, Found, at, nothing, spent, Tallied, found_of, box_fits}
pub use Rattle.query.specs.Member.{padded}
pub use Rattle.bounds.specs.Ends.{side}
use Rattle.bounds.specs.Ends.{AllWithin}
use Rattle.search.specs.declared.levels.Outcome.{Outcome}
use Rattle.search.specs.declared.levels.Outcome.TheVariants.{At, Nothing, Spent}
use Rattle.search.specs.declared.first.FirstPoint.{FirstPoint}

-- ---- the walk

-- the walk's answer if t prefixes were tested before it
abbrev pub limited : ℕ → ℕ → Walk → Tallied
limited limit t w = cond (leb (t + w.tested) limit) (record { found = found_of w.found; tested = t + w.tested }) (record { found = spent; tested = limit })

-- n sides of a box
abbrev pub sides_of : ℕ → List ℤ → List ℤ → List Interval
sides_of n low high = box_of (take n low) (take n high)

-- the sides of a box whose first k axes are fixed
pub record Standing (s : List ℕ) (n k : ℕ) (low high : List ℤ) : Type 0 where
  pub accepted : Accepted s
  pub axes : n ≤ most_axes
  pub left : k < n
  pub lows : length low ≡ most_axes
  pub highs : length high ≡ most_axes
  pub low_size : AllWithin most_coordinate low
  pub high_size : AllWithin most_coordinate high
  pub ordered : (i : ℕ) → get_or low i (pos 0) ≤ℤ get_or high i (pos 0)
  pub fixed : take k low ≡ take k high
  pub absent : drop n low ≡ replicate (most_axes - n) (pos 0)

-- checked bytes, and a box that fits their axes and is not shut
pub record Boxed (n : ℕ) (s : List ℕ) (low high : List ℤ) : Type 0 where
  pub accepted : number (decode n s) ≡ 0
  pub box : box_fits n low high ≡ true

-- the code's answer of a walk: a point has 0 on absent axes
abbrev pub outcome_of : Found → Outcome
outcome_of (at p) = At (padded p)
outcome_of nothing = Nothing
outcome_of spent = Spent

abbrev pub trail_of : Tallied → FirstPoint
trail_of t = record { outcome = outcome_of t.found; tested = t.tested }

abbrev pub point_or_zeros : Outcome → List ℤ
point_or_zeros (At p) = p
point_or_zeros Nothing = padded []
point_or_zeros Spent = padded []

-- the answers of a search
abbrev pub answer_of : Answer Tallied → Answer FirstPoint
answer_of (refused m) = refused m
answer_of (gives t) = gives (trail_of t)
