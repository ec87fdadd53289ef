-- Ends of sides as lists of numbers, and what is known of them on the way through the checked bytes of a basic set.
use Rattle.std.specs.Prelude.{◌≡◌, Bool, cond, List, [], ◌∷◌, map, ℕ, ◌≤◌, ◌<◌, ℤ, pos, ◌+ℤ◌, ◌*ℤ◌, length, take, drop, get_or}
use Rattle.std.specs.Int.Signed.{non_neg}
use Rattle.integers.specs.Z.{Within}
use Rattle.model.specs.Limits.{most_axes, most_divisions, coefficient_places}
use Rattle.model.specs.Sets.{Constraint}
use Rattle.codec.specs.Places.{built, Past}
use Rattle.codec.specs.declared.layout.Passed.{Passed}
use Rattle.bounds.specs.Sizes.{most_move, most_quotient}
use Rattle.bounds.specs.Intervals.{Interval, quotient_side, value_side, can_meet, box_of}

-- every element is at most n in size
pub record AllWithin (n : ℕ) (xs : List ℤ) : Type 0 where
  pub at : (i : ℕ) → Within n (get_or xs i (pos 0))

abbrev pub side : ℤ → ℤ → Interval
side l h = record { low = l; high = h }

-- the greatest sum of coefficients times sides from v to u; with u and v exchanged the least
abbrev pub best : List ℤ → List ℤ → List ℤ → ℤ
best [] us vs = pos 0
best (a ∷ cs) [] vs = pos 0
best (a ∷ cs) (u ∷ us) [] = pos 0
best (a ∷ cs) (u ∷ us) (v ∷ vs) = a *ℤ cond (non_neg a) u v +ℤ best cs us vs

-- what that sum gains where u and v of axis k go up by f and t
abbrev pub gain : ℕ → ℤ → ℤ → List ℤ → ℤ
gain k f t cs = get_or cs k (pos 0) *ℤ cond (non_neg (get_or cs k (pos 0))) f t

-- the ends of as many sides, none beyond n in size
pub record Ends (u v : List ℤ) (n : ℕ) : Type 0 where
  pub few : length u ≤ coefficient_places
  pub same : length v ≡ length u
  pub lows : AllWithin n u
  pub highs : AllWithin n v

-- how far the ends of axis k move
pub record Step (k : ℕ) (from to : ℤ) : Type 0 where
  pub axis : k < most_axes
  pub from_size : Within most_move from
  pub to_size : Within most_move to

-- low and high begin with the ends of the values of the divisions from a place on, which d has passed
pub record Bounded (s : List ℕ) (start : ℕ) (xs : List Interval) (low high : List ℤ) (d : Passed) : Type 0 where
  pub few : d.count ≤ most_divisions
  pub count : d.count ≡ length (built (drop start s)).divisions
  pub is : box_of (take d.count low) (take d.count high) ≡ map (quotient_side xs) (built (drop start s)).divisions
  pub lows : length low ≡ most_divisions
  pub highs : length high ≡ most_divisions
  pub low_size : AllWithin most_quotient low
  pub high_size : AllWithin most_quotient high
  pub past : Past s start d.next

-- the ends of a constraint: l and h those of its axes' part before axis k has moved, ql and qh those of the divisions' values
abbrev pub meet_side : ℕ → ℤ → ℤ → ℤ → ℤ → List ℤ → List ℤ → Constraint → Interval
meet_side k from to l h ql qh c =
    side (c.constant +ℤ (l +ℤ gain k from to c.axes) +ℤ best c.divisions ql qh) (c.constant +ℤ (h +ℤ gain k to from c.axes) +ℤ best c.divisions qh ql)

-- a constraint can hold by itself, over sides of the axes and of the divisions' values
abbrev pub can_stand : List Interval → List Interval → Constraint → Bool
can_stand xs qs c = can_meet c.kind (value_side xs qs c)
