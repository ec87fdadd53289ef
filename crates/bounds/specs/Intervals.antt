-- The least and the greatest value of divisions and constraints over a box, and whether a basic set can hold there (document 01, "Asking").
use Rattle.std.specs.Prelude.{Bool, ◌&&◌, cond, List, [], ◌∷◌, map, ℤ, pos, ◌+ℤ◌, ◌*ℤ◌}
use Rattle.std.specs.Int.Signed.{non_neg, le_z}
use Rattle.model.specs.Lists.{all}
use Rattle.model.specs.Sets.{Division, Kind, equality, inequality, Constraint, BasicSet, floor_div}

-- a side of a box: from low to high
pub record Interval : Type 0 where
  pub low : ℤ
  pub high : ℤ

-- ---- the least and the greatest value of an expression over intervals, each axis and division by itself

abbrev pub only : ℤ → Interval
only z = record { low = z; high = z }

abbrev pub plus : Interval → Interval → Interval
plus s t = record { low = s.low +ℤ t.low; high = s.high +ℤ t.high }

abbrev pub times : ℤ → Interval → Interval
times a s = record { low = a *ℤ cond (non_neg a) s.low s.high; high = a *ℤ cond (non_neg a) s.high s.low }

abbrev pub dot_sides : List ℤ → List Interval → Interval
dot_sides [] ss = only (pos 0)
dot_sides (a ∷ us) [] = only (pos 0)
dot_sides (a ∷ us) (s ∷ ss) = plus (times a s) (dot_sides us ss)

-- "each division the floors of its numerator's least and greatest value"
abbrev pub quotient_side : List Interval → Division → Interval
quotient_side ss e =
    let n : Interval = plus (only e.constant) (dot_sides e.axes ss) in
    record { low = floor_div n.low e.divisor; high = floor_div n.high e.divisor }

abbrev pub value_side : List Interval → List Interval → Constraint → Interval
value_side xs qs r = plus (only r.constant) (plus (dot_sides r.axes xs) (dot_sides r.divisions qs))

-- a value between the two can be = 0, or ≥ 0
abbrev pub can_meet : Kind → Interval → Bool
can_meet equality s = le_z s.low (pos 0) && non_neg s.high
can_meet inequality s = non_neg s.high

-- every constraint (rule) of a basic set can still hold, each judged by itself
abbrev pub can_hold : List Interval → BasicSet → Bool
can_hold xs b = all (λ (r : Constraint). can_meet r.kind (value_side xs (map (quotient_side xs) b.divisions) r)) b.constraints

-- a box by the lows and the highs of its sides
abbrev pub box_of : List ℤ → List ℤ → List Interval
box_of [] hs = []
box_of (l ∷ ls) [] = []
box_of (l ∷ ls) (h ∷ hs) = record { low = l; high = h } ∷ box_of ls hs
