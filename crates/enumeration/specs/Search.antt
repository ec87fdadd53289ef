-- The first-point search (document 01, "Asking").
use Rattle.std.specs.Prelude.{Bool, true, false, ◌&&◌, cond, List, [], ◌∷◌, ◌++◌, map, ℕ, zero, suc, ◌+◌, ℤ, pos, nat_abs, ◌+ℤ◌, ◌-ℤ◌, leb, ltb, take}
use Rattle.std.proofs.Math.Option.{Option, none, some}
use Rattle.std.specs.Int.Signed.{le_z}
use Rattle.model.specs.Limits.{most_prefixes}
use Rattle.model.specs.Refusals.{bad_point, bad_limit}
use Rattle.model.specs.Lists.{all, any}
use Rattle.model.specs.Sets.{Set}
use Rattle.codec.specs.Bytes.{Answer, refused, gives, decode}
use Rattle.query.specs.Member.{point_fits}
pub use Rattle.bounds.specs.Intervals.{Interval, only, plus, times, dot_sides, quotient_side, value_side, can_meet, can_hold, box_of}

-- "A prefix passes if in some basic set every rule can still hold": the prefix p is fixed, the sides ss are open
abbrev pub passes : Set → List ℤ → List Interval → Bool
passes s p ss = any (can_hold (map only p ++ ss)) s

-- ---- the walk with no limit, "in dictionary order, each axis upward", below passing prefixes only: the first passing prefix of
-- length n, and how many prefixes were tested. The empty prefix is not tested

pub record Walk : Type 0 where
  pub found : Option (List ℤ)
  pub tested : ℕ

-- w, then v if w found nothing
abbrev pub or_else : Walk → Walk → Walk
or_else w v = elim w.found [ some p ↦ w | none ↦ record { found = v.found; tested = w.tested + v.tested } ]

abbrev pub one_more : Walk → Walk
one_more w = record { found = w.found; tested = suc w.tested }

-- k values upward from x, each tested and gone below if it passes
abbrev pub upward : (ℤ → Bool) → (ℤ → Walk) → ℕ → ℤ → Walk
upward ok inside zero x = record { found = none; tested = 0 }
upward ok inside (suc k) x =
    elim (ok x) [
      | true ↦ one_more (or_else (inside x) (upward ok inside k (x +ℤ pos 1)))
      | false ↦ one_more (upward ok inside k (x +ℤ pos 1))
    ]

-- how many values a side has
abbrev pub width : Interval → ℕ
width s = cond (le_z s.low s.high) (suc (nat_abs (s.high -ℤ s.low))) 0

-- below the prefix p, with the sides that are open
unfoldable pub walk : Set → List ℤ → List Interval → Walk
walk s p [] = record { found = some p; tested = 0 }
walk s p (b ∷ bs) = upward (λ (x : ℤ). passes s (p ++ (x ∷ [])) bs) (λ (x : ℤ). walk s (p ++ (x ∷ [])) bs) (width b) b.low

-- ---- with the limit: "spent comes when the limit has been tested and neither is yet known"; `nothing` is document 01's none

pub data Found : Type 0 where
  at : List ℤ → Found
  nothing spent : Found

pub record Tallied : Type 0 where
  pub found : Found
  pub tested : ℕ

abbrev pub found_of : Option (List ℤ) → Found
found_of none = nothing
found_of (some p) = at p

unfoldable pub first_point : Set → List Interval → ℕ → Tallied
first_point s box limit =
    let w : Walk = walk s [] box in
    cond (leb w.tested limit) (record { found = found_of w.found; tested = w.tested }) (record { found = spent; tested = limit })

-- ---- of a window that may be shut (02, request 7)

-- no low is over its high
abbrev pub upright : List Interval → Bool
upright box = all (λ (s : Interval). le_z s.low s.high) box

-- "none with a tally of 0"
abbrev pub shut : Tallied
shut = record { found = nothing; tested = 0 }

-- "Let the search answer none with a tally of 0 there": no prefix is tested, wherever the low over its high is
unfoldable pub search_box : Set → List Interval → ℕ → Tallied
search_box s box limit = cond (upright box) (first_point s box limit) shut

-- ---- on bytes: 1 to 9 of the set, then 12, then 13

-- 12 of a search's lows and highs: "A coordinate out of range or an absent axis not 0 is still 12"
abbrev pub corners_fit : ℕ → List ℤ → List ℤ → Bool
corners_fit n ls hs = point_fits n ls && point_fits n hs

-- 12 of a box that may not be shut: "the range question of the scales still refuses such a box"
abbrev pub box_fits : ℕ → List ℤ → List ℤ → Bool
box_fits n ls hs = corners_fit n ls hs && upright (box_of ls hs)

-- 13
abbrev pub limit_fits : ℕ → Bool
limit_fits limit = ltb 0 limit && leb limit most_prefixes

unfoldable pub search_bytes : ℕ → List ℕ → List ℤ → List ℤ → ℕ → Answer Tallied
search_bytes n a ls hs limit = on_set (decode n a)
  where
    on_set : Answer Set → Answer Tallied
    on_set (refused m) = refused m
    on_set (gives s) =
        cond (corners_fit n ls hs)
        (cond (limit_fits limit) (gives (search_box s (take n (box_of ls hs)) limit)) (refused bad_limit))
        (refused bad_point)
