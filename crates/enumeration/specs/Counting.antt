-- How many points of a box are in a set, and how many with each value of one axis (document 02, 12, "How many ways").
use Rattle.std.specs.Prelude.{Bool, true, false, ◌&&◌, cond, List, [], ◌∷◌, ◌++◌, ℕ, zero, suc, ◌+◌, ◌-◌, ℤ, pos, ◌+ℤ◌, ◌-ℤ◌, leb, ltb, length, take, get_or}
use Rattle.std.proofs.Math.Option.{Option, none, some}
use Rattle.model.specs.Limits.{most_values}
use Rattle.model.specs.Refusals.{table_full, bad_point, bad_limit, bad_axis}
use Rattle.model.specs.Lists.{filter}
use Rattle.model.specs.Sets.{Set, is_zero}
use Rattle.codec.specs.Bytes.{Answer, refused, gives, decode}
use Rattle.enumeration.specs.Search.{Interval, only, box_of, passes, width, upright, corners_fit, limit_fits}

-- ---- "under the search's prefix rule .., going on past each member to the end": the members below a prefix in dictionary order, with no
-- limit, and how many prefixes are tested for them

pub record Members : Type 0 where
  pub points : List (List ℤ)
  pub tested : ℕ

abbrev pub no_members : Members
no_members = record { points = []; tested = 0 }

abbrev pub both : Members → Members → Members
both a b = record { points = a.points ++ b.points; tested = a.tested + b.tested }

abbrev pub one_test : Members → Members
one_test m = record { points = m.points; tested = suc m.tested }

-- k values upward from x, each tested and gone below if it passes
abbrev pub each_upward : (ℤ → Bool) → (ℤ → Members) → ℕ → ℤ → Members
each_upward ok inside zero x = no_members
each_upward ok inside (suc k) x =
    elim (ok x) [
      | true ↦ one_test (both (inside x) (each_upward ok inside k (x +ℤ pos 1)))
      | false ↦ one_test (each_upward ok inside k (x +ℤ pos 1))
    ]

-- below the prefix p, with the sides that are open; a prefix of length n that passes is a member. "Count each point once, in however many
-- basic sets it lies": a prefix is asked of all basic sets together
unfoldable pub members : Set → List ℤ → List Interval → Members
members s p [] = record { points = p ∷ []; tested = 0 }
members s p (b ∷ bs) = each_upward (λ (x : ℤ). passes s (p ++ (x ∷ [])) bs) (λ (x : ℤ). members s (p ++ (x ∷ [])) bs) (width b) b.low

-- "An upside-down box counts 0": no prefix is tested
abbrev pub members_in : Set → List Interval → Members
members_in s box = cond (upright box) (members s [] box) no_members

-- ---- "the number for each value of one chosen axis"

-- how many of the points have v on axis i, from 0; and one such count for each of k values upward from v
abbrev pub count_at : ℕ → ℤ → List (List ℤ) → ℕ
count_at i v ps = length (filter (λ (p : List ℤ). is_zero (get_or p i (pos 0) -ℤ v)) ps)

abbrev pub counts_from : ℕ → List (List ℤ) → ℕ → ℤ → List ℕ
counts_from i ps zero v = []
counts_from i ps (suc k) v = count_at i v ps ∷ counts_from i ps k (v +ℤ pos 1)

-- the side of axis i, from 0
abbrev pub side_at : ℕ → List Interval → Interval
side_at i box = get_or box i (only (pos 0))

-- of the chosen axis, from 1; of none no counts
abbrev pub counts_of : Option ℕ → List Interval → List (List ℤ) → List ℕ
counts_of none box ps = []
counts_of (some a) box ps = counts_from (a - 1) ps (width (side_at (a - 1) box)) (side_at (a - 1) box).low

-- ---- under the search's limit

-- the whole and the separate counts; or document 02's spent: "Spent returns no counts"
pub data Count : Type 0 where
  counted : ℕ → List ℕ → Count
  exhausted : Count

pub record Tally : Type 0 where
  pub count : Count
  pub tested : ℕ

-- spent where there are more prefixes to test than the limit
unfoldable pub count_box : Set → List Interval → Option ℕ → ℕ → Tally
count_box s box axis limit =
    let m : Members = members_in s box in
    cond (leb m.tested limit) (record { count = counted (length m.points) (counts_of axis box m.points); tested = m.tested }) (record { count = exhausted; tested = limit })

-- ---- on bytes

-- 19: "a chosen axis that isn't 1 to n or whose side has over 64 values"; not asked where no axis is chosen
abbrev pub axis_fits : ℕ → Option ℕ → List Interval → Bool
axis_fits n none box = true
axis_fits n (some a) box = ltb 0 a && (leb a n && leb (width (side_at (a - 1) box)) most_values)

-- 1 to 9 of the set, then 12, then 19, "after 12 and before 13", then 13. With no axis the whole count alone, with one the separate
-- counts beside it
unfoldable pub count_bytes : ℕ → List ℕ → List ℤ → List ℤ → Option ℕ → ℕ → Answer Tally
count_bytes n a ls hs axis limit = on_set (decode n a)
  where
    on_set : Answer Set → Answer Tally
    on_set (refused m) = refused m
    on_set (gives s) =
        cond (corners_fit n ls hs)
        (cond (axis_fits n axis (take n (box_of ls hs)))
        (cond (limit_fits limit) (gives (count_box s (take n (box_of ls hs)) axis limit)) (refused bad_limit))
        (refused bad_axis))
        (refused bad_point)

-- the separate counts in a lent table of `size` places; 11 last, where the axis has more values than that
unfoldable pub counts_bytes : ℕ → ℕ → List ℕ → List ℤ → List ℤ → ℕ → ℕ → Answer Tally
counts_bytes n size a ls hs axis limit = in_table (count_bytes n a ls hs (some axis) limit)
  where
    in_table : Answer Tally → Answer Tally
    in_table (refused m) = refused m
    in_table (gives t) = cond (leb (width (side_at (axis - 1) (take n (box_of ls hs)))) size) (gives t) (refused table_full)
