-- Scale readings as ranges (document 02, 5): whether every point of a box is in a set, or none is, or it depends.
use Rattle.std.specs.Prelude.{cond, ◌&&◌, List, ℕ, ℤ, take}
use Rattle.model.specs.Refusals.{bad_point, bad_limit}
use Rattle.model.specs.Sets.{Set}
use Rattle.codec.specs.Bytes.{Answer, refused, gives, decode}
use Rattle.enumeration.specs.Search.{box_of, Found, at, nothing, spent, search_box, box_fits, limit_fits}
use Rattle.boxes.specs.Box.{outside, outside_result}

-- "`sure` when every point of the box is in the set, `never` when no point is, `depends` otherwise, with one point of each kind", first
-- the one in the set; "when either runs out the answer is `spent`, naming the first that did": the search of the set, or that of the
-- points outside it
pub data Range : Type 0 where
  sure never : Range
  depends : List ℤ → List ℤ → Range
  spent_inside spent_outside : Range

-- by what was found in the set, and what outside it. Both find nothing in no box that fits (proofs/Truth `sure-never`)
abbrev pub ranged : Found → Found → Range
ranged spent o = spent_inside
ranged nothing o = elim o [ spent ↦ spent_outside | nothing ↦ never | at q ↦ never ]
ranged (at p) o = elim o [ spent ↦ spent_outside | nothing ↦ sure | at q ↦ depends p q ]

-- "Both searches are made, each with its own limit": j of the set, k of the points outside it
unfoldable pub range_in : ℕ → Set → List ℤ → List ℤ → ℕ → ℕ → Range
range_in n s ls hs j k = ranged (search_box s (take n (box_of ls hs)) j).found (search_box (outside n ls hs s) (take n (box_of ls hs)) k).found

-- the range, and the bytes of the points outside: "the difference stays in the lent table"
pub record Reading : Type 0 where
  pub range : Range
  pub bytes : List ℕ

abbrev pub read : Range → Answer (List ℕ) → Answer Reading
read r (refused m) = refused m
read r (gives l) = gives (record { range = r; bytes = l })

-- "The numbers of search and of difference apply, in that order": the set's own, 12 of a box out of range or shut ("the range question
-- of the scales still refuses such a box"), 13 of either limit, 10, 11
unfoldable pub range_bytes : ℕ → ℕ → List ℕ → List ℤ → List ℤ → ℕ → ℕ → Answer Reading
range_bytes n room a ls hs j k = on_set (decode n a)
  where
    on_set : Answer Set → Answer Reading
    on_set (refused m) = refused m
    on_set (gives s) =
        cond (box_fits n ls hs)
        (cond (limit_fits j && limit_fits k) (read (range_in n s ls hs j k) (outside_result n room ls hs s)) (refused bad_limit))
        (refused bad_point)
