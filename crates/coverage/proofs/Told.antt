-- The answer of a range by those of its two searches.
use mathlib.Core.Path.{◌≡◌, refl, sym, ap, ap₂, ◌∙◌}
use mathlib.Core.Bool.{Bool, true, ◌&&◌, cond}
use mathlib.Core.List.{List}
use Prim.Native.Nat.{ℕ}
use lib.IntN.{ℤ}
use lib.ListN.{take}
use Rattle.codec.specs.Bytes.{Answer, refused, gives, decode}
use Rattle.codec.specs.Places.{set_from}
use Rattle.model.specs.Sets.{Set}
use Rattle.algebra.specs.Result.{Result, length_of, table_of}
use Rattle.enumeration.specs.Search.{box_of, Found, at, nothing, spent, Tallied, search_box, corners_fit, box_fits, limit_fits, upright, search_bytes}
use Rattle.search.specs.Sides.{outcome_of, trail_of, answer_of}
use Rattle.search.specs.declared.first.FirstPoint.{FirstPoint}
use Rattle.model.proofs.Count.{to-T, from-T, and_left}
use Rattle.boxes.specs.Box.{outside, outside_result}
use Rattle.boxes.specs.Range as R
use Rattle.boxes.specs.Range.{read, ranged, range_in, range_bytes}
use Rattle.coverage.specs.declared.ranges.Reading.{Reading}
use Rattle.std.specs.Prelude as P
use Rattle.std.specs.Prelude.{Err}
use Rattle.model.specs.declared.refusal.Refusal.{Refusal}
use Rattle.model.specs.Refused.{number_of}
use Rattle.codec.specs.Refusing.{answer_is}
use Rattle.coverage.specs.Calls.{Asking}
use Rattle.coverage.specs.Readings.{range_by, told_of, reading_is, bytes_in, RangeIs}
use Rattle.coverage.proofs.Calling.{range-is}

-- ---- by what the searches found
pub ranged-is : (f g : Found) → range_by (outcome_of f) (outcome_of g) ≡ told_of (ranged f g)
ranged-is spent g = refl
ranged-is nothing spent = refl
ranged-is nothing nothing = refl
ranged-is nothing (at q) = refl
ranged-is (at p) spent = refl
ranged-is (at p) nothing = refl
ranged-is (at p) (at q) = refl

-- what an answer of a search that gives is, as the code has it
pub found-is : {a : Answer Tallied} {t : Tallied} {r : FirstPoint} → gives r ≡ answer_of a → a ≡ gives t → r.outcome ≡ outcome_of t.found
found-is {a} {t} {r} e d = let z : r ≡ trail_of t = given (e ∙ ap answer_of d) in ap (λ (x : FirstPoint). x.outcome) z
  where
    given : {x y : FirstPoint} → ◌≡◌ {A = Answer FirstPoint} (gives x) (gives y) → x ≡ y
    given e = cc

pub not-refused : {a : Answer Tallied} {t : Tallied} {k : ℕ} {X : Type 0} → refused k ≡ answer_of a → a ≡ gives t → X
not-refused {a} {t} {k} e d = no (e ∙ ap answer_of d)
  where
    no : {X : Type 0} {y : FirstPoint} → ◌≡◌ {A = Answer FirstPoint} (refused k) (gives y) → X
    no e = cc

-- ---- both searches
pub searched-is : (n : ℕ) (a : List ℕ) (ls hs : List ℤ) (limit : ℕ) (u : Set) → decode n a ≡ gives u → box_fits n ls hs ≡ true → limit_fits limit ≡ true
    → search_bytes n a ls hs limit ≡ gives (search_box u (take n (box_of ls hs)) limit)
unfolding search_bytes
searched-is n a ls hs limit u d p q =
    let c : corners_fit n ls hs ≡ true = from-T (corners_fit n ls hs) (and_left (corners_fit n ls hs) (upright (box_of ls hs)) (to-T (box_fits n ls hs) p)) in
    rw (d, search_bytes) (ap₂ (λ (x y : Bool). cond x (cond y (gives (search_box u (take n (box_of ls hs)) limit)) (refused 13)) (refused 12)) c q)

pub in-range : (n : ℕ) (s : List ℕ) (ls hs : List ℤ) (i j : ℕ) → range_in n (set_from s 0) ls hs i j
    ≡ ranged (search_box (set_from s 0) (take n (box_of ls hs)) i).found (search_box (outside n ls hs (set_from s 0)) (take n (box_of ls hs)) j).found
unfolding range_in
in-range n s ls hs i j = refl

-- ---- the contract
module _ (n : ℕ) (s : List ℕ) (ls hs : List ℤ) (i j room : ℕ) where
  pub told-refused : (r : Refusal) (table : List ℕ) → range_bytes n room s ls hs i j ≡ refused (number_of r) → table ≡ table_of room (refused (number_of r)) → RangeIs room (range_bytes n room s ls hs i j) (Err r) table
  told-refused r table e b = record { answer = ap reading_is (sym e); bytes = b ∙ ap (λ (x : Answer R.Reading). table_of room (bytes_in x)) (sym e) }

  module _ (q : Asking n s ls hs i j) where
    abbrev diff : Answer (List ℕ)
    diff = outside_result n room ls hs (set_from s 0)

    asked-range : range_bytes n room s ls hs i j ≡ read (range_in n (set_from s 0) ls hs i j) diff
    asked-range =
        range-is n s ls hs q.boxed.accepted room i j
        ∙ ap₂ (λ (b c : Bool). cond b (cond c (read (range_in n (set_from s 0) ls hs i j) diff) (refused 13)) (refused 12)) q.boxed.box (ap₂ ◌&&◌ q.limit_inside q.limit_outside)

    pub told_over : (r : Refusal) (table : List ℕ) → Result room diff (refused (number_of r)) table → RangeIs room (range_bytes n room s ls hs i j) (Err r) table
    told_over r table x =
        let d : diff ≡ refused (number_of r) = no diff x.answer in
        told-refused r table (asked-range ∙ ap (read (range_in n (set_from s 0) ls hs i j)) d) (x.bytes ∙ ap (table_of room) d)
      where
        no : (y : Answer (List ℕ)) → refused (number_of r) ≡ length_of y → y ≡ refused (number_of r)
        no (refused k) e = let f : number_of r ≡ k = cc in ap refused (sym f)
        no (gives l) e = cc

    pub told-given : (l : ℕ) (table : List ℕ) (r : P.Result Reading Refusal) → diff ≡ gives (take l table) → table ≡ table_of room diff
        → answer_is (λ x. x) r ≡ reading_is (gives (record { range = range_in n (set_from s 0) ls hs i j; bytes = take l table })) → RangeIs room (range_bytes n room s ls hs i j) r table
    told-given l table r d b a =
        let e = asked-range ∙ ap (read (range_in n (set_from s 0) ls hs i j)) d in
        record { answer = a ∙ ap reading_is (sym e); bytes = b ∙ ap (table_of room) d ∙ ap (λ (x : Answer R.Reading). table_of room (bytes_in x)) (sym e) }
