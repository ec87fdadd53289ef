-- The calls of counts: their refusals and what they tell, from what the code has tested.
use mathlib.Core.Path.{◌≡◌, refl, sym, ap, ap₂, ◌∙◌, subst, subst₂}
use mathlib.Core.Bool.{Bool, true, false, ◌&&◌, cond}
use mathlib.Core.List.{List, [], ◌++◌}
use mathlib.Core.Option.{Option}
use Prim.Native.Nat.{ℕ, ◌+◌, ◌-◌, ◌≤◌, ◌<◌, zero-le}
use native.Mathlib.Omega.{arith}
use lib.IntN.{ℤ, pos, ◌+ℤ◌}
use lib.ListN.{length, take, get_or, replicate, replicate-append-replicate}
use lib.Seq.{ext_get_or}
use Rattle.integers.specs.Z.{Within}
use Rattle.model.specs.Sets.{Set}
use Rattle.model.proofs.Count.{and_left, from-T, to-T}
use Rattle.codec.specs.Bytes.{Answer, refused, gives, decode, number}
use Rattle.codec.specs.Places.{set_from}
use Rattle.codec.proofs.Boundaries.{decode_is}
use Rattle.query.specs.Member.{point_fits}
use Rattle.query.proofs.Points.{point-within}
use Rattle.enumeration.specs.Search.{Interval, box_of, upright, corners_fit, limit_fits}
use Rattle.search.specs.Sides.{Boxed}
use Rattle.search.specs.Levels.{Begun}
use Rattle.search.specs.declared.levels.Prefix.{Prefix}
use Rattle.enumeration.proofs.Windows.{corners-upright}
use Rattle.search.proofs.Searching.{begun-is}
use Rattle.enumeration.specs.Counting.{Members, no_members, members, members_in, count_at, counts_from, counts_of, Tally, count_box, axis_fits, count_bytes}
use Rattle.counting.specs.Answers.{counted_is, table_is}
use Rattle.counting.specs.Levels.{members_at, AtMost, counted, Summed, within, beyond}
use Rattle.counting.specs.Calls as C
use Rattle.counting.specs.declared.levels.Chosen.{Chosen}
use Rattle.counting.specs.declared.levels.Counted.{Counted}
use Rattle.std.specs.Prelude.{Some, None, Err}
use Rattle.model.specs.declared.refusal.Refusal.{Refusal}
use Rattle.model.specs.declared.refusal.Refusal.TheVariants.{BadPoint}
use Rattle.model.specs.Refused.{number_of}
use Rattle.codec.proofs.Refusing.{refused-by}
use Rattle.enumeration.proofs.CountAnswers.{count-refused, count-corners, count-axis, count-limit, count_gives}
use Rattle.enumeration.proofs.Separate.{counts-length, counts-at, counts-none}
use Rattle.enumeration.proofs.Counted.{longer-exhausted, within-counted}
use Rattle.counting.proofs.Zeros.{zeros-at}

pub zeros-most : (each : List ℕ) → each ≡ replicate (length each) 0 → AtMost 0 each
zeros-most each e = record { at = λ j. subst (λ (l : List ℕ). get_or l j 0 ≤ 0) (sym e) (subst (λ (x : ℕ). x ≤ 0) (sym (zeros-at (length each) j)) zero-le) }

-- ---- the refusal of the set, that of the corners, or none
module _ (n : ℕ) (s : List ℕ) (low high : List ℤ) where
  pub fitting-set : (r : Refusal) → number_of r ≡ number (decode n s) → C.Fitting n s low high (Err r)
  fitting-set r e axis limit = count-refused n s low high axis limit (number_of r) (refused-by r (decode n s) e)

  pub fitting-corners : number (decode n s) ≡ 0 → corners_fit n low high ≡ false → C.Fitting n s low high (Err BadPoint)
  fitting-corners z p axis limit = count-corners n s low high axis limit (set_from s 0) (decode_is n s z) p

-- the first value of a side is a coordinate
pub first-within : (n : ℕ) (s : List ℕ) (low high : List ℤ) → C.Checked n s low high → (i : ℕ) → Within 1048576 (get_or low i (pos 0))
first-within n s low high k i = (point-within n low (from-T (point_fits n low) (and_left (point_fits n low) (point_fits n high) (to-T (corners_fit n low high) k.corners)))).at i

-- once set and corners are checked
module _ (n : ℕ) (s : List ℕ) (low high : List ℤ) (k : C.Checked n s low high) (axis : Option ℕ) (limit : ℕ) where
  abbrev box : List Interval
  box = take n (box_of low high)

  pub asked-axis : axis_fits n axis box ≡ false → count_bytes n s low high axis limit ≡ refused 19
  asked-axis q = count-axis n s low high axis limit (set_from s 0) (decode_is n s k.accepted) k.corners q

  module _ (q : axis_fits n axis box ≡ true) where
    pub asked-limit : limit_fits limit ≡ false → count_bytes n s low high axis limit ≡ refused 13
    asked-limit r = count-limit n s low high axis limit (set_from s 0) (decode_is n s k.accepted) k.corners q r

    pub asked-gives : limit_fits limit ≡ true → count_bytes n s low high axis limit ≡ gives (count_box (set_from s 0) box axis limit)
    asked-gives r = count_gives n s low high axis limit (set_from s 0) (decode_is n s k.accepted) k.corners q r

-- ---- the walk from the whole box
pub walk-all : (s : List ℕ) (n : ℕ) (low high : List ℤ) (limit : ℕ) (rows : List (List ℤ)) (p : Prefix) → Begun s n low high limit rows p → (c : Chosen) (each : List ℕ) (r : Counted) (t : List ℕ)
    → Summed p.limit 0 c (members_at s p) each r t → Summed limit 0 c (members (set_from s 0) [] (take n (box_of low high))) each r t
walk-all s n low high limit rows p b c each r t h = subst₂ (λ (l : ℕ) (m : Members). Summed l 0 c m each r t) b.limit_is (begun-is b (members (set_from s 0))) h

-- ---- how a count ends: m, the members that count, are those that were walked over
module _ (limit : ℕ) (c : Chosen) (each : List ℕ) (clear : each ≡ replicate (length each) 0) (m : Members) where
  pub ended-shut : m ≡ no_members → C.Ended limit c m (length each) (counted (Some 0) 0) each
  ended-shut e =
      subst (λ (x : Members). C.Ended limit c x (length each) (counted (Some 0) 0) each) (sym e)
      (subst (C.Ended limit c no_members (length each) (counted (Some 0) 0)) (counts-none c.axis (length each) c.first ∙ sym clear)
      (C.within zero-le))

  module _ (w : Members) (e : m ≡ w) where
    none : 0 + w.tested ≡ w.tested
    none = omega arith

    pub ended-done : (r : Counted) (t : List ℕ) → Summed limit 0 c w each r t → (r.whole ≡ None → ⊥) → C.Ended limit c m (length each) r t
    ended-done _ _ (within h t p) z =
        subst (λ (x : Members). C.Ended limit c x (length each) (counted (Some (length w.points)) (0 + w.tested)) t) (sym e)
        (subst₂ (λ (x : ℕ) (u : List ℕ). C.Ended limit c w (length each) (counted (Some (length w.points)) x) u) (sym none) (sym table)
        (C.within (subst (λ (x : ℕ). x ≤ limit) none h)))
      where
        at : (j : ℕ) → j < length t → get_or t j 0 ≡ get_or (counts_from c.axis w.points (length each) c.first) j 0
        at j l =
            let k : j < length each = subst (λ (x : ℕ). j < x) p.places l in
            let y : get_or each j 0 ≡ 0 = ap (λ (u : List ℕ). get_or u j 0) clear ∙ zeros-at (length each) j in
            let g = p.at j k in
            let q : get_or t j 0 ≡ count_at c.axis (c.first +ℤ pos j) w.points = omega arith in
            q ∙ sym (counts-at c.axis w.points (length each) c.first j k)

        table : t ≡ counts_from c.axis w.points (length each) c.first
        table = ext_get_or 0 t (counts_from c.axis w.points (length each) c.first) (p.places ∙ sym (counts-length c.axis w.points (length each) c.first)) at
    ended-done _ _ (beyond h t l) z = absurd (z refl)

    pub ended-spent : (r : Counted) (t : List ℕ) → Summed limit 0 c w each r t → r.whole ≡ None → (u : List ℕ) → u ≡ replicate (length t) 0 → C.Ended limit c m (length each) r u
    ended-spent _ _ (within h t p) z u y = cc
    ended-spent _ _ (beyond h t l) z u y =
        subst (λ (x : Members). C.Ended limit c x (length each) (counted None limit) u) (sym e)
        (subst (C.Ended limit c w (length each) (counted None limit)) (sym (y ∙ ap (λ (k : ℕ). replicate k 0) l))
        (C.beyond (subst (λ (x : ℕ). limit < x) none h)))

-- the members of a box whose corners fit: looked at on all eight sides
module _ (n : ℕ) (s : List ℕ) (low high : List ℤ) (k : C.Checked n s low high) where
  members-as : (b : Bool) → upright (box_of low high) ≡ b → members_in (set_from s 0) (take n (box_of low high)) ≡ cond b (members (set_from s 0) [] (take n (box_of low high))) no_members
  members-as b u = ap (λ (c : Bool). cond c (members (set_from s 0) [] (take n (box_of low high))) no_members) (corners-upright n low high k.corners ∙ u)

  pub members-open : upright (box_of low high) ≡ true → members_in (set_from s 0) (take n (box_of low high)) ≡ members (set_from s 0) [] (take n (box_of low high))
  members-open u = members-as true u

  pub members-shut : upright (box_of low high) ≡ false → members_in (set_from s 0) (take n (box_of low high)) ≡ no_members
  members-shut u = members-as false u

  pub boxed : upright (box_of low high) ≡ true → Boxed n s low high
  boxed u = record { accepted = k.accepted; box = ap₂ ◌&&◌ k.corners u }

-- ---- the answer and the table
no_less : (size : ℕ) → size - 0 ≡ size
no_less size = omega arith

pub refused-table : (size k : ℕ) (a : Answer Tally) → a ≡ refused k → (t : List ℕ) → t ≡ replicate size 0 → t ≡ table_is size a
refused-table size k a e t z = z ∙ ap (λ (x : ℕ). replicate x 0) (sym (no_less size)) ∙ ap (table_is size) (sym e)

module _ (s : Set) (box : List Interval) (axis : Option ℕ) (limit : ℕ) (c : Chosen) (k : ℕ)
    (same : (ps : List (List ℤ)) → counts_from c.axis ps k c.first ≡ counts_of axis box ps) (a : Answer Tally) (e : a ≡ gives (count_box s box axis limit)) where
  given-as : (u : Tally) → count_box s box axis limit ≡ u → gives u ≡ a
  given-as u f = sym (e ∙ ap gives f)

  pub ended-answer : (r : Counted) (t : List ℕ) → C.Ended limit c (members_in s box) k r t → gives r ≡ counted_is a
  ended-answer _ _ (C.within h) = ap counted_is (given-as _ (within-counted s box axis limit h))
  ended-answer _ _ (C.beyond h) = ap counted_is (given-as _ (longer-exhausted s box axis limit h))

  -- the first k places of the table
  pub ended-table : (size : ℕ) → k ≤ size → (r : Counted) (t : List ℕ) → C.Ended limit c (members_in s box) k r t → t ++ replicate (size - k) 0 ≡ table_is size a
  ended-table size l _ _ (C.within h) =
      let ps : List (List ℤ) = (members_in s box).points in
      ap (λ (j : ℕ). counts_from c.axis ps k c.first ++ replicate (size - j) 0) (sym (counts-length c.axis ps k c.first))
      ∙ ap (λ (cs : List ℕ). cs ++ replicate (size - length cs) 0) (same ps)
      ∙ ap (table_is size) (given-as _ (within-counted s box axis limit h))
  ended-table size l _ _ (C.beyond h) =
      let f : k + (size - k) ≡ size - 0 = omega arith in
      replicate-append-replicate k (size - k) 0 ∙ ap (λ (x : ℕ). replicate x 0) f ∙ ap (table_is size) (given-as _ (longer-exhausted s box axis limit h))
