-- The levels of a count: the values of a level one after another, and what is summed up on the way.
use mathlib.Core.Path.{◌≡◌, refl, sym, ap, ap₂, ◌∙◌, subst}
use mathlib.Core.Bool.{Bool, true, false, cond}
use mathlib.Core.List.{List, [], ◌∷◌, ◌++◌, append_assoc, append-nil}
use Prim.Native.Nat.{ℕ, zero, suc, ◌+◌, ◌-◌, ◌≤◌, ◌<◌}
use native.Mathlib.Omega.{arith}
use lib.Dec.{eqb, ltb}
use lib.IntN.{ℤ, pos, ◌+ℤ◌, ◌-ℤ◌, +ℤ_idr}
use lib.ListN.{length, take, get_or, set, replicate, length-set, length-append, get_or-eq_default}
use lib.Seq.{get_or-set_same, get_or-set_other}
use borrow.Author.Tests.{eqb-true, eqb-false, ltb-true, ltb-false}
use Rattle.integers.specs.Lin.{eq, lin, lia-eq, lia-nat}
use Rattle.model.specs.Lists.{cons_if, filter}
use Rattle.model.specs.Sets.{Set, is_zero}
use Rattle.model.proofs.Count.{ind, count, count-append}
use Rattle.codec.specs.Places.{set_from}
use Rattle.bounds.specs.Ends.{side}
use Rattle.enumeration.specs.Search.{Interval, width}
use Rattle.search.specs.Sides.{Standing}
use Rattle.search.specs.Levels.{ok_at, span_at, value_at, rest_at, passes_at, Ready, next_of, way_at, lows_at, highs_at, Failed, Climbed, past, exhausted, passing}
use Rattle.search.specs.declared.levels.Prefix.{Prefix}
use Rattle.search.specs.declared.levels.Passed.{Passed}
use Rattle.search.specs.declared.levels.Way.TheVariants.{Past, Point, Below}
use Rattle.search.specs.declared.levels.Way.TheVariants as W
use Rattle.search.specs.declared.levels.Stop.{Stop}
use Rattle.search.proofs.Climbs.{own-side, own-width, rest-none, fixed-is, padded-is, way-last, way-more, passed_at}
use Rattle.enumeration.specs.Counting.{Members, no_members, both, one_test, each_upward, members, count_at}
use Rattle.counting.specs.Levels.{members_at, line_of, Added, AtMost, Room, Gathered, counted, Summed, within, beyond}
use Rattle.counting.specs.declared.levels.Chosen.{Chosen}
use Rattle.counting.specs.declared.levels.Counted.{Counted}
use Rattle.std.specs.Prelude.{Some, None}
use Rattle.enumeration.proofs.Separate.{same-value, other-value, length-cons_if}

-- ---- how many of a list

module _ {A : Type 0} (f : A → Bool) where
  filter-count : (l : List A) → length (filter f l) ≡ count f l
  filter-count [] = refl
  filter-count (a ∷ l) = length-cons_if (f a) a (filter f l) ∙ ap (λ (n : ℕ). ind (f a) + n) (filter-count l)

  filter-most : (l : List A) → length (filter f l) ≤ length l
  filter-most [] = omega arith
  filter-most (a ∷ l) = by (f a) (filter-most l)
    where
      by : (b : Bool) → length (filter f l) ≤ length l → length (cons_if b a (filter f l)) ≤ suc (length l)
      by true h = omega arith
      by false h = omega arith

module _ (i : ℕ) (v : ℤ) where
  abbrev has : List ℤ → Bool
  has p = is_zero (get_or p i (pos 0) -ℤ v)

  count-both : (ps qs : List (List ℤ)) → count_at i v (ps ++ qs) ≡ count_at i v ps + count_at i v qs
  count-both ps qs =
      filter-count has (ps ++ qs) ∙ count-append has ps qs ∙ sym (ap₂ ◌+◌ (filter-count has ps) (filter-count has qs))

  -- of one point its coordinate tells
  count_same : (p q : List ℤ) → get_or p i (pos 0) ≡ get_or q i (pos 0) → count_at i v (p ∷ []) ≡ count_at i v (q ∷ [])
  count_same p q e = filter-count has (p ∷ []) ∙ ap (λ (z : ℤ). ind (is_zero (z -ℤ v)) + 0) e ∙ sym (filter-count has (q ∷ []))

  count-hit : (p : List ℤ) → get_or p i (pos 0) ≡ v → count_at i v (p ∷ []) ≡ 1
  count-hit p e = ap (λ (b : Bool). length (cons_if b p [])) (same-value (get_or p i (pos 0)) v e)

  count-miss : (p : List ℤ) → (get_or p i (pos 0) ≡ v → ⊥) → count_at i v (p ∷ []) ≡ 0
  count-miss p n = ap (λ (b : Bool). length (cons_if b p [])) (other-value (get_or p i (pos 0)) v n)

  -- m times one point
  count-hits : (p : List ℤ) → get_or p i (pos 0) ≡ v → (m : ℕ) → count_at i v (replicate m p) ≡ m
  count-hits p e zero = refl
  count-hits p e (suc m) = let z : 1 + m ≡ suc m = omega arith in count-both (p ∷ []) (replicate m p) ∙ ap₂ ◌+◌ (count-hit p e) (count-hits p e m) ∙ z

  count-misses : (p : List ℤ) → (get_or p i (pos 0) ≡ v → ⊥) → (m : ℕ) → count_at i v (replicate m p) ≡ 0
  count-misses p n zero = refl
  count-misses p n (suc m) = count-both (p ∷ []) (replicate m p) ∙ ap₂ ◌+◌ (count-miss p n) (count-misses p n m)

-- ---- the table

pub added_none : (c : Chosen) (each : List ℕ) → Added c [] each each
added_none c each = record { places = refl; at = λ j h. omega arith }

added-both : {c : Chosen} {ps qs : List (List ℤ)} {a b d : List ℕ} → Added c ps a b → Added c qs b d → Added c (ps ++ qs) a d
added-both {c} {ps} {qs} x y =
    let l = x.places in
    record {
      places = y.places ∙ x.places;
      at = λ j h. let e = x.at j h in let k = y.at j (omega arith) in omega (arith, count-both c.axis (c.first +ℤ pos j) ps qs);
    }

added-most : {c : Chosen} {ps : List (List ℤ)} {a b : List ℕ} {t : ℕ} → Added c ps a b → AtMost t a → AtMost (t + length ps) b
added-most {c} {ps} {a} {b} {t} x m = record { at = λ j. go j (ltb j (length a)) refl }
  where
    go : (j : ℕ) (y : Bool) → ltb j (length a) ≡ y → get_or b j 0 ≤ t + length ps
    go j true e = let h = x.at j (ltb-true j (length a) e) in let k = m.at j in omega (arith, filter-most (has c.axis (c.first +ℤ pos j)) ps)
    go j false e = let h = ltb-false j (length a) e in let l = x.places in omega (arith, get_or-eq_default b 0 {n = j} (omega arith))

-- m times one point: at the place of its value, or at none
module _ (c : Chosen) (p : List ℤ) (m : ℕ) (each : List ℕ) where
  pub noted-at : (j : ℕ) → j < length each → get_or p c.axis (pos 0) ≡ c.first +ℤ pos j → Added c (replicate m p) each (set each j (get_or each j 0 + m))
  noted-at j h e = record { places = length-set each j (get_or each j 0 + m); at = λ x l. go x l (eqb x j) refl }
    where
      go : (x : ℕ) → x < length each → (b : Bool) → eqb x j ≡ b → get_or (set each j (get_or each j 0 + m)) x 0 ≡ get_or each x 0 + count_at c.axis (c.first +ℤ pos x) (replicate m p)
      go x l true q =
          let z : x ≡ j = eqb-true x j q in
          subst (λ (y : ℕ). get_or (set each j (get_or each j 0 + m)) y 0 ≡ get_or each y 0 + count_at c.axis (c.first +ℤ pos y) (replicate m p)) (sym z)
          (get_or-set_same each j (get_or each j 0 + m) 0 h ∙ ap (λ (n : ℕ). get_or each j 0 + n) (sym (count-hits c.axis (c.first +ℤ pos j) p e m)))
      go x l false q =
          let n = eqb-false x j q in
          get_or-set_other each j x (get_or each j 0 + m) 0 n ∙ sum (get_or each x 0) (count_at c.axis (c.first +ℤ pos x) (replicate m p)) (count-misses c.axis (c.first +ℤ pos x) p (λ y. n (same_place (sym y ∙ e))) m)
        where
          same_place : c.first +ℤ pos x ≡ c.first +ℤ pos j → x ≡ j
          same_place y = lia-nat (c.first ∷ pos x ∷ pos j ∷ []) (eq y ∷ []) (search lin depth 30) (omega arith)

          sum : (a b : ℕ) → b ≡ 0 → a ≡ a + b
          sum a b z = omega arith

  pub noted-none : ((j : ℕ) → j < length each → get_or p c.axis (pos 0) ≡ c.first +ℤ pos j → ⊥) → Added c (replicate m p) each each
  noted-none n = record { places = refl; at = λ j h. let z = count-misses c.axis (c.first +ℤ pos j) p (n j h) m in omega arith }

-- ---- points one after the other on an axis

-- value number i of the side
abbrev spot : List ℤ → ℕ → ℕ → List ℤ
spot low k i = set low k (get_or low k (pos 0) +ℤ pos i)

line-length : (low : List ℤ) (k m i : ℕ) → length (line_of low k i m) ≡ m
line-length low k zero i = refl
line-length low k (suc m) i = ap suc (line-length low k m (i + 1))

line-more : (low : List ℤ) (k m i : ℕ) → line_of low k i (m + 1) ≡ line_of low k i m ++ (spot low k (i + m) ∷ [])
line-more low k zero i = let e : i ≡ i + 0 = omega arith in ap (λ (j : ℕ). spot low k j ∷ []) e
line-more low k (suc m) i =
    let e : i + 1 + m ≡ i + suc m = omega arith in let q : suc m + 1 ≡ suc (m + 1) = omega arith in
    ap (line_of low k i) q
    ∙ ap (λ (l : List (List ℤ)). spot low k i ∷ l) (line-more low k m (i + 1) ∙ ap (λ (j : ℕ). line_of low k (i + 1) m ++ (spot low k j ∷ [])) e)

-- on another axis they have one value
line_same : (low : List ℤ) (k a : ℕ) (w : ℤ) → (a ≡ k → ⊥) → (m i : ℕ) → count_at a w (replicate m low) ≡ count_at a w (line_of low k i m)
line_same low k a w n zero i = refl
line_same low k a w n (suc m) i =
    count-both a w (low ∷ []) (replicate m low)
    ∙ ap₂ ◌+◌ (count_same a w low (spot low k i) (sym (get_or-set_other low k a (get_or low k (pos 0) +ℤ pos i) (pos 0) n))) (line_same low k a w n m (i + 1))
    ∙ sym (count-both a w (spot low k i ∷ []) (line_of low k (i + 1) m))

pub added-same : (c : Chosen) (low : List ℤ) (k i m : ℕ) (each each' : List ℕ) → (c.axis ≡ k → ⊥) → Added c (replicate m low) each each' → Added c (line_of low k i m) each each'
added-same c low k i m each each' n x =
    record { places = x.places; at = λ j h. x.at j h ∙ ap (λ (d : ℕ). get_or each j 0 + d) (line_same low k c.axis (c.first +ℤ pos j) n m i) }

-- m of them are noted, and the next one
pub added_next : (c : Chosen) (low : List ℤ) (k i m : ℕ) (a b d : List ℕ) (point : List ℤ) → point ≡ spot low k (i + m) → Added c (line_of low k i m) a b → Added c (replicate 1 point) b d → Added c (line_of low k i (m + 1)) a d
added_next c low k i m a b d point e x y =
    subst (λ (l : List (List ℤ)). Added c l a d) (sym (line-more low k m i)) (added-both x (subst (λ (q : List ℤ). Added c (q ∷ []) b d) e y))

-- so many are counted at most
pub line-room : (c : Chosen) (low : List ℤ) (k i x m : ℕ) (a b : List ℕ) → Added c (line_of low k i x) a b → Room m a → x < m → Room 1 b
line-room c low k i x m a b h r l =
    let most : AtMost (4294967295 - m) a = record { at = λ j. let k = r.at j in omega arith } in
    record { at = λ j. let y = (added-most h most).at j in let n = r.at 0 in omega (arith, line-length low k x i) }

-- ---- members, part after part

same : {ps qs : List (List ℤ)} {m n : ℕ} → ps ≡ qs → m ≡ n → ◌≡◌ {A = Members} (record { points = ps; tested = m }) (record { points = qs; tested = n })
same p t = ap₂ (λ (x : List (List ℤ)) (y : ℕ). record { points = x; tested = y }) p t

both-assoc : (a b d : Members) → both (both a b) d ≡ both a (both b d)
both-assoc a b d =
    let e : a.tested + b.tested + d.tested ≡ a.tested + (b.tested + d.tested) = omega arith in
    same (append_assoc a.points b.points d.points) e

module _ (ok : ℤ → Bool) (inside : ℤ → Members) where
  each-fail : (c : ℕ) (x : ℤ) → ok x ≡ false → each_upward ok inside (suc c) x ≡ one_test (each_upward ok inside c (x +ℤ pos 1))
  each-fail c x e = rw (e, each_upward)

  each-pass : (c : ℕ) (x : ℤ) → ok x ≡ true → each_upward ok inside (suc c) x ≡ one_test (both (inside x) (each_upward ok inside c (x +ℤ pos 1)))
  each-pass c x e = rw (e, each_upward)

  -- each member took a test of its own, the last of its prefixes
  each-few : ((x : ℤ) → length (inside x).points ≤ suc (inside x).tested) → (c : ℕ) (x : ℤ) → length (each_upward ok inside c x).points ≤ (each_upward ok inside c x).tested
  each-few h zero x = omega arith
  each-few h (suc c) x = by (ok x) refl (each-few h c (x +ℤ pos 1))
    where
      by : (b : Bool) → ok x ≡ b → length (each_upward ok inside c (x +ℤ pos 1)).points ≤ (each_upward ok inside c (x +ℤ pos 1)).tested → length (each_upward ok inside (suc c) x).points ≤ (each_upward ok inside (suc c) x).tested
      by true e r = rw (each-pass c x e) (let k = h x in omega (arith, length-append (inside x).points (each_upward ok inside c (x +ℤ pos 1)).points))
      by false e r = rw (each-fail c x e) (omega arith)

-- ---- a level

-- below a value x after the prefix p, with the sides bs open
abbrev deeper : Set → List ℤ → List Interval → ℤ → Members
deeper s p bs x = members s (p ++ (x ∷ [])) bs

-- its values from number i on
abbrev members_from : List ℕ → Prefix → ℕ → Members
members_from s p i =
    each_upward (ok_at (set_from s 0) (take p.k p.low) (rest_at p)) (deeper (set_from s 0) (take p.k p.low) (rest_at p)) (suc (span_at p) - i) (value_at p i)

members-few : (s : Set) (bs : List Interval) (p : List ℤ) → length (members s p bs).points ≤ suc (members s p bs).tested
unfolding members
members-few s [] p = omega arith
members-few s (b ∷ bs) p = let h = each-few (ok_at s p bs) (deeper s p bs) (λ x. members-few s bs (p ++ (x ∷ []))) (width b) b.low in omega arith

members-more : (s : Set) (p : List ℤ) (b : Interval) (bs : List Interval) → members s p (b ∷ bs) ≡ each_upward (ok_at s p bs) (deeper s p bs) (width b) b.low
unfolding members
members-more s p b bs = refl

members-done : (s : Set) (p : List ℤ) → members s p [] ≡ record { points = p ∷ []; tested = 0 }
unfolding members
members-done s p = refl

-- a point's zeros past its coordinates do not count
zeros-past : (q : List ℤ) (m i : ℕ) → get_or (q ++ replicate m (pos 0)) i (pos 0) ≡ get_or q i (pos 0)
zeros-past [] zero i = refl
zeros-past [] (suc m) zero = refl
zeros-past [] (suc m) (suc i) = zeros-past [] m i
zeros-past (x ∷ q) m zero = refl
zeros-past (x ∷ q) m (suc i) = zeros-past q m i

module _ (s : List ℕ) (p : Prefix) (g : Standing s p.n p.k p.low p.high) where
  abbrev S : Set
  S = set_from s 0

  abbrev fixed : List ℤ
  fixed = take p.k p.low

  abbrev ok : ℤ → Bool
  ok = ok_at S fixed (rest_at p)

  abbrev inside : ℤ → Members
  inside = deeper S fixed (rest_at p)

  abbrev own : Interval
  own = side (get_or p.low p.k (pos 0)) (get_or p.high p.k (pos 0))

  all-values : members_from s p 0 ≡ members_at s p
  all-values =
      let e : suc (span_at p) - 0 ≡ suc (span_at p) = omega arith in
      ap₂ (λ (c : ℕ) (x : ℤ). each_upward ok inside c x) e (+ℤ_idr (get_or p.low p.k (pos 0)))
      ∙ sym
      (ap (members S fixed) (own-side s p.n p.k p.low p.high g) ∙ members-more S fixed own (rest_at p)
      ∙ ap (λ (c : ℕ). each_upward ok inside c own.low) (own-width s p.n p.k p.low p.high g))

  none_left : (i : ℕ) → suc (span_at p) - i ≡ 0 → members_from s p i ≡ no_members
  none_left i e = ap (λ (c : ℕ). each_upward ok inside c (value_at p i)) e

  module _ (i : ℕ) (h : i ≤ span_at p) where
    abbrev others : Members
    others = each_upward ok inside (span_at p - i) (value_at p i +ℤ pos 1)

    first-is : members_from s p i ≡ each_upward ok inside (suc (span_at p - i)) (value_at p i)
    first-is = let e : suc (span_at p) - i ≡ suc (span_at p - i) = omega arith in ap (λ (c : ℕ). each_upward ok inside c (value_at p i)) e

    others-are : others ≡ members_from s p (i + 1)
    others-are =
        let e : span_at p - i ≡ suc (span_at p) - (i + 1) = omega arith in
        let z : value_at p i +ℤ pos 1 ≡ value_at p (i + 1) = lia-eq (get_or p.low p.k (pos 0) ∷ pos i ∷ []) [] (search lin depth 30) (omega arith) in
        ap₂ (λ (c : ℕ) (x : ℤ). each_upward ok inside c x) e z

    one-fails : passes_at s p i ≡ false → members_from s p i ≡ one_test (members_from s p (i + 1))
    one-fails e = first-is ∙ each-fail ok inside (span_at p - i) (value_at p i) e ∙ ap one_test others-are

    one_passes : passes_at s p i ≡ true → members_from s p i ≡ one_test (both (inside (value_at p i)) (members_from s p (i + 1)))
    one_passes e = first-is ∙ each-pass ok inside (span_at p - i) (value_at p i) e ∙ ap (λ (m : Members). one_test (both (inside (value_at p i)) m)) others-are

  tested-some : (i : ℕ) → i ≤ span_at p → 0 < (members_from s p i).tested
  tested-some i h = by (passes_at s p i) refl
    where
      by : (b : Bool) → passes_at s p i ≡ b → 0 < (members_from s p i).tested
      by true e = subst (λ (m : Members). 0 < m.tested) (sym (one_passes i h e)) (omega arith)
      by false e = subst (λ (m : Members). 0 < m.tested) (sym (one-fails i h e)) (omega arith)

  -- m values that fail: m tests, and no member
  some-fail : (m i : ℕ) → m ≤ suc (span_at p) - i → Failed s p i m → members_from s p i ≡ both (record { points = []; tested = m }) (members_from s p (i + m))
  some-fail zero i h f =
      let a : i ≡ i + 0 = omega arith in let z : (members_from s p (i + 0)).tested ≡ 0 + (members_from s p (i + 0)).tested = omega arith in
      ap (members_from s p) a ∙ same refl z
  some-fail (suc m) i h f =
      let a : i + 0 ≡ i = omega arith in let b : i + 1 + m ≡ i + suc m = omega arith in
      let z : suc (m + (members_from s p (i + suc m)).tested) ≡ suc m + (members_from s p (i + suc m)).tested = omega arith in
      one-fails i (omega arith) (subst (λ (j : ℕ). passes_at s p j ≡ false) a (f 0 (omega arith)))
      ∙ ap one_test
      (some-fail m (i + 1) (omega arith) (λ j l. let y : i + suc j ≡ i + 1 + j = omega arith in subst (λ (x : ℕ). passes_at s p x ≡ false) y (f (suc j) (omega arith)))
      ∙ ap (λ (j : ℕ). both (record { points = []; tested = m }) (members_from s p j)) b)
      ∙ same refl z

  -- the points of m values on the last axis
  abbrev points_at : ℕ → ℕ → List (List ℤ)
  points_at i zero = []
  points_at i (suc m) = (fixed ++ (value_at p i ∷ [])) ∷ points_at (i + 1) m

  points-length : (m i : ℕ) → length (points_at i m) ≡ m
  points-length zero i = refl
  points-length (suc m) i = ap suc (points-length m (i + 1))

  module _ (last : p.k + 1 ≡ p.n) where
    -- m values that pass there: m tests and m members
    some-pass : (m i : ℕ) → m ≤ suc (span_at p) - i → ((j : ℕ) → j < m → passes_at s p (i + j) ≡ true) → members_from s p i ≡ both (record { points = points_at i m; tested = m }) (members_from s p (i + m))
    some-pass zero i h f =
        let a : i ≡ i + 0 = omega arith in let z : (members_from s p (i + 0)).tested ≡ 0 + (members_from s p (i + 0)).tested = omega arith in
        ap (members_from s p) a ∙ same refl z
    some-pass (suc m) i h f =
        let a : i + 0 ≡ i = omega arith in let b : i + 1 + m ≡ i + suc m = omega arith in
        let z : suc (0 + (m + (members_from s p (i + suc m)).tested)) ≡ suc m + (members_from s p (i + suc m)).tested = omega arith in
        one_passes i (omega arith) (subst (λ (j : ℕ). passes_at s p j ≡ true) a (f 0 (omega arith)))
        ∙ ap₂ (λ (x y : Members). one_test (both x y))
        (ap (members S (fixed ++ (value_at p i ∷ []))) (rest-none s p.n p.k p.low p.high g last) ∙ members-done S (fixed ++ (value_at p i ∷ [])))
        (some-pass m (i + 1) (omega arith) (λ j l. let y : i + suc j ≡ i + 1 + j = omega arith in subst (λ (x : ℕ). passes_at s p x ≡ true) y (f (suc j) (omega arith)))
        ∙ ap (λ (j : ℕ). both (record { points = points_at (i + 1) m; tested = m }) (members_from s p j)) b)
        ∙ same refl z

    -- as the code has them, with zeros past their coordinates
    points-same : (a : ℕ) (w : ℤ) (m i : ℕ) → count_at a w (line_of p.low p.k i m) ≡ count_at a w (points_at i m)
    points-same a w zero i = refl
    points-same a w (suc m) i =
        count-both a w (lows_at p i ∷ []) (line_of p.low p.k (i + 1) m)
        ∙ ap₂ ◌+◌
        (count_same a w (lows_at p i) (fixed ++ (value_at p i ∷ []))
        (ap (λ (x : List ℤ). get_or x a (pos 0)) (sym (padded-is s p.n p.k p.low p.high g (value_at p i) last))
        ∙ zeros-past (fixed ++ (value_at p i ∷ [])) (8 - length (fixed ++ (value_at p i ∷ []))) a))
        (points-same a w m (i + 1))
        ∙ sym (count-both a w ((fixed ++ (value_at p i ∷ [])) ∷ []) (points_at (i + 1) m))

  -- m values that fail and one that passes: its members, and then those of the next values
  abbrev met : ℕ → Members → Members
  met m d = record { points = d.points; tested = m + 1 + d.tested }

  then-passes : (m i : ℕ) → Failed s p i m → i + m ≤ span_at p → passes_at s p (i + m) ≡ true → (d : Members) → d ≡ inside (value_at p (i + m)) → members_from s p i ≡ both (met m d) (members_from s p (i + m + 1))
  then-passes m i f h e d q =
      let n : Members = members_from s p (i + m + 1) in
      let z : m + suc (d.tested + n.tested) ≡ m + 1 + d.tested + n.tested = omega arith in
      some-fail m i (omega arith) f ∙ ap (both (record { points = []; tested = m })) (one_passes (i + m) h e ∙ ap (λ (x : Members). one_test (both x n)) (sym q))
      ∙ same refl z

-- a value that passes is neither the end nor the limit
neither : (p : Prefix) (x : Passed) → (way_at p x ≡ Past → ⊥) × (way_at p x ≡ W.Spent → ⊥)
neither p x = go (eqb (p.k + 1) p.n)
  where
    go : (b : Bool) → (cond b (Point x) (Below x) ≡ Past → ⊥) × (cond b (Point x) (Below x) ≡ W.Spent → ⊥)
    go true = ((λ e. cc), λ e. cc)
    go false = ((λ e. cc), λ e. cc)

-- ---- where the loop of a level stands
pub record Going (s : List ℕ) (p : Prefix) (tested : ℕ) (c : Chosen) (each₀ each : List ℕ) (whole t i : ℕ) : Type 0 where
  pub so_far : Members
  pub all : both so_far (members_from s p i) ≡ members_at s p
  pub many : whole ≡ length so_far.points
  pub sum : t ≡ tested + so_far.tested
  pub few : length so_far.points ≤ so_far.tested
  pub inside : t ≤ p.limit
  pub added : Added c so_far.points each₀ each

module _ {s : List ℕ} {p : Prefix} {tested : ℕ} {c : Chosen} {each₀ : List ℕ} where
  pub going_start : Ready s p tested → Going s p tested c each₀ each₀ 0 tested 0
  going_start d =
      let z : 0 + (members_from s p 0).tested ≡ (members_from s p 0).tested = omega arith in
      record {
        so_far = no_members;
        all = same refl z ∙ all-values s p d.standing;
        many = refl;
        sum = omega arith;
        few = omega arith;
        inside = d.within;
        added = added_none c each₀;
      }

  module _ {each : List ℕ} {whole t i : ℕ} (g : Going s p tested c each₀ each whole t i) where
    pub going-most : AtMost tested each₀ → AtMost t each
    going-most m = let f = g.few in let e = g.sum in let a = added-most g.added m in record { at = λ j. let h = a.at j in omega arith }

    -- how many tests there are in all
    tests : (members_at s p).tested ≡ g.so_far.tested + (members_from s p i).tested
    tests = sym (ap (λ (m : Members). m.tested) g.all)

    module _ (d : Ready s p t) where
      pub going-past : (r : Stop) → Climbed s p i t r → r.way ≡ Past → Summed p.limit tested c (members_at s p) each₀ (counted (Some whole) (t + r.tested)) each
      going-past _ (past m f e l) w =
          let total : Members = record { points = g.so_far.points; tested = g.so_far.tested + m } in
          let n : suc (span_at p) - (i + m) ≡ 0 = omega arith in
          let z : m + 0 ≡ m = omega arith in let a = g.sum in let y : t + m ≡ tested + (g.so_far.tested + m) = omega arith in
          let is : total ≡ members_at s p =
          sym
          (sym g.all
          ∙ ap (both g.so_far) (some-fail s p d.standing m i (omega arith) f ∙ ap (both (record { points = []; tested = m })) (none_left s p d.standing (i + m) n) ∙ same refl z)
          ∙ same (append-nil g.so_far.points) refl) in
          subst (λ (x : Members). Summed p.limit tested c x each₀ (counted (Some whole) (t + m)) each) is
          (subst (λ (x : Counted). Summed p.limit tested c total each₀ x each) (sym (ap₂ (λ (x k : ℕ). counted (Some x) k) g.many y))
          (within (omega arith) each g.added))
      going-past _ (exhausted m f h e) w = cc
      going-past _ (passing m f h l e live v) w = absurd ((neither p (passed_at p (i + m) live)).0 w)

      -- the side is at its end
      pub going_end : span_at p < i → Summed p.limit tested c (members_at s p) each₀ (counted (Some whole) t) each
      going_end h =
          let z : t + 0 ≡ t = omega arith in let l = g.inside in
          subst (λ (n : ℕ). Summed p.limit tested c (members_at s p) each₀ (counted (Some whole) n) each) z
          (going-past (record { way = Past; tested = 0 }) (past 0 (λ j o. absurd (omega arith)) (omega arith) (omega arith)) refl)

      pub going-spent : (r : Stop) → Climbed s p i t r → r.way ≡ W.Spent → Summed p.limit tested c (members_at s p) each₀ (counted None (t + r.tested)) each
      going-spent _ (past m f e l) w = cc
      going-spent _ (exhausted m f h e) w =
          let a = g.sum in let x = tested-some s p d.standing (i + m) h in
          let y = ap (λ (n : Members). n.tested) (some-fail s p d.standing m i (omega arith) f) in
          subst (λ (k : ℕ). Summed p.limit tested c (members_at s p) each₀ (counted None k) each) (sym e)
          (beyond (omega (arith, tests)) each g.added.places)
      going-spent _ (passing m f h l e live v) w = absurd ((neither p (passed_at p (i + m) live)).1 w)

      module _ (m : ℕ) (f : Failed s p i m) (h : i + m ≤ span_at p) (e : passes_at s p (i + m) ≡ true) where
        abbrev prefix : List ℤ
        prefix = take p.k p.low ++ (value_at p (i + m) ∷ [])

        abbrev found : Members
        found = members (set_from s 0) prefix (rest_at p)

        -- a value passes
        going_on : (n : Members) → n ≡ found → (each' : List ℕ) → Added c n.points each each' → (whole' t' : ℕ) → whole' ≡ whole + length n.points → t' ≡ t + m + 1 + n.tested → t' ≤ p.limit
            → Going s p tested c each₀ each' whole' t' (i + m + 1)
        going_on n q each' a whole' t' ew et l =
            let x = g.many in let y = g.sum in let z = g.few in
            let k : length n.points ≤ suc n.tested = subst (λ (o : Members). length o.points ≤ suc o.tested) (sym q) (members-few (set_from s 0) (rest_at p) prefix) in
            record {
              so_far = both g.so_far (met s p d.standing m n);
              all =
                  both-assoc g.so_far (met s p d.standing m n) (members_from s p (i + m + 1))
                  ∙ ap (both g.so_far) (sym (then-passes s p d.standing m i f h e n q)) ∙ g.all;
              many = omega (arith, length-append g.so_far.points n.points);
              sum = omega arith;
              few = omega (arith, length-append g.so_far.points n.points);
              inside = l;
              added = added-both g.added a;
            }

        -- as the level below has its members
        abbrev under : List Bool → Members
        under live = members_at s (next_of p (lows_at p (i + m)) (highs_at p (i + m)) live)

        below-is : (live : List Bool) → under live ≡ found
        below-is live = sym (fixed-is s p.n p.k p.low p.high d.standing (value_at p (i + m)) (members (set_from s 0)))

      -- it is the last axis: m members, of which this is the first
      pub going-at : (r : Stop) → Climbed s p i t r → (to : Passed) → r.way ≡ Point to → (m : ℕ) (each' : List ℕ) → Gathered s p (to.next - 1) (t + r.tested - 1) c m each each'
          → Going s p tested c each₀ each' (whole + m) (t + r.tested - 1 + m) (to.next - 1 + m)
      going-at _ (past m f e l) to w k each' a = cc
      going-at _ (exhausted m f h e) to w k each' a = cc
      going-at _ (passing m f h l e live v) to w k each' a =
          let z = ap (λ (x : Passed). x.next) (way-last p (passed_at p (i + m) live) to w).1 in
          let x : to.next - 1 ≡ i + m = omega arith in let y : t + (m + 1) - 1 ≡ t + m = omega arith in
          go (to.next - 1) (t + (m + 1) - 1) x y a
        where
          last : p.k + 1 ≡ p.n
          last = (way-last p (passed_at p (i + m) live) to w).0

          all_of : (n : ℕ) → n ≡ i + m → k ≤ suc (span_at p) - n → ((j : ℕ) → j < k → passes_at s p (n + j) ≡ true)
              → both (both g.so_far (record { points = points_at s p d.standing n k; tested = m + k })) (members_from s p (n + k)) ≡ members_at s p
          all_of n x b q =
              let z : m + (k + (members_from s p (n + k)).tested) ≡ m + k + (members_from s p (n + k)).tested = omega arith in
              both-assoc g.so_far (record { points = points_at s p d.standing n k; tested = m + k }) (members_from s p (n + k))
              ∙ ap (both g.so_far)
              (sym
              (some-fail s p d.standing m i (omega arith) f
              ∙ ap (both (record { points = []; tested = m })) (ap (members_from s p) (sym x) ∙ some-pass s p d.standing last k n b q)
              ∙ same refl z))
              ∙ g.all

          go : (n u : ℕ) → n ≡ i + m → u ≡ t + m → Gathered s p n u c k each each' → Going s p tested c each₀ each' (whole + k) (u + k) (n + k)
          go n u x y a =
              let q = g.many in let z = g.sum in let few = g.few in let b = a.lasts.inside in let o = a.lasts.room in
              let ps : List (List ℤ) = points_at s p d.standing n k in
              record {
                so_far = both g.so_far (record { points = ps; tested = m + k });
                all = all_of n x (omega arith) a.lasts.passed;
                many = omega (arith, length-append g.so_far.points ps, points-length s p d.standing k n);
                sum = omega arith;
                few = omega (arith, length-append g.so_far.points ps, points-length s p d.standing k n);
                inside = o;
                added = added-both g.added
                    (record { places = a.added.places; at = λ j h. a.added.at j h ∙ ap (λ (w : ℕ). get_or each j 0 + w) (points-same s p d.standing last c.axis (c.first +ℤ pos j) k n) });
              }

      -- there are axes left: the members below
      pub going-below : (r : Stop) → Climbed s p i t r → (to : Passed) → r.way ≡ Below to → (u : Counted) (each' : List ℕ) → Summed to.at.limit (t + r.tested) c (members_at s to.at) each u each' → (more : ℕ) → u.whole ≡ Some more
          → Going s p tested c each₀ each' (whole + more) u.tested to.next
      going-below _ (past m f e l) to w u each' b more q = cc
      going-below _ (exhausted m f h e) to w u each' b more q = cc
      going-below _ (passing m f h l e live v) to w u each' b more q =
          let y = (way-more p (passed_at p (i + m) live) to w).1 in
          subst (λ (x : Passed). Going s p tested c each₀ each' (whole + more) u.tested x.next) (sym y)
          (go u each' (subst (λ (x : Passed). Summed x.at.limit (t + (m + 1)) c (members_at s x.at) each u each') y b) q)
        where
          go : (u : Counted) (each' : List ℕ) → Summed p.limit (t + (m + 1)) c (under m f h e live) each u each' → u.whole ≡ Some more → Going s p tested c each₀ each' (whole + more) u.tested (i + m + 1)
          go _ _ (within k each' a) q =
              let n : Members = under m f h e live in let z : length n.points ≡ more = cc in
              going_on m f h e n (below-is m f h e live) each' a (whole + more) (t + (m + 1) + n.tested) (omega arith) (omega arith) k
          go _ _ (beyond k each' a) q = cc

      pub going-out : (r : Stop) → Climbed s p i t r → (to : Passed) → r.way ≡ Below to → (u : Counted) (each' : List ℕ) → Summed to.at.limit (t + r.tested) c (members_at s to.at) each u each' → u.whole ≡ None
          → Summed p.limit tested c (members_at s p) each₀ u each'
      going-out _ (past m f e l) to w u each' b q = cc
      going-out _ (exhausted m f h e) to w u each' b q = cc
      going-out _ (passing m f h l e live v) to w u each' b q =
          let y = (way-more p (passed_at p (i + m) live) to w).1 in
          go u each' (subst (λ (x : Passed). Summed x.at.limit (t + (m + 1)) c (members_at s x.at) each u each') y b) q
        where
          go : (u : Counted) (each' : List ℕ) → Summed p.limit (t + (m + 1)) c (under m f h e live) each u each' → u.whole ≡ None → Summed p.limit tested c (members_at s p) each₀ u each'
          go _ _ (within k each' a) q = cc
          go _ _ (beyond k each' a) q =
              let y = g.sum in let z = ap (λ (n : Members). n.tested) (then-passes s p d.standing m i f h e (under m f h e live) (below-is m f h e live)) in
              beyond (omega (arith, tests)) each' (a ∙ g.added.places)

-- what is known at a point: its number, the tests before it, and that it passes
pub record Met (s : List ℕ) (p : Prefix) (i t tested next : ℕ) : Type 0 where
  pub some : 0 < next
  pub one : 0 < tested
  pub here : next - 1 ≤ span_at p
  pub later : i ≤ next - 1
  pub room : t + tested - 1 < p.limit
  pub passes : passes_at s p (next - 1) ≡ true

pub climbed-met : {s : List ℕ} {p : Prefix} {i t : ℕ} (r : Stop) → Climbed s p i t r → (to : Passed) → r.way ≡ Point to → Met s p i t r.tested to.next
climbed-met _ (past m f e l) to w = cc
climbed-met _ (exhausted m f h e) to w = cc
climbed-met {s} {p} {i} _ (passing m f h l e live v) to w =
    let y = ap (λ (x : Passed). x.next) (way-last p (passed_at p (i + m) live) to w).1 in
    let z : i + m ≡ to.next - 1 = omega arith in
    record { some = omega arith; one = omega arith; here = omega arith; later = omega arith; room = omega arith; passes = subst (λ (j : ℕ). passes_at s p j ≡ true) z e }
