-- The walk of the first-point search, level by level, with what is left of the limit.
use mathlib.Core.Path.{◌≡◌, refl, sym, ap, ap₂, ◌∙◌, subst, subst₂}
use mathlib.Core.Bool.{Bool, true, false, cond}
use mathlib.Core.List.{List, [], ◌∷◌, ◌++◌, map}
use mathlib.Core.Option.{Option, none, some}
use Prim.Native.Nat.{ℕ, zero, suc, ◌+◌, ◌-◌, ◌≤◌, ◌<◌}
use native.Mathlib.Numerals.{add-one}
use native.Mathlib.Omega.{arith}
use lib.Dec.{leb, ltb, eqb, le→leb}
use lib.IntN.{ℤ, pos, nat_abs, ◌+ℤ◌, ◌-ℤ◌}
use lib.Signed.{◌≤ℤ◌}
use lib.ListN.{length, take, drop, get_or, set, replicate, length-set, length-take, take-append-drop, drop_of_length-le}
use lib.Seq.{take-suc-set, take-take, drop-set-lt, drop-cons, get_or-take, get_or-set_same, get_or-set_other, take-set-lt}
use borrow.Author.Tests.{le-leb, lt-leb, eqb-true, eqb-false, ltb-true, ltb-false}
use Rattle.integers.specs.Z.{Within}
use Rattle.integers.specs.Lin.{le, eq, abs, lin, lia-le, lia-eq, lia-abs}
use Rattle.integers.specs.Order.{pos-nonneg}
use Rattle.integers.specs.Size.{nat_abs-nonneg}
use Rattle.model.specs.Lists.{any}
use Rattle.model.specs.Sets.{Set}
use Rattle.codec.specs.Places.{set_from}
use Rattle.enumeration.specs.Search.{Interval, only, can_hold, Walk, or_else, one_more, upward, width, walk, Found, at, nothing, spent, Tallied, found_of, box_of}
use Rattle.search.specs.Sides.{side, limited, sides_of, Standing, padded, outcome_of, trail_of}
use Rattle.search.specs.Levels.{ok_at, walk_at, level_of, span_at, value_at, rest_at, passes_at, Ready, trail, next_of, way_at, stop_at, lows_at, highs_at, Failed, Climbed, past, exhausted, passing}
use Rattle.search.specs.declared.levels.Passed.{Passed}
use Rattle.search.specs.declared.levels.Way.{Way}
use Rattle.search.specs.declared.levels.Way.TheVariants.{Past, Point, Below}
use Rattle.search.specs.declared.levels.Way.TheVariants as W
use Rattle.search.specs.declared.levels.Outcome.{Outcome}
use Rattle.search.specs.declared.levels.Outcome.TheVariants.{At, Nothing, Spent}
use Rattle.search.specs.declared.first.FirstPoint.{FirstPoint}
use Rattle.search.specs.declared.levels.Prefix.{Prefix}
use Rattle.search.specs.declared.levels.Stop.{Stop}
use Rattle.enumeration.proofs.Windows.{box-take}
use Rattle.query.proofs.Points.{le_yes}
use Rattle.search.specs.Live.{Live}
use Rattle.bounds.proofs.Reading.{set-within}

pub lt_of : (a b : ℕ) → a ≤ b → (a ≡ b → ⊥) → a < b
lt_of a b h f = go (ltb a b) refl
  where
    go : (x : Bool) → ltb a b ≡ x → a < b
    go true e = ltb-true a b e
    go false e = let l = ltb-false a b e in absurd (f (omega arith))

-- ---- the limit
pub limited-in : (limit t : ℕ) (w : Walk) → t + w.tested ≤ limit → limited limit t w ≡ record { found = found_of w.found; tested = t + w.tested }
limited-in limit t w h =
    ap (λ (b : Bool). cond b (record { found = found_of w.found; tested = t + w.tested }) (record { found = spent; tested = limit })) (le-leb (t + w.tested) limit h)

pub limited-over : (limit t : ℕ) (w : Walk) → limit < t + w.tested → limited limit t w ≡ record { found = spent; tested = limit }
limited-over limit t w h =
    ap (λ (b : Bool). cond b (record { found = found_of w.found; tested = t + w.tested }) (record { found = spent; tested = limit })) (lt-leb (t + w.tested) limit h)

limited-more : (limit t : ℕ) (w : Walk) → limited limit t (one_more w) ≡ limited limit (t + 1) w
limited-more limit t w =
    let e : t + suc w.tested ≡ t + 1 + w.tested = omega arith in
    ap (λ (m : ℕ). cond (leb m limit) (record { found = found_of w.found; tested = m }) (record { found = spent; tested = limit })) e

-- ---- one value more
module _ (ok : ℤ → Bool) (inside : ℤ → Walk) (c : ℕ) (x : ℤ) where
  up-fail : ok x ≡ false → upward ok inside (suc c) x ≡ one_more (upward ok inside c (x +ℤ pos 1))
  up-fail e = rw (e, upward)

  up-pass : ok x ≡ true → upward ok inside (suc c) x ≡ one_more (or_else (inside x) (upward ok inside c (x +ℤ pos 1)))
  up-pass e = rw (e, upward)

  pub limited-fail : (limit t : ℕ) → ok x ≡ false → limited limit t (upward ok inside (suc c) x) ≡ limited limit (t + 1) (upward ok inside c (x +ℤ pos 1))
  limited-fail limit t e = ap (limited limit t) (up-fail e) ∙ limited-more limit t (upward ok inside c (x +ℤ pos 1))

  pub limited-pass : (limit t : ℕ) → ok x ≡ true → limited limit t (upward ok inside (suc c) x) ≡ limited limit (t + 1) (or_else (inside x) (upward ok inside c (x +ℤ pos 1)))
  limited-pass limit t e = ap (limited limit t) (up-pass e) ∙ limited-more limit t (or_else (inside x) (upward ok inside c (x +ℤ pos 1)))

  pub limited-spent : (limit t : ℕ) → t ≡ limit → limited limit t (upward ok inside (suc c) x) ≡ record { found = spent; tested = t }
  limited-spent limit t e = go (ok x) refl
    where
      done : (w : Walk) → limited limit t (one_more w) ≡ record { found = spent; tested = t }
      done w = limited-over limit t (one_more w) (omega arith) ∙ ap (λ (m : ℕ). record { found = spent; tested = m }) (sym e)

      go : (b : Bool) → ok x ≡ b → limited limit t (upward ok inside (suc c) x) ≡ record { found = spent; tested = t }
      go true q = ap (limited limit t) (up-pass q) ∙ done (or_else (inside x) (upward ok inside c (x +ℤ pos 1)))
      go false q = ap (limited limit t) (up-fail q) ∙ done (upward ok inside c (x +ℤ pos 1))

-- ---- what a level below says
module _ (limit t : ℕ) (w v : Walk) where
  else-none : w.found ≡ none → limited limit t (or_else w v) ≡ limited limit (t + w.tested) v
  else-none e =
      let a : t + (w.tested + v.tested) ≡ t + w.tested + v.tested = omega arith in
      rw (e, or_else) (ap (λ (m : ℕ). cond (leb m limit) (record { found = found_of v.found; tested = m }) (record { found = spent; tested = limit })) a)

  else-some : (p : List ℤ) → w.found ≡ some p → limited limit t (or_else w v) ≡ limited limit t w
  else-some p e = subst (λ (o : Option (List ℤ)). limited limit t (or_else (record { found = o; tested = w.tested }) v) ≡ limited limit t (record { found = o; tested = w.tested })) (sym e) refl

  -- nothing there: the next values
  pub limited-none : (m : ℕ) → limited limit t w ≡ record { found = nothing; tested = m } → limited limit t (or_else w v) ≡ limited limit m v
  limited-none m e = go (leb (t + w.tested) limit) refl w.found refl
    where
      no : {f g : Found} {i j : ℕ} → ◌≡◌ {A = Tallied} (record { found = f; tested = i }) (record { found = g; tested = j }) → f ≡ g
      no q = ap (λ (r : Tallied). r.found) q

      go : (b : Bool) → leb (t + w.tested) limit ≡ b → (o : Option (List ℤ)) → w.found ≡ o → limited limit t (or_else w v) ≡ limited limit m v
      go false q o r = let z : spent ≡ nothing = no (ap (λ (b : Bool). cond b (record { found = found_of w.found; tested = t + w.tested }) (record { found = spent; tested = limit })) (sym q) ∙ e) in let y : ◌≡◌ {A = ℕ} 0 1 = cc in absurd (omega arith)
      go true q none r =
          let z : t + w.tested ≡ m = ap (λ (r : Tallied). r.tested) (ap (λ (b : Bool). cond b (record { found = found_of w.found; tested = t + w.tested }) (record { found = spent; tested = limit })) (sym q) ∙ e) in
          else-none r ∙ ap (λ (i : ℕ). limited limit i v) z
      go true q (some p) r =
          let z : found_of w.found ≡ nothing = no (ap (λ (b : Bool). cond b (record { found = found_of w.found; tested = t + w.tested }) (record { found = spent; tested = limit })) (sym q) ∙ e) in
          let a : at p ≡ nothing = ap found_of (sym r) ∙ z in let y : ◌≡◌ {A = ℕ} 0 1 = cc in absurd (omega arith)

  -- something there, or the limit
  pub limited-some : ((limited limit t w).found ≡ nothing → ⊥) → limited limit t (or_else w v) ≡ limited limit t w
  limited-some h = go w.found refl (leb (t + w.tested) limit) refl
    where
      over : limit < t + w.tested → w.found ≡ none → limited limit t (or_else w v) ≡ limited limit t w
      over l r = else-none r ∙ limited-over limit (t + w.tested) v (omega arith) ∙ sym (limited-over limit t w l)

      go : (o : Option (List ℤ)) → w.found ≡ o → (b : Bool) → leb (t + w.tested) limit ≡ b → limited limit t (or_else w v) ≡ limited limit t w
      go (some p) r b q = else-some p r
      go none r true q = absurd (h (ap (λ (x : Tallied). x.found) (limited-in limit t w (borrow.Author.Tests.leb-true (t + w.tested) limit q)) ∙ ap found_of r))
      go none r false q = over (borrow.Author.Tests.leb-false (t + w.tested) limit q) r

-- ---- how a walk ended

-- it found nothing, or not
pub trail-none : (t : Tallied) (m : ℕ) → trail Nothing m ≡ trail_of t → t ≡ record { found = nothing; tested = m }
trail-none t m e = go t.found t.tested e
  where
    go : (f : Found) (j : ℕ) → trail Nothing m ≡ trail_of (record { found = f; tested = j }) → ◌≡◌ {A = Tallied} (record { found = f; tested = j }) (record { found = nothing; tested = m })
    go (at p) j e = let z : Nothing ≡ At (padded p) = ap (λ (r : FirstPoint). r.outcome) e in cc
    go nothing j e = let z : m ≡ j = ap (λ (r : FirstPoint). r.tested) e in cc
    go spent j e = let z : Nothing ≡ Spent = ap (λ (r : FirstPoint). r.outcome) e in cc

pub trail-some : (t : Tallied) (o : Outcome) (m : ℕ) → trail o m ≡ trail_of t → (o ≡ Nothing → ⊥) → t.found ≡ nothing → ⊥
trail-some t o m e h z = h (ap (λ (r : FirstPoint). r.outcome) e ∙ ap outcome_of z)

-- ---- sides
box-drop : (k : ℕ) (u v : List ℤ) → drop k (box_of u v) ≡ box_of (drop k u) (drop k v)
box-drop zero u v = refl
box-drop (suc k) [] v = refl
box-drop (suc k) (x ∷ u) [] = sym (box-nil (drop k u))
  where
    box-nil : (u : List ℤ) → box_of u [] ≡ []
    box-nil [] = refl
    box-nil (x ∷ u) = refl
box-drop (suc k) (x ∷ u) (y ∷ v) = box-drop k u v

box-only : (p : List ℤ) → box_of p p ≡ map only p
box-only [] = refl
box-only (x ∷ p) = ap (λ (b : List Interval). only x ∷ b) (box-only p)

box-cons : (u v : List ℤ) (k : ℕ) → k < length u → k < length v → drop k (box_of u v) ≡ side (get_or u k (pos 0)) (get_or v k (pos 0)) ∷ drop (suc k) (box_of u v)
box-cons u v k h l =
    box-drop k u v ∙ ap₂ box_of (drop-cons u k (pos 0) h) (drop-cons v k (pos 0) l)
    ∙ ap (λ (b : List Interval). side (get_or u k (pos 0)) (get_or v k (pos 0)) ∷ b) (sym (box-drop (suc k) u v))

-- the fixed axes are the prefix
pub prefix-sides : (n k : ℕ) (low high : List ℤ) → k ≤ n → take k low ≡ take k high → map only (take k low) ++ drop k (sides_of n low high) ≡ sides_of n low high
prefix-sides n k low high h e =
    ap (λ (b : List Interval). b ++ drop k (sides_of n low high))
    (sym (box-take k (take n low) (take n high) ∙ ap₂ box_of (take-take k n low h) (take-take k n high h ∙ sym e) ∙ box-only (take k low)))
    ∙ take-append-drop k (sides_of n low high)

-- ---- one level: below a value x, and its values from number i on
abbrev below : Set → List ℤ → List Interval → ℤ → Walk
below s p bs x = walk s (p ++ (x ∷ [])) bs

abbrev values_from : List ℕ → Prefix → ℕ → Walk
values_from s p i =
    upward (ok_at (set_from s 0) (take p.k p.low) (rest_at p)) (below (set_from s 0) (take p.k p.low) (rest_at p)) (suc (span_at p) - i) (value_at p i)

abbrev pub onward : List ℕ → Prefix → ℕ → ℕ → Tallied
onward s p i t = limited p.limit t (values_from s p i)

limited-most : (limit t : ℕ) (w : Walk) → (limited limit t w).tested ≤ limit
limited-most limit t w = go (leb (t + w.tested) limit) refl
  where
    go : (b : Bool) → leb (t + w.tested) limit ≡ b → (limited limit t w).tested ≤ limit
    go true q = let h = borrow.Author.Tests.leb-true (t + w.tested) limit q in let e = ap (λ (r : Tallied). r.tested) (limited-in limit t w h) in omega arith
    go false q = let h = borrow.Author.Tests.leb-false (t + w.tested) limit q in let e = ap (λ (r : Tallied). r.tested) (limited-over limit t w h) in omega arith

walk_more : (s : Set) (p : List ℤ) (b : Interval) (bs : List Interval) → walk s p (b ∷ bs) ≡ upward (ok_at s p bs) (below s p bs) (width b) b.low
unfolding walk
walk_more s p b bs = refl

walk-done : (s : Set) (p : List ℤ) → walk s p [] ≡ record { found = some p; tested = 0 }
unfolding walk
walk-done s p = refl

module _ (s : List ℕ) (n k : ℕ) (low high : List ℤ) (g : Standing s n k low high) where
  abbrev S : Set
  S = set_from s 0

  abbrev rest : List Interval
  rest = drop (suc k) (sides_of n low high)

  abbrev first : ℤ
  first = get_or low k (pos 0)

  abbrev pub span : ℕ
  span = nat_abs (get_or high k (pos 0) -ℤ get_or low k (pos 0))

  abbrev goal : ℕ → ℕ → Tallied
  goal limit tested = limited limit tested (walk S (take k low) (drop k (sides_of n low high)))

  -- the level's own side and those below it; how many values it has
  pub own-side : drop k (sides_of n low high) ≡ side (get_or low k (pos 0)) (get_or high k (pos 0)) ∷ rest
  own-side =
      let a = g.axes in let b = g.left in let c = g.lows in let d = g.highs in
      box-cons (take n low) (take n high) k (omega (arith, length-take n low)) (omega (arith, length-take n high))
      ∙ ap₂ (λ (x y : ℤ). side x y ∷ rest) (get_or-take n low k (pos 0) b) (get_or-take n high k (pos 0) b)

  pub own-width : width (side (get_or low k (pos 0)) (get_or high k (pos 0))) ≡ suc span
  own-width = ap (λ (b : Bool). cond b (suc span) 0) (le_yes first (get_or high k (pos 0)) (g.ordered k))

  up-all : walk S (take k low) (drop k (sides_of n low high)) ≡ upward (ok_at S (take k low) rest) (below S (take k low) rest) (suc span) first
  up-all =
      ap (walk S (take k low)) own-side ∙ walk_more S (take k low) (side first (get_or high k (pos 0))) rest
      ∙ ap (λ (c : ℕ). upward (ok_at S (take k low) rest) (below S (take k low) rest) c first) own-width

  -- none is below the last
  pub rest-none : k + 1 ≡ n → rest ≡ []
  rest-none e = box-drop (suc k) (take n low) (take n high) ∙ ap (λ (u : List ℤ). box_of u (drop (suc k) (take n high))) (drop_of_length-le (take n low) {i = suc k} (omega (arith, length-take n low)))

  module _ (v : ℤ) where
    abbrev low' : List ℤ
    low' = set low k v

    abbrev high' : List ℤ
    high' = set high k v

    taken : take (suc k) low' ≡ take k low ++ (v ∷ [])
    taken = let a = g.axes in let b = g.left in let c = g.lows in take-suc-set low k v (omega arith)

    pub both : take (suc k) low' ≡ take (suc k) high'
    both = let a = g.axes in let b = g.left in let d = g.highs in taken ∙ ap (λ (p : List ℤ). p ++ (v ∷ [])) g.fixed ∙ sym (take-suc-set high k v (omega arith))

    cut : (u : List ℤ) → drop (suc k) (take n (set u k v)) ≡ drop (suc k) (take n u)
    cut u = let b = g.left in ap (drop (suc k)) (take-set-lt n u k v b) ∙ drop-set-lt (suc k) (take n u) k v (omega arith)

    same_rest : drop (suc k) (sides_of n low' high') ≡ rest
    same_rest = box-drop (suc k) (take n low') (take n high') ∙ ap₂ box_of (cut low) (cut high) ∙ sym (box-drop (suc k) (take n low) (take n high))

    pub ok-is : ok_at S (take k low) rest v ≡ any (can_hold (sides_of n low' high')) S
    ok-is =
        let b = g.left in
        ap₂ (λ (p : List ℤ) (r : List Interval). any (can_hold (map only p ++ r)) S) (sym taken) (sym same_rest)
        ∙ ap (λ (y : List Interval). any (can_hold y) S) (prefix-sides n (suc k) low' high' (omega arith) both)

    -- as the code tests it
    pub ok-set : (l h : List ℤ) → l ≡ low' → h ≡ high' → (x : Bool) → x ≡ any (can_hold (sides_of n l h)) S → ok_at S (take k low) rest v ≡ x
    ok-set l h el eh x e = ok-is ∙ ap₂ (λ (u w : List ℤ). any (can_hold (sides_of n u w)) S) (sym el) (sym eh) ∙ sym e

    -- the prefix with v and the sides below it, as the sides with v fixed have them
    pub fixed-is : {A : Type 0} (f : List ℤ → List Interval → A) → f (take k low ++ (v ∷ [])) rest ≡ f (take (k + 1) low') (drop (k + 1) (sides_of n low' high'))
    fixed-is f = ap₂ f (sym taken) (sym same_rest) ∙ ap (λ (j : ℕ). f (take j low') (drop j (sides_of n low' high'))) (sym (add-one k))

    below_end : k + 1 ≡ n → below S (take k low) rest v ≡ record { found = some (take k low ++ (v ∷ [])); tested = 0 }
    below_end e = ap (walk S (take k low ++ (v ∷ []))) (rest-none e) ∙ walk-done S (take k low ++ (v ∷ []))

    pub padded-is : k + 1 ≡ n → padded (take k low ++ (v ∷ [])) ≡ low'
    padded-is e =
        let a = g.axes in let b = g.left in let c = g.lows in
        let q : take k low ++ (v ∷ []) ≡ take n low' = sym taken ∙ ap (λ (j : ℕ). take j low') (sym (add-one k) ∙ e) in
        let m : 8 - length (take n low') ≡ 8 - n = omega (arith, length-take n low', length-set low k v) in
        ap padded q ∙ ap (λ (j : ℕ). take n low' ++ replicate j (pos 0)) m ∙ ap (λ (d : List ℤ). take n low' ++ d) (sym (drop-set-lt n low k v b ∙ g.absent)) ∙ take-append-drop n low'

    pub standing-next : k + 1 < n → Within 1048576 v → Standing s n (k + 1) low' high'
    standing-next l w =
        let a = g.axes in let b = g.left in let c = g.lows in let d = g.highs in
        record {
          accepted = g.accepted;
          axes = a;
          left = l;
          lows = length-set low k v ∙ c;
          highs = length-set high k v ∙ d;
          low_size = set-within 1048576 low k v g.low_size w (omega arith);
          high_size = set-within 1048576 high k v g.high_size w (omega arith);
          ordered = λ i. order i (eqb i k) refl;
          fixed = ap (λ (j : ℕ). take j low') (add-one k) ∙ both ∙ ap (λ (j : ℕ). take j high') (sym (add-one k));
          absent = drop-set-lt n low k v b ∙ g.absent;
        }
      where
        order : (i : ℕ) (x : Bool) → eqb i k ≡ x → get_or (set low k v) i (pos 0) ≤ℤ get_or (set high k v) i (pos 0)
        order i true e =
            let q = eqb-true i k e in let a = g.axes in let b = g.left in let c = g.lows in let d = g.highs in
            let x : get_or (set low k v) i (pos 0) ≡ v = ap (λ (j : ℕ). get_or (set low k v) j (pos 0)) q ∙ get_or-set_same low k v (pos 0) (omega arith) in
            let y : get_or (set high k v) i (pos 0) ≡ v = ap (λ (j : ℕ). get_or (set high k v) j (pos 0)) q ∙ get_or-set_same high k v (pos 0) (omega arith) in
            subst (λ (z : ℤ). z ≤ℤ get_or (set high k v) i (pos 0)) (sym x) (subst (λ (z : ℤ). v ≤ℤ z) (sym y) (lib.Signed.≤ℤ_refl v))
        order i false e =
            let q = eqb-false i k e in
            subst (λ (z : ℤ). z ≤ℤ get_or (set high k v) i (pos 0)) (sym (get_or-set_other low k i v (pos 0) q)) (subst (λ (z : ℤ). get_or low i (pos 0) ≤ℤ z) (sym (get_or-set_other high k i v (pos 0) q)) (g.ordered i))

  -- a value of the side is a coordinate
  pub value-within : (i : ℕ) → i ≤ span → Within 1048576 (first +ℤ pos i)
  value-within i h =
      let a : Within 1048576 first = g.low_size.at k in let b : Within 1048576 (get_or high k (pos 0)) = g.high_size.at k in
      let d : pos span ≡ get_or high k (pos 0) -ℤ first = nat_abs-nonneg (lia-le (first ∷ get_or high k (pos 0) ∷ []) (le (g.ordered k) ∷ []) (search lin depth 30) (omega arith)) in
      let m : pos i ≤ℤ pos span = record { le = le→leb i span h } in
      lia-abs (first ∷ get_or high k (pos 0) ∷ pos i ∷ pos span ∷ []) (abs a ∷ abs b ∷ eq d ∷ le m ∷ le (pos-nonneg i) ∷ []) (search lin depth 30) (omega arith)

  -- ---- the loop over the values: from number i on, with t tested, the walk says G
  abbrev from : ℕ → Walk
  from i = upward (ok_at S (take k low) rest) (below S (take k low) rest) (suc span - i) (first +ℤ pos i)

  pub level-start : (limit tested : ℕ) → limited limit tested (from 0) ≡ goal limit tested
  level-start limit tested =
      let z : first +ℤ pos 0 ≡ first = lia-eq (first ∷ []) [] (search lin depth 30) (omega arith) in let e : suc span - 0 ≡ suc span = omega arith in
      ap₂ (λ (c : ℕ) (x : ℤ). limited limit tested (upward (ok_at S (take k low) rest) (below S (take k low) rest) c x)) e z ∙ ap (limited limit tested) (sym up-all)

  record Climbing (G : Tallied) (limit t i : ℕ) : Type 0 where
    within : t ≤ limit
    is : limited limit t (from i) ≡ G

  climb-end : (G : Tallied) (limit t i : ℕ) → Climbing G limit t i → span < i → trail Nothing t ≡ trail_of G
  climb-end G limit t i c h =
      let w = c.within in
      let e : suc span - i ≡ 0 = omega arith in
      let z : t + 0 ≡ t = omega arith in
      sym (ap trail_of (sym c.is ∙ ap (λ (j : ℕ). limited limit t (upward (ok_at S (take k low) rest) (below S (take k low) rest) j (first +ℤ pos i))) e
      ∙ limited-in limit t (record { found = none; tested = 0 }) (omega arith) ∙ ap (λ (j : ℕ). record { found = nothing; tested = j }) z))

  module _ (G : Tallied) (limit t i : ℕ) (c : Climbing G limit t i) (h : i ≤ span) where
    abbrev more : Walk
    more = upward (ok_at S (take k low) rest) (below S (take k low) rest) (span - i) (first +ℤ pos i +ℤ pos 1)

    now-is : limited limit t (upward (ok_at S (take k low) rest) (below S (take k low) rest) (suc (span - i)) (first +ℤ pos i)) ≡ G
    now-is = let e : suc (span - i) ≡ suc span - i = omega arith in ap (λ (j : ℕ). limited limit t (upward (ok_at S (take k low) rest) (below S (take k low) rest) j (first +ℤ pos i))) e ∙ c.is

    more-is : from (i + 1) ≡ more
    more-is =
        let x : first +ℤ pos (i + 1) ≡ first +ℤ pos i +ℤ pos 1 = lia-eq (first ∷ pos i ∷ []) [] (search lin depth 30) (omega arith) in
        let j : suc span - (i + 1) ≡ span - i = omega arith in
        ap₂ (λ (d : ℕ) (y : ℤ). upward (ok_at S (take k low) rest) (below S (take k low) rest) d y) j x

    climb-spent : t ≡ limit → trail Spent t ≡ trail_of G
    climb-spent e = sym (ap trail_of (sym now-is ∙ limited-spent (ok_at S (take k low) rest) (below S (take k low) rest) (span - i) (first +ℤ pos i) limit t e))

    climb-fail : t < limit → ok_at S (take k low) rest (first +ℤ pos i) ≡ false → Climbing G limit (t + 1) (i + 1)
    climb-fail l e =
        record { within = omega arith; is = ap (limited limit (t + 1)) more-is ∙ sym (limited-fail (ok_at S (take k low) rest) (below S (take k low) rest) (span - i) (first +ℤ pos i) limit t e) ∙ now-is }

    module _ (l : t < limit) (e : ok_at S (take k low) rest (first +ℤ pos i) ≡ true) where
      passed : limited limit (t + 1) (or_else (below S (take k low) rest (first +ℤ pos i)) more) ≡ G
      passed = sym (limited-pass (ok_at S (take k low) rest) (below S (take k low) rest) (span - i) (first +ℤ pos i) limit t e) ∙ now-is

      climb-at : k + 1 ≡ n → trail (At (set low k (first +ℤ pos i))) (t + 1) ≡ trail_of G
      climb-at q =
          let w : Walk = record { found = some (take k low ++ ((first +ℤ pos i) ∷ [])); tested = 0 } in
          let z : t + 1 + 0 ≡ t + 1 = omega arith in
          sym (ap trail_of (sym passed ∙ ap (λ (x : Walk). limited limit (t + 1) (or_else x more)) (below_end (first +ℤ pos i) q) ∙ limited-in limit (t + 1) w (omega arith) ∙ ap (λ (j : ℕ). record { found = at (take k low ++ ((first +ℤ pos i) ∷ [])); tested = j }) z)
          ∙ ap (λ (p : List ℤ). trail (At p) (t + 1)) (padded-is (first +ℤ pos i) q))

      climb-below : G ≡ limited limit (t + 1) (or_else (walk S (take (k + 1) (set low k (first +ℤ pos i))) (drop (k + 1) (sides_of n (set low k (first +ℤ pos i)) (set high k (first +ℤ pos i))))) (from (i + 1)))
      climb-below = sym passed ∙ ap₂ (λ (w v : Walk). limited limit (t + 1) (or_else w v)) (fixed-is (first +ℤ pos i) (walk S)) (sym more-is)

  -- m values that fail
  climb-run : (G : Tallied) (limit t i m : ℕ) → Climbing G limit t i → m ≤ suc span - i → t + m ≤ limit → ((j : ℕ) → j < m → ok_at S (take k low) rest (first +ℤ pos (i + j)) ≡ false) → Climbing G limit (t + m) (i + m)
  climb-run G limit t i zero c h l f = let a : t ≡ t + 0 = omega arith in let b : i ≡ i + 0 = omega arith in subst₂ (λ (x y : ℕ). Climbing G limit x y) a b c
  climb-run G limit t i (suc m) c h l f =
      let z : i + 0 ≡ i = omega arith in
      let o : ok_at S (take k low) rest (first +ℤ pos i) ≡ false = subst (λ (j : ℕ). ok_at S (take k low) rest (first +ℤ pos j) ≡ false) z (f 0 (omega arith)) in
      let d = climb-fail G limit t i c (omega arith) (omega arith) o in
      let r = climb-run G limit (t + 1) (i + 1) m d (omega arith) (omega arith) (λ j q. let y : i + suc j ≡ i + 1 + j = omega arith in subst (λ (e : ℕ). ok_at S (take k low) rest (first +ℤ pos e) ≡ false) y (f (suc j) (omega arith))) in
      let a : t + 1 + m ≡ t + suc m = omega arith in let b : i + 1 + m ≡ i + suc m = omega arith in subst₂ (λ (x y : ℕ). Climbing G limit x y) a b r

-- ---- the values from number `from` on, t of them failed
module _ (s : List ℕ) (p : Prefix) (from t : ℕ) (f : Failed s p from t) (i : ℕ) (e : i ≡ from + t) where
  -- n more
  pub failed-more : (n : ℕ) → Failed s p i n → Failed s p from (t + n)
  failed-more n h j l = go (ltb j t) refl
    where
      go : (x : Bool) → ltb j t ≡ x → passes_at s p (from + j) ≡ false
      go true q = f j (ltb-true j t q)
      go false q = let k = ltb-false j t q in let z : i + (j - t) ≡ from + j = omega arith in subst (λ (w : ℕ). passes_at s p w ≡ false) z (h (j - t) (omega arith))

  -- the next one passes, with the sides as the code has them
  pub climbed-passing : (tested : ℕ) → i ≤ span_at p → tested + t < p.limit → passes_at s p i ≡ true → (l h : List ℤ) → l ≡ lows_at p i → h ≡ highs_at p i → (live : List Bool) → Live s (sides_of p.n l h) live → (r : Stop) → r ≡ stop_at p l h live (t + 1) (i + 1)
      → Climbed s p from tested r
  climbed-passing tested here room ok l h el eh live still r q =
      subst (Climbed s p from tested) (sym (q ∙ ap₂ (λ (u v : List ℤ). stop_at p u v live (t + 1) (i + 1)) el eh ∙ ap (λ (j : ℕ). stop_at p (lows_at p j) (highs_at p j) live (t + 1) (j + 1)) e))
      (passing t f (omega arith) room (subst (λ (j : ℕ). passes_at s p j ≡ true) e ok) live
      (subst (λ (j : ℕ). Live s (sides_of p.n (lows_at p j) (highs_at p j)) live) e (subst₂ (λ (u v : List ℤ). Live s (sides_of p.n u v) live) el eh still)))

-- ---- where a climb stops, whatever is walked

-- a prefix of all axes is a point, and one with an axis left is gone below
pub way-last : (p : Prefix) (x q : Passed) → way_at p x ≡ Point q → (p.k + 1 ≡ p.n) × (q ≡ x)
way-last p x q w = go (eqb (p.k + 1) p.n) refl w
  where
    go : (b : Bool) → eqb (p.k + 1) p.n ≡ b → cond b (Point x) (Below x) ≡ Point q → (p.k + 1 ≡ p.n) × (q ≡ x)
    go true e w = (eqb-true (p.k + 1) p.n e, cc)
    go false e w = cc

pub way-more : (p : Prefix) (x q : Passed) → way_at p x ≡ Below q → (p.k + 1 ≡ p.n → ⊥) × (q ≡ x)
way-more p x q w = go (eqb (p.k + 1) p.n) refl w
  where
    go : (b : Bool) → eqb (p.k + 1) p.n ≡ b → cond b (Point x) (Below x) ≡ Below q → (p.k + 1 ≡ p.n → ⊥) × (q ≡ x)
    go true e w = cc
    go false e w = (eqb-false (p.k + 1) p.n e, cc)

-- the prefix q.at to go below, with t tested before it
pub record Descends (s : List ℕ) (p : Prefix) (t : ℕ) (q : Prefix) : Type 0 where
  pub axes : q.n ≡ p.n
  pub limit : q.limit ≡ p.limit
  pub count : q.count ≡ p.count
  pub deeper : q.n - q.k < p.n - p.k
  pub ready : Ready s q t

-- the prefix that passed with value i + m
abbrev pub passed_at : Prefix → ℕ → List Bool → Passed
passed_at p i live = record { at = next_of p (lows_at p i) (highs_at p i) live; next = i + 1 }

module _ (s : List ℕ) (p : Prefix) (i t : ℕ) where
  pub climbed-most : (r : Stop) → Climbed s p i t r → t + r.tested ≤ p.limit
  climbed-most _ (past m f e l) = l
  climbed-most _ (exhausted m f h e) = omega arith
  climbed-most _ (passing m f h l e live v) = omega arith

  -- past a value that passes fewer are left
  pub climbed-fewer : (r : Stop) → Climbed s p i t r → (q : Passed) → r.way ≡ Below q → suc (span_at p) - q.next < suc (span_at p) - i
  climbed-fewer _ (past m f e l) q w = cc
  climbed-fewer _ (exhausted m f h e) q w = cc
  climbed-fewer _ (passing m f h l e live v) q w = let z = ap (λ (x : Passed). x.next) (way-more p (passed_at p (i + m) live) q w).1 in omega arith

  pub climbed-below : Ready s p t → (r : Stop) → Climbed s p i t r → (q : Passed) → r.way ≡ Below q → Descends s p (t + r.tested) q.at
  climbed-below d _ (past m f e l) q w = cc
  climbed-below d _ (exhausted m f h e) q w = cc
  climbed-below d _ (passing m f h l e live v) q w =
      let y = way-more p (passed_at p (i + m) live) q w in
      let b = d.standing.left in let o : p.k + 1 < p.n = lt_of (p.k + 1) p.n (omega arith) y.0 in
      let g : Descends s p (t + (m + 1)) (next_of p (lows_at p (i + m)) (highs_at p (i + m)) live) = record {
        axes = refl;
        limit = refl;
        count = refl;
        deeper = omega arith;
        ready = record {
          standing = standing-next s p.n p.k p.low p.high d.standing (value_at p (i + m)) o (value-within s p.n p.k p.low p.high d.standing (i + m) h);
          within = omega arith;
          fits = d.fits;
          lives = v;
        };
      } in subst (λ (x : Passed). Descends s p (t + (m + 1)) x.at) (sym y.1) g

-- ---- what it says of the first-point walk

-- the level goes below a prefix, with t tested before it, and then on with its next values
abbrev pub Goes : List ℕ → Prefix → Tallied → ℕ → Passed → Type 0
Goes s p whole t q = whole ≡ limited p.limit t (or_else (walk_at s q.at) (values_from s p q.next))

-- how a level ended that goes below no prefix
abbrev pub outcome_at : Way → Outcome
outcome_at Past = Nothing
outcome_at W.Spent = Spent
outcome_at (Point q) = At q.at.low
outcome_at (Below q) = Nothing

module _ (s : List ℕ) (p : Prefix) (i t : ℕ) (d : Ready s p t) where
  -- m values failed
  after : (m : ℕ) → Failed s p i m → m ≤ suc (span_at p) - i → t + m ≤ p.limit
      → Climbing s p.n p.k p.low p.high d.standing (onward s p i t) p.limit (t + m) (i + m)
  after m f h l = climb-run s p.n p.k p.low p.high d.standing (onward s p i t) p.limit t i m (record { within = d.within; is = refl }) h l f

  and_one : (m : ℕ) → t + (m + 1) ≡ t + m + 1
  and_one m = omega arith

  pub climbed-past : (r : Stop) → Climbed s p i t r → r.way ≡ Past → trail Nothing (t + r.tested) ≡ trail_of (onward s p i t)
  climbed-past _ (past m f e l) w = climb-end s p.n p.k p.low p.high d.standing (onward s p i t) p.limit (t + m) (i + m) (after m f (omega arith) l) (omega arith)
  climbed-past _ (exhausted m f h e) w = cc
  climbed-past _ (passing m f h l e live v) w = go (eqb (p.k + 1) p.n) w
    where
      go : (b : Bool) → cond b (Point (passed_at p (i + m) live)) (Below (passed_at p (i + m) live)) ≡ Past → trail Nothing (t + (m + 1)) ≡ trail_of (onward s p i t)
      go true w = cc
      go false w = cc

  pub climbed-spent : (r : Stop) → Climbed s p i t r → r.way ≡ W.Spent → trail Spent (t + r.tested) ≡ trail_of (onward s p i t)
  climbed-spent _ (past m f e l) w = cc
  climbed-spent _ (exhausted m f h e) w = climb-spent s p.n p.k p.low p.high d.standing (onward s p i t) p.limit (t + m) (i + m) (after m f (omega arith) (omega arith)) h e
  climbed-spent _ (passing m f h l e live v) w = go (eqb (p.k + 1) p.n) w
    where
      go : (b : Bool) → cond b (Point (passed_at p (i + m) live)) (Below (passed_at p (i + m) live)) ≡ W.Spent → trail Spent (t + (m + 1)) ≡ trail_of (onward s p i t)
      go true w = cc
      go false w = cc

  pub climbed-point : (r : Stop) → Climbed s p i t r → (q : Passed) → r.way ≡ Point q → trail (At q.at.low) (t + r.tested) ≡ trail_of (onward s p i t)
  climbed-point _ (past m f e l) q w = cc
  climbed-point _ (exhausted m f h e) q w = cc
  climbed-point _ (passing m f h l e live v) q w =
      let y = way-last p (passed_at p (i + m) live) q w in
      ap (λ (x : Passed). trail (At x.at.low) (t + (m + 1))) y.1
      ∙ ap (trail (At (lows_at p (i + m)))) (and_one m)
      ∙ climb-at s p.n p.k p.low p.high d.standing (onward s p i t) p.limit (t + m) (i + m) (after m f (omega arith) (omega arith)) h l e y.0

  -- a level that goes below no prefix has ended
  pub climbed-ends : (r : Stop) → Climbed s p i t r → ((q : Passed) → r.way ≡ Below q → ⊥) → trail (outcome_at r.way) (t + r.tested) ≡ trail_of (onward s p i t)
  climbed-ends r c n = go r.way refl
    where
      go : (w : Way) → r.way ≡ w → trail (outcome_at w) (t + r.tested) ≡ trail_of (onward s p i t)
      go Past e = climbed-past r c e
      go W.Spent e = climbed-spent r c e
      go (Point q) e = climbed-point r c q e
      go (Below q) e = absurd (n q e)

  pub climbed-goes : (r : Stop) → Climbed s p i t r → (q : Passed) → r.way ≡ Below q → Goes s p (onward s p i t) (t + r.tested) q
  climbed-goes _ (past m f e l) q w = cc
  climbed-goes _ (exhausted m f h e) q w = cc
  climbed-goes _ (passing m f h l e live v) q w =
      let y = way-more p (passed_at p (i + m) live) q w in
      let c = after m f (omega arith) (omega arith) in
      subst (λ (x : Passed). Goes s p (onward s p i t) (t + (m + 1)) x) (sym y.1)
      (climb-below s p.n p.k p.low p.high d.standing (onward s p i t) p.limit (t + m) (i + m) c h l e
      ∙ ap (λ (j : ℕ). limited p.limit j (or_else (walk_at s (next_of p (lows_at p (i + m)) (highs_at p (i + m)) live)) (values_from s p (i + m + 1)))) (sym (and_one m)))

-- ---- what the level below said: its walk, if t were tested before it
module _ (s : List ℕ) (p : Prefix) (whole : Tallied) (t : ℕ) (q : Passed) (same : q.at.limit ≡ p.limit) (g : Goes s p whole t q) (o : Outcome) (m : ℕ) (e : trail o m ≡ trail_of (level_of s q.at t)) where
  abbrev under : Tallied
  under = limited p.limit t (walk_at s q.at)

  said : trail o m ≡ trail_of under
  said = e ∙ ap (λ (j : ℕ). trail_of (limited j t (walk_at s q.at))) same

  -- a point, or the limit: so it is of this level
  pub level-found : (o ≡ Nothing → ⊥) → trail o m ≡ trail_of whole
  level-found f = said ∙ sym (ap trail_of (g ∙ limited-some p.limit t (walk_at s q.at) (values_from s p q.next) (trail-some under o m said f)))

  -- nothing: the next values
  pub level-none : o ≡ Nothing → (m ≤ p.limit) × (onward s p q.next m ≡ whole)
  level-none z =
      let u = trail-none under m (sym (ap (λ (x : Outcome). trail x m) z) ∙ said) in
      let l = limited-most p.limit t (walk_at s q.at) in let y = ap (λ (x : Tallied). x.tested) u in
      (omega arith, sym (g ∙ limited-none p.limit t (walk_at s q.at) (values_from s p q.next) m u))
