-- What a first-point search tells (document 01, "Asking"; 02, request 7): a prefix that fails has no member below it; spent exactly when
-- no low is over its high and the walk is longer than the limit; else none exactly when the box has no member, or the first one.
use mathlib.Core.Path.{◌≡◌, refl, sym, ap, ◌∙◌, subst}
use mathlib.Core.Bool.{Bool, true, false, not, ◌&&◌, cond}
use mathlib.Core.List.{List, [], ◌∷◌, ◌++◌, map}
use mathlib.Core.Option.{Option, none, some}
use Prim.Native.Nat.{ℕ, zero, suc, ◌≤◌, ◌<◌, zero-le}
use native.Mathlib.Omega.{arith}
use native.Mathlib.Nat.{not-suc-le-zero}
use lib.Dec.{T, leb, leb→le, nleb→lt}
use lib.IntN.{ℤ}
use lib.Signed.{le_z}
use lib.ListN.{length, take}
use Rattle.integers.specs.Order.{≤ℤ-trans}
use Rattle.model.specs.Lists.{all}
use Rattle.model.specs.Sets.{Set, in_set, well_formed}
use Rattle.codec.specs.Bytes.{Answer, refused, gives, number, decode}
use Rattle.codec.proofs.Decoded.{decode-formed, no_way}
use Rattle.query.proofs.Answers.{axes-some, axes-most}
use Rattle.enumeration.specs.Search.{Interval, only, passes, walk, Found, at, nothing, spent, Tallied, found_of, first_point, box_of, upright, shut, search_box, corners_fit, limit_fits, search_bytes}
use Rattle.model.proofs.Count.{from-T, to-T}
use Rattle.enumeration.proofs.Walks.{In, Says, can-pass, in-prefix, search-right}

-- ---- prefixes

-- a prefix p that fails, over the open sides bs, has no member below it
pub prefix-fails : (s : Set) → T (all well_formed s) → (p : List ℤ) (bs : List Interval) → passes s p bs ≡ false → (zs : List ℤ) → In zs bs → ¬ T (in_set (p ++ zs) s)
prefix-fails s formed p bs e zs h t = subst T e (can-pass (p ++ zs) (map only p ++ bs) s formed (in-prefix p zs bs h) t)

-- ---- spent, and the tally

true-false : {X : Type 0} → true ≡ false → X
true-false e = absurd (subst T e tt)

found-not-spent : (o : Option (List ℤ)) {X : Type 0} → found_of o ≡ spent → X
found-not-spent none e = let z : ◌≡◌ {A = ℕ} 0 1 = cc in no_way z
found-not-spent (some p) e = let z : ◌≡◌ {A = ℕ} 0 1 = cc in no_way z

-- how the answer comes: a shut window is not walked, of any other it is that of the unlimited walk
pub data Walked (s : Set) (box : List Interval) (limit : ℕ) : Tallied → Type 0 where
  closed : upright box ≡ false → Walked s box limit shut
  within : upright box ≡ true → (walk s [] box).tested ≤ limit → Walked s box limit (record { found = found_of (walk s [] box).found; tested = (walk s [] box).tested })
  beyond : upright box ≡ true → limit < (walk s [] box).tested → Walked s box limit (record { found = spent; tested = limit })

pub walked : (s : Set) (box : List Interval) (limit : ℕ) → Walked s box limit (search_box s box limit)
unfolding search_box first_point
walked s box limit = by (upright box) refl (leb (walk s [] box).tested limit) refl
  where
    by : (u : Bool) → upright box ≡ u → (c : Bool) → leb (walk s [] box).tested limit ≡ c
        → Walked s box limit (cond u (cond c (record { found = found_of (walk s [] box).found; tested = (walk s [] box).tested }) (record { found = spent; tested = limit })) shut)
    by false u c e = closed u
    by true u true e = within u (leb→le (walk s [] box).tested limit (to-T (leb (walk s [] box).tested limit) e))
    by true u false e = beyond u (nleb→lt (walk s [] box).tested limit (subst (λ (b : Bool). T (not b)) (sym e) tt))

module _ (s : Set) (box : List Interval) (limit : ℕ) where
  -- no prefix is tested where a low is over its high
  pub shut_none : upright box ≡ false → search_box s box limit ≡ shut
  unfolding search_box
  shut_none e = ap (λ (u : Bool). cond u (first_point s box limit) shut) e

  pub spent-longer : (search_box s box limit).found ≡ spent → (upright box ≡ true) × (limit < (walk s [] box).tested)
  spent-longer = by (search_box s box limit) (walked s box limit)
    where
      by : (t : Tallied) → Walked s box limit t → t.found ≡ spent → (upright box ≡ true) × (limit < (walk s [] box).tested)
      by _ (closed u) e = found-not-spent none e
      by _ (within u h) e = found-not-spent (walk s [] box).found e
      by _ (beyond u h) e = (u, h)

  pub longer-spent : upright box ≡ true → limit < (walk s [] box).tested → search_box s box limit ≡ record { found = spent; tested = limit }
  longer-spent o l = by (search_box s box limit) (walked s box limit)
    where
      by : (t : Tallied) → Walked s box limit t → t ≡ record { found = spent; tested = limit }
      by _ (closed u) = true-false (sym o ∙ u)
      by _ (within u h) = absurd (clash (walk s [] box).tested limit l h)
        where
          clash : (m n : ℕ) → n < m → m ≤ n → ⊥
          clash m n l h = omega arith
      by _ (beyond u h) = refl

  -- not spent, and not shut: the answer and the tally are those of the unlimited walk
  pub unspent-walk : upright box ≡ true → ¬ ((search_box s box limit).found ≡ spent)
      → ((search_box s box limit).found ≡ found_of (walk s [] box).found) × ((search_box s box limit).tested ≡ (walk s [] box).tested)
  unspent-walk o = by (search_box s box limit) (walked s box limit)
    where
      by : (t : Tallied) → Walked s box limit t → ¬ (t.found ≡ spent) → (t.found ≡ found_of (walk s [] box).found) × (t.tested ≡ (walk s [] box).tested)
      by _ (closed u) n = true-false (sym o ∙ u)
      by _ (within u h) n = (refl, refl)
      by _ (beyond u h) n = absurd (n refl)

-- ---- none exactly when the box has no member, and so where it has no point

-- a shut window has no point
pub shut-empty : (box : List Interval) → upright box ≡ false → (zs : List ℤ) → ¬ In zs box
shut-empty [] e zs h = true-false e
shut-empty (b ∷ bs) e [] h = h
shut-empty (b ∷ bs) e (z ∷ zs) h =
    shut-empty bs (ap (λ (c : Bool). c && upright bs) (sym (from-T (le_z b.low b.high) (≤ℤ-trans h.0.lo h.0.hi).le)) ∙ e) zs h.1

module _ (s : Set) (formed : T (all well_formed s)) (b : Interval) (bs : List Interval) (limit : ℕ) where
  -- the answer is right for every point of the box, and the tally is at most the limit
  pub box-right : Says s (b ∷ bs) (search_box s (b ∷ bs) limit).found × ((search_box s (b ∷ bs) limit).tested ≤ limit)
  unfolding search_box
  box-right = by (upright (b ∷ bs)) refl
    where
      by : (u : Bool) → upright (b ∷ bs) ≡ u → Says s (b ∷ bs) (cond u (first_point s (b ∷ bs) limit) shut).found × ((cond u (first_point s (b ∷ bs) limit) shut).tested ≤ limit)
      by true u = search-right s formed b bs limit
      by false u = ((λ zs h t. shut-empty (b ∷ bs) u zs h), zero-le)

  pub none-empty : (search_box s (b ∷ bs) limit).found ≡ nothing → (zs : List ℤ) → In zs (b ∷ bs) → ¬ T (in_set zs s)
  none-empty e = subst (Says s (b ∷ bs)) e box-right.0

  pub empty-none : ¬ ((search_box s (b ∷ bs) limit).found ≡ spent) → ((zs : List ℤ) → In zs (b ∷ bs) → ¬ T (in_set zs s)) → (search_box s (b ∷ bs) limit).found ≡ nothing
  empty-none unspent void = by (search_box s (b ∷ bs) limit).found refl box-right.0
    where
      by : (f : Found) → (search_box s (b ∷ bs) limit).found ≡ f → Says s (b ∷ bs) f → f ≡ nothing
      by (at q) e r = absurd (void q r.0 r.1)
      by nothing e r = refl
      by spent e r = absurd (unspent e)

-- where s is the difference of two sets: none exactly when every point of the first set in the box is in the second
module _ (d s t : Set) (formed : T (all well_formed d)) (points : (x : List ℤ) → length x ≤ 8 → in_set x d ≡ (in_set x s && not (in_set x t)))
    (b : Interval) (bs : List Interval) (few : length (b ∷ bs) ≤ 8) (limit : ℕ) where
  in-length : (zs : List ℤ) (ss : List Interval) → In zs ss → length zs ≡ length ss
  in-length [] [] h = refl
  in-length [] (r ∷ ss) h = absurd h
  in-length (z ∷ zs) [] h = absurd h
  in-length (z ∷ zs) (r ∷ ss) h = ap suc (in-length zs ss h.1)

  at-point : (zs : List ℤ) → In zs (b ∷ bs) → in_set zs d ≡ (in_set zs s && not (in_set zs t))
  at-point zs h = points zs (subst (λ (k : ℕ). k ≤ 8) (sym (in-length zs (b ∷ bs) h)) few)

  pub none-covered : (search_box d (b ∷ bs) limit).found ≡ nothing → (zs : List ℤ) → In zs (b ∷ bs) → T (in_set zs s) → T (in_set zs t)
  none-covered e zs h p =
      by (in_set zs s) (in_set zs t) p (λ u. none-empty d formed b bs limit e zs h (to-T (in_set zs d) (at-point zs h ∙ from-T (in_set zs s && not (in_set zs t)) u)))
    where
      by : (p q : Bool) → T p → ¬ T (p && not q) → T q
      by true true p n = tt
      by true false p n = n tt
      by false q p n = absurd p

  pub covered_none : ¬ ((search_box d (b ∷ bs) limit).found ≡ spent) → ((zs : List ℤ) → In zs (b ∷ bs) → T (in_set zs s) → T (in_set zs t)) → (search_box d (b ∷ bs) limit).found ≡ nothing
  covered_none unspent inside =
      empty-none d formed b bs limit unspent
      (λ zs h u. by (in_set zs s) (in_set zs t) (to-T (in_set zs s && not (in_set zs t)) (sym (at-point zs h) ∙ from-T (in_set zs d) u)) (inside zs h))
    where
      by : (p q : Bool) → T (p && not q) → (T p → T q) → ⊥
      by true true u f = u
      by true false u f = f tt
      by false q u f = u

-- ---- on bytes: 1 to 9 of the set, 12 of its corners, 13, in that order, or the answer

pub record Searched (n : ℕ) (a : List ℕ) (ls hs : List ℤ) (limit : ℕ) (t : Tallied) : Type 0 where
  pub s : Set
  pub decoded : decode n a ≡ gives s
  pub formed : T (all well_formed s)
  pub box : T (corners_fit n ls hs)
  pub limit-fits : T (limit_fits limit)
  pub answer : search_box s (take n (box_of ls hs)) limit ≡ t

pub searched : (n : ℕ) (a : List ℕ) (ls hs : List ℤ) (limit : ℕ) (t : Tallied) → search_bytes n a ls hs limit ≡ gives t → Searched n a ls hs limit t
unfolding search_bytes
searched n a ls hs limit t e = by (decode n a) refl
  where
    bounded : (s : Set) → decode n a ≡ gives s → (p q : Bool) → corners_fit n ls hs ≡ p → limit_fits limit ≡ q
        → ◌≡◌ {A = Answer Tallied} (cond p (cond q (gives (search_box s (take n (box_of ls hs)) limit)) (refused 13)) (refused 12)) (gives t) → Searched n a ls hs limit t
    bounded s d true true p q g =
        record {
          s = s;
          decoded = d;
          formed = decode-formed n a s d;
          box = to-T (corners_fit n ls hs) p;
          limit-fits = to-T (limit_fits limit) q;
          answer = cc;
        }
    bounded s d true false p q g = let z : ◌≡◌ {A = ℕ} 0 1 = cc in no_way z
    bounded s d false q p r g = let z : ◌≡◌ {A = ℕ} 0 1 = cc in no_way z

    by : (x : Answer Set) → decode n a ≡ x → Searched n a ls hs limit t
    by (refused m) d = let g : refused m ≡ gives t = rw (d, search_bytes) at e in let z : ◌≡◌ {A = ℕ} 0 1 = cc in no_way z
    by (gives s) d =
        bounded s d (corners_fit n ls hs) (limit_fits limit) refl refl (rw (d, search_bytes) at e)

-- a checked box has its n sides, at least one and at most 8
first-side : (n : ℕ) (ls hs : List ℤ) → 0 < n → 0 < length ls → 0 < length hs → (b : Interval) × (bs : List Interval) × (take n (box_of ls hs) ≡ b ∷ bs)
first-side zero ls hs k l h = absurd (not-suc-le-zero k)
first-side (suc n) [] hs k l h = absurd (not-suc-le-zero l)
first-side (suc n) (x ∷ ls) [] k l h = absurd (not-suc-le-zero h)
first-side (suc n) (x ∷ ls) (y ∷ hs) k l h = (record { low = x; high = y }, take n (box_of ls hs), refl)

module _ {n : ℕ} {a : List ℕ} {ls hs : List ℤ} {limit : ℕ} {t : Tallied} (r : Searched n a ls hs limit t) (l : 0 < length ls) (h : 0 < length hs) where
  pub few-axes : (0 < n) × (n ≤ 8)
  few-axes = let z : number (decode n a) ≡ 0 = ap number r.decoded in (axes-some n a z, axes-most n a z)

  pub sides : (b : Interval) × (bs : List Interval) × (take n (box_of ls hs) ≡ b ∷ bs)
  sides = first-side n ls hs few-axes.0 l h

  -- the answer is right for every point of the box
  pub search-says : Says r.s (take n (box_of ls hs)) t.found × (t.tested ≤ limit)
  search-says =
      subst (λ (u : Tallied). Says r.s (take n (box_of ls hs)) u.found × (u.tested ≤ limit)) r.answer
      (subst (λ (bs : List Interval). Says r.s bs (search_box r.s bs limit).found × ((search_box r.s bs limit).tested ≤ limit)) (sym sides.2)
      (box-right r.s r.formed sides.0 sides.1 limit))
