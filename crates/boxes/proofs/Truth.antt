-- What a range says of the points of its box (document 02, 5): sure exactly when every one is in the set, never exactly when none is, depends
-- exactly when there are both, each the first of its kind in dictionary order; spent exactly when a search runs out, the first that does.
use mathlib.Core.Path.{◌≡◌, refl, sym, ap, ap₂, ◌∙◌, subst}
use mathlib.Core.Bool.{Bool, true, false, not, ◌&&◌, cond}
use mathlib.Core.List.{List, [], ◌∷◌}
use mathlib.Core.Logic.{◌↔◌, ◌⊎◌, inl, inr}
use Prim.Native.Nat.{ℕ, ◌≤◌, ◌<◌}
use native.Mathlib.Omega.{arith}
use lib.Dec.{T}
use lib.IntN.{ℤ}
use lib.Signed.{le_z, ◌<ℤ◌}
use lib.ListN.{length, take, length-take}
use Rattle.integers.specs.Order.{trichotomy}
use Rattle.model.specs.Sets.{Set, in_set}
use Rattle.model.specs.Existential.{ExistsIn}
use Rattle.model.proofs.Count.{and_left, and_right, from-T, to-T}
use Rattle.codec.specs.Bytes.{Answer, refused, gives, decode}
use Rattle.codec.proofs.Decoded.{Bytes, decode-formed, no_way}
use Rattle.query.proofs.Means.{decoded-means}
use Rattle.enumeration.specs.Search.{Interval, box_of, walk, Found, at, nothing, spent, Tallied, search_box, upright, corners_fit, box_fits, limit_fits}
use Rattle.enumeration.proofs.Walks.{In, Before, Says}
use Rattle.enumeration.proofs.Windows.{box-take, corners-upright}
use Rattle.enumeration.proofs.Searched.{Searched, search-says, spent-longer, longer-spent}
use Rattle.boxes.specs.Box.{outside, outside_result}
use Rattle.boxes.specs.Range.{Range, sure, never, depends, spent_inside, spent_outside, ranged, range_in, Reading, read, range_bytes}
use Rattle.boxes.proofs.Outside.{Outside, outside-given}

-- ---- what each range says, P being what holds of the points in the set

-- p is the first point of the box with P
pub record First (P : List ℤ → Type 0) (box : List Interval) (p : List ℤ) : Type 0 where
  pub inside : In p box
  pub holds : P p
  pub first : (x : List ℤ) → In x box → Before x p → ¬ P x

abbrev pub Tells : (List ℤ → Type 0) → List Interval → Range → Type 0
Tells P box sure = (x : List ℤ) → In x box → P x
Tells P box never = (x : List ℤ) → In x box → ¬ P x
Tells P box (depends p q) = First P box p × First (λ (x : List ℤ). ¬ P x) box q
Tells P box spent_inside = Unit {0}
Tells P box spent_outside = Unit {0}

-- of the points in a set and those outside it
module _ (P Q : List ℤ → Type 0) (same : (x : List ℤ) → (P x → Q x) × (Q x → P x)) (box : List Interval) where
  pub tells_as : (r : Range) → Tells P box r → Tells Q box r
  tells_as sure t = λ x i. (same x).0 (t x i)
  tells_as never t = λ x i w. t x i ((same x).1 w)
  tells_as (depends p q) t = (
    record { inside = t.0.inside; holds = (same p).0 t.0.holds; first = λ x i b w. t.0.first x i b ((same x).1 w) },
    record { inside = t.1.inside; holds = λ w. t.1.holds ((same q).1 w); first = λ x i b n. t.1.first x i b (λ w. n ((same x).0 w)) },
  )
  tells_as spent_inside t = tt
  tells_as spent_outside t = tt

module _ (s d : Set) (box : List Interval) (points : (x : List ℤ) → In x box → in_set x d ≡ not (in_set x s)) where
  abbrev Inside : List ℤ → Type 0
  Inside x = T (in_set x s)

  in-not-out : (x : List ℤ) → In x box → T (in_set x d) → ¬ T (in_set x s)
  in-not-out x i t = no (in_set x s) (subst T (points x i) t)
    where
      no : (b : Bool) → T (not b) → ¬ T b
      no true t u = t
      no false t u = u

  not-out-in : (x : List ℤ) → In x box → ¬ T (in_set x d) → T (in_set x s)
  not-out-in x i n = yes (in_set x s) (λ w. n (subst T (sym (points x i)) w))
    where
      yes : (b : Bool) → ¬ T (not b) → T b
      yes true f = tt
      yes false f = f tt

  -- two searches that are right tell the range
  pub both-tell : (f g : Found) → Says s box f → Says d box g → Tells Inside box (ranged f g)
  both-tell spent g u v = tt
  both-tell nothing spent u v = tt
  both-tell nothing nothing u v = u
  both-tell nothing (at q) u v = u
  both-tell (at p) spent u v = tt
  both-tell (at p) nothing u v = λ x i. not-out-in x i (v x i)
  both-tell (at p) (at q) u v = (
    record { inside = u.0; holds = u.1; first = u.2 },
    record { inside = v.0; holds = in-not-out q v.0 v.1; first = λ x i b w. w (not-out-in x i (v.2 x i b)) },
  )

-- which search ran out, by the range
inside-spent : (f g : Found) → ranged f g ≡ spent_inside → f ≡ spent
inside-spent spent g e = refl
inside-spent nothing spent e = let z : ◌≡◌ {A = ℕ} 0 1 = cc in no_way z
inside-spent nothing nothing e = let z : ◌≡◌ {A = ℕ} 0 1 = cc in no_way z
inside-spent nothing (at q) e = let z : ◌≡◌ {A = ℕ} 0 1 = cc in no_way z
inside-spent (at p) spent e = let z : ◌≡◌ {A = ℕ} 0 1 = cc in no_way z
inside-spent (at p) nothing e = let z : ◌≡◌ {A = ℕ} 0 1 = cc in no_way z
inside-spent (at p) (at q) e = let z : ◌≡◌ {A = ℕ} 0 1 = cc in no_way z

outside-spent : (f g : Found) → ranged f g ≡ spent_outside → ¬ (f ≡ spent) × (g ≡ spent)
outside-spent spent g e = let z : ◌≡◌ {A = ℕ} 0 1 = cc in no_way z
outside-spent nothing spent e = ((λ o. let z : ◌≡◌ {A = ℕ} 0 1 = cc in no_way z), refl)
outside-spent nothing nothing e = let z : ◌≡◌ {A = ℕ} 0 1 = cc in no_way z
outside-spent nothing (at q) e = let z : ◌≡◌ {A = ℕ} 0 1 = cc in no_way z
outside-spent (at p) spent e = ((λ o. let z : ◌≡◌ {A = ℕ} 0 1 = cc in no_way z), refl)
outside-spent (at p) nothing e = let z : ◌≡◌ {A = ℕ} 0 1 = cc in no_way z
outside-spent (at p) (at q) e = let z : ◌≡◌ {A = ℕ} 0 1 = cc in no_way z

then-outside : (f : Found) → ¬ (f ≡ spent) → ranged f spent ≡ spent_outside
then-outside spent n = absurd (n refl)
then-outside nothing n = refl
then-outside (at p) n = refl

not-less : (j w : ℕ) → ¬ (j < w) → w ≤ j
not-less j w f = omega arith

less-not : (w j : ℕ) → w ≤ j → j < w → ⊥
less-not w j h k = omega arith

-- there is one first point: of two points of a box, one is before the other or they are the same
ordered : (box : List Interval) (x y : List ℤ) → In x box → In y box → Before x y ⊎ (Before y x ⊎ (x ≡ y))
ordered [] [] [] i k = inr (inr refl)
ordered [] [] (b ∷ y) i k = absurd k
ordered [] (a ∷ x) y i k = absurd i
ordered (c ∷ box) [] y i k = absurd i
ordered (c ∷ box) (a ∷ x) [] i k = absurd k
ordered (c ∷ box) (a ∷ x) (b ∷ y) i k = by (trichotomy a b) (ordered box x y i.1 k.1)
  where
    by : (a <ℤ b) ⊎ ((a ≡ b) ⊎ (b <ℤ a)) → Before x y ⊎ (Before y x ⊎ (x ≡ y)) → Before (a ∷ x) (b ∷ y) ⊎ (Before (b ∷ y) (a ∷ x) ⊎ (a ∷ x ≡ b ∷ y))
    by (inl h) o = inl (inl h)
    by (inr (inr h)) o = inr (inl (inl h))
    by (inr (inl e)) (inl h) = inl (inr (e, h))
    by (inr (inl e)) (inr (inl h)) = inr (inl (inr (sym e, h)))
    by (inr (inl e)) (inr (inr h)) = inr (inr (ap₂ ◌∷◌ e h))

first-once : (P : List ℤ → Type 0) (box : List Interval) (v y : List ℤ) → First P box v → First P box y → v ≡ y
first-once P box v y p o = by (ordered box v y p.inside o.inside)
  where
    by : Before v y ⊎ (Before y v ⊎ (v ≡ y)) → v ≡ y
    by (inl h) = absurd (o.first v p.inside h p.holds)
    by (inr (inl h)) = absurd (p.first y o.inside h o.holds)
    by (inr (inr e)) = e

-- ---- from bytes

pub record Asked (n room : ℕ) (a : List ℕ) (ls hs : List ℤ) (j k : ℕ) (r : Reading) : Type 0 where
  pub s : Set
  pub decoded : decode n a ≡ gives s
  pub box : T (box_fits n ls hs)
  pub limit_inside : T (limit_fits j)
  pub limit_outside : T (limit_fits k)
  pub range : r.range ≡ range_in n s ls hs j k
  pub difference : outside_result n room ls hs s ≡ gives r.bytes

pub asked : (n room : ℕ) (a : List ℕ) (ls hs : List ℤ) (j k : ℕ) (r : Reading) → range_bytes n room a ls hs j k ≡ gives r → Asked n room a ls hs j k r
unfolding range_bytes
asked n room a ls hs j k r e = by (decode n a) refl
  where
    told : (s : Set) → decode n a ≡ gives s → box_fits n ls hs ≡ true → (limit_fits j && limit_fits k) ≡ true → (x : Answer (List ℕ)) → outside_result n room ls hs s ≡ x
        → read (range_in n s ls hs j k) x ≡ gives r → Asked n room a ls hs j k r
    told s d p q (refused m) x g = let z : ◌≡◌ {A = ℕ} 0 1 = cc in no_way z
    told s d p q (gives bs) x g =
        let f : record { range = range_in n s ls hs j k; bytes = bs } ≡ r = cc in
        record {
          s = s;
          decoded = d;
          box = to-T (box_fits n ls hs) p;
          limit_inside = and_left (limit_fits j) (limit_fits k) (to-T (limit_fits j && limit_fits k) q);
          limit_outside = and_right (limit_fits j) (limit_fits k) (to-T (limit_fits j && limit_fits k) q);
          range = sym (ap (λ (y : Reading). y.range) f);
          difference = x ∙ ap (λ (y : Reading). gives y.bytes) f;
        }

    fitted : (s : Set) → decode n a ≡ gives s → (p q : Bool) → box_fits n ls hs ≡ p → (limit_fits j && limit_fits k) ≡ q
        → ◌≡◌ {A = Answer Reading} (cond p (cond q (read (range_in n s ls hs j k) (outside_result n room ls hs s)) (refused 13)) (refused 12)) (gives r) → Asked n room a ls hs j k r
    fitted s d true true p q g = told s d p q (outside_result n room ls hs s) refl g
    fitted s d true false p q g = let z : ◌≡◌ {A = ℕ} 0 1 = cc in no_way z
    fitted s d false q p o g = let z : ◌≡◌ {A = ℕ} 0 1 = cc in no_way z

    by : (x : Answer Set) → decode n a ≡ x → Asked n room a ls hs j k r
    by (refused m) d = let g : refused m ≡ gives r = rw (d, range_bytes) at e in let z : ◌≡◌ {A = ℕ} 0 1 = cc in no_way z
    by (gives s) d = fitted s d (box_fits n ls hs) (limit_fits j && limit_fits k) refl refl (rw (d, range_bytes) at e)

corner-in : (u v : List ℤ) → length u ≡ length v → T (upright (box_of u v)) → In u (box_of u v)
corner-in [] v e t = tt
corner-in (x ∷ u) [] e t = absurd (omega arith)
corner-in (x ∷ u) (y ∷ v) e t =
    (record { lo = lib.Signed.≤ℤ_refl x; hi = record { le = and_left (le_z x y) (upright (box_of u v)) t } }, corner-in u v (omega arith) (and_right (le_z x y) (upright (box_of u v)) t))

module _ {n room : ℕ} {a : List ℕ} {ls hs : List ℤ} {j k : ℕ} {r : Reading} (q : Asked n room a ls hs j k r) (pa : Bytes a) (l : length ls ≡ 8) (h : length hs ≡ 8) where
  abbrev box : List Interval
  box = take n (box_of ls hs)

  abbrev rest : Set
  rest = outside n ls hs q.s

  -- the table's bytes are the difference of the box and the set
  pub range-table : Outside n ls hs a r.bytes
  range-table = outside-given n room ls hs l h a r.bytes pa q.s q.decoded q.box q.difference

  same_set : range-table.s ≡ q.s
  same_set = given (sym range-table.decoded ∙ q.decoded)
    where
      given : {u v : Set} → ◌≡◌ {A = Answer Set} (gives u) (gives v) → u ≡ v
      given e = cc

  points : (x : List ℤ) → In x box → in_set x rest ≡ not (in_set x q.s)
  points = subst (λ (u : Set). (x : List ℤ) → In x box → in_set x (outside n ls hs u) ≡ not (in_set x u)) same_set range-table.points

  rest-decoded : decode n r.bytes ≡ gives rest
  rest-decoded = subst (λ (u : Set). decode n r.bytes ≡ gives (outside n ls hs u)) same_set range-table.result

  -- a search of the box is right
  right : (bs : List ℕ) (u : Set) → decode n bs ≡ gives u → (m : ℕ) → T (limit_fits m) → Says u box (search_box u box m).found
  right bs u d m f =
      let c = and_left (corners_fit n ls hs) (upright (box_of ls hs)) q.box in
      let x : Searched n bs ls hs m (search_box u box m) = record { s = u; decoded = d; formed = decode-formed n bs u d; box = c; limit-fits = f; answer = refl } in
      (search-says x (omega arith) (omega arith)).0

  -- the range is true of the points of the box
  pub range-tells : Tells (λ (x : List ℤ). T (in_set x q.s)) box r.range
  unfolding range_in
  range-tells =
      subst (Tells (λ (x : List ℤ). T (in_set x q.s)) box) (sym q.range)
      (both-tell q.s rest box points (search_box q.s box j).found (search_box rest box k).found (right a q.s q.decoded j q.limit_inside) (right r.bytes rest rest-decoded k q.limit_outside))

  -- with FPL's meaning of the set
  abbrev pub Holding : List ℤ → Type 0
  Holding x = ExistsIn x q.s

  pub range-means : Tells Holding box r.range
  range-means = tells_as (λ (x : List ℤ). T (in_set x q.s)) Holding (decoded-means n a q.s q.decoded) box r.range range-tells

  -- ---- the box has a point: sure and never are not true at once
  shown : T (upright box)
  shown =
      let c = and_left (corners_fit n ls hs) (upright (box_of ls hs)) q.box in
      subst T (sym (corners-upright n ls hs (from-T (corners_fit n ls hs) c))) (and_right (corners_fit n ls hs) (upright (box_of ls hs)) q.box)

  pub box-has : In (take n ls) box
  box-has =
      let m : length (take n ls) ≡ length (take n hs) = omega (arith, length-take n ls, length-take n hs) in
      subst (In (take n ls)) (sym (box-take n ls hs)) (corner-in (take n ls) (take n hs) m (subst (λ (b : List Interval). T (upright b)) (box-take n ls hs) shown))

  pub sure-never : Tells Holding box sure → Tells Holding box never → ⊥
  sure-never u v = v (take n ls) box-has (u (take n ls) box-has)

  -- ---- a range that is not spent is sure, never or depends exactly when it should be
  abbrev pub Unspent : Type 0
  Unspent = ¬ (r.range ≡ spent_inside) × ¬ (r.range ≡ spent_outside)

  pub sure-exactly : Unspent → (r.range ≡ sure) ↔ ((x : List ℤ) → In x box → Holding x)
  sure-exactly u = (λ e. subst (Tells Holding box) e range-means, λ f. by r.range refl range-means f)
    where
      by : (x : Range) → r.range ≡ x → Tells Holding box x → Tells Holding box sure → x ≡ sure
      by sure e t f = refl
      by never e t f = absurd (sure-never f t)
      by (depends y z) e t f = absurd (t.1.holds (f z t.1.inside))
      by spent_inside e t f = absurd (u.0 e)
      by spent_outside e t f = absurd (u.1 e)

  pub never-exactly : Unspent → (r.range ≡ never) ↔ ((x : List ℤ) → In x box → ¬ Holding x)
  never-exactly u = (λ e. subst (Tells Holding box) e range-means, λ f. by r.range refl range-means f)
    where
      by : (x : Range) → r.range ≡ x → Tells Holding box x → Tells Holding box never → x ≡ never
      by sure e t f = absurd (sure-never t f)
      by never e t f = refl
      by (depends y z) e t f = absurd (f y t.0.inside t.0.holds)
      by spent_inside e t f = absurd (u.0 e)
      by spent_outside e t f = absurd (u.1 e)

  -- "`depends` otherwise, with one point of each kind, each the first in dictionary order"
  pub depends-exactly : Unspent → (y z : List ℤ) → (r.range ≡ depends y z) ↔ (First Holding box y × First (λ (x : List ℤ). ¬ Holding x) box z)
  depends-exactly u y z = (λ e. subst (Tells Holding box) e range-means, λ f. by r.range refl range-means f)
    where
      by : (x : Range) → r.range ≡ x → Tells Holding box x → Tells Holding box (depends y z) → x ≡ depends y z
      by sure e t f = absurd (f.1.holds (t z f.1.inside))
      by never e t f = absurd (t y f.0.inside f.0.holds)
      by (depends v w) e t f = ap₂ depends (first-once Holding box v y t.0 f.0) (first-once (λ (x : List ℤ). ¬ Holding x) box w z t.1 f.1)
      by spent_inside e t f = absurd (u.0 e)
      by spent_outside e t f = absurd (u.1 e)

  -- ---- spent exactly when a search runs out, naming the first that does
  pub spent-inside : (r.range ≡ spent_inside) ↔ (j < (walk q.s [] box).tested)
  unfolding range_in
  spent-inside = (λ e. (spent-longer q.s box j (found-spent (sym q.range ∙ e))).1, λ m. q.range ∙ by (longer-spent q.s box j (from-T (upright box) shown) m))
    where
      found-spent : range_in n q.s ls hs j k ≡ spent_inside → (search_box q.s box j).found ≡ spent
      found-spent e = inside-spent (search_box q.s box j).found (search_box rest box k).found e

      by : search_box q.s box j ≡ record { found = spent; tested = j } → range_in n q.s ls hs j k ≡ spent_inside
      by e = ap (λ (t : Tallied). ranged t.found (search_box rest box k).found) e

  pub spent-outside : (r.range ≡ spent_outside) ↔ (((walk q.s [] box).tested ≤ j) × (k < (walk rest [] box).tested))
  unfolding range_in
  spent-outside = (to, λ m. q.range ∙ by m.0 (longer-spent rest box k (from-T (upright box) shown) m.1))
    where
      to : r.range ≡ spent_outside → ((walk q.s [] box).tested ≤ j) × (k < (walk rest [] box).tested)
      to e =
          let o = found-spent (sym q.range ∙ e) in
          (not-less j (walk q.s [] box).tested (λ m. o.0 (ap (λ (t : Tallied). t.found) (longer-spent q.s box j (from-T (upright box) shown) m))), (spent-longer rest box k o.1).1)
        where
          found-spent : range_in n q.s ls hs j k ≡ spent_outside → ¬ ((search_box q.s box j).found ≡ spent) × ((search_box rest box k).found ≡ spent)
          found-spent e = outside-spent (search_box q.s box j).found (search_box rest box k).found e

      by : (walk q.s [] box).tested ≤ j → search_box rest box k ≡ record { found = spent; tested = k } → range_in n q.s ls hs j k ≡ spent_outside
      by m e =
          ap (λ (t : Tallied). ranged (search_box q.s box j).found t.found) e
          ∙ then-outside (search_box q.s box j).found (λ o. let x = (spent-longer q.s box j o).1 in less-not (walk q.s [] box).tested j m x)
