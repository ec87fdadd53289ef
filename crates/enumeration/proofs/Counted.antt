-- What a count tells (document 02, 12): spent exactly when the walk is longer than the limit; else the whole is the number of points of the
-- box in the set, each once, the separate counts are those with each value of the axis and add up to it, and there are at most 64.
use mathlib.Core.Path.{◌≡◌, refl, sym, ap, ◌∙◌, subst}
use mathlib.Core.Bool.{Bool, true, false, not, ◌&&◌, cond}
use mathlib.Core.List.{List, [], ◌∷◌}
use mathlib.Core.Option.{Option, none, some}
use Prim.Native.Nat.{ℕ, zero, suc, ◌-◌, ◌≤◌, ◌<◌}
use native.Mathlib.Nat.{not-suc-le-zero, le_of_suc-le-suc}
use native.Mathlib.Omega.{arith}
use lib.Dec.{T, leb, leb→le, nleb→lt}
use lib.IntN.{ℤ, pos, neg_ℤ, ◌-ℤ◌}
use lib.ListN.{length, take, get_or, replicate}
use Rattle.model.specs.Lists.{all, filter}
use Rattle.model.specs.Sets.{BasicSet, Set, inequality, is_zero, in_set, well_formed}
use Rattle.model.proofs.Count.{to-T}
use Rattle.codec.specs.Bytes.{gives, decode, number}
use Rattle.codec.proofs.Decoded.{no_way}
use Rattle.model.proofs.Lists.{all-imp}
use Rattle.query.proofs.Answers.{axes-some, axes-most}
use Rattle.enumeration.specs.Search.{Interval, box_of, width, upright}
use Rattle.enumeration.proofs.Walks.{In, up}
use Rattle.enumeration.specs.Counting.{Members, no_members, members, members_in, counts_from, counts_of, side_at, counted, exhausted, Tally, count_box, count_bytes, counts_bytes}
use Rattle.enumeration.specs.Points.{points_in}
use Rattle.enumeration.proofs.Points.{all-kept, points-in}
use Rattle.enumeration.proofs.Members.{counted-are}
use Rattle.enumeration.proofs.Separate.{sum, Lies, counts-add, in-lies, counts-length, counts-at, counts-none, filter-filter}
use Rattle.enumeration.proofs.CountAnswers.{count_gives, Asked, asked, axis-is, in_table}

-- ---- spent, and the tally

counted-not : {w : ℕ} {cs : List ℕ} {X : Type 0} → counted w cs ≡ exhausted → X
counted-not e = let z : ◌≡◌ {A = ℕ} 0 1 = cc in no_way z

pub data Judged (s : Set) (box : List Interval) (axis : Option ℕ) (limit : ℕ) : Tally → Type 0 where
  within : (members_in s box).tested ≤ limit
      → Judged s box axis limit (record { count = counted (length (members_in s box).points) (counts_of axis box (members_in s box).points); tested = (members_in s box).tested })
  beyond : limit < (members_in s box).tested → Judged s box axis limit (record { count = exhausted; tested = limit })

pub judged : (s : Set) (box : List Interval) (axis : Option ℕ) (limit : ℕ) → Judged s box axis limit (count_box s box axis limit)
unfolding count_box
judged s box axis limit = by (leb (members_in s box).tested limit) refl
  where
    by : (c : Bool) → leb (members_in s box).tested limit ≡ c
        → Judged s box axis limit (cond c (record { count = counted (length (members_in s box).points) (counts_of axis box (members_in s box).points); tested = (members_in s box).tested }) (record { count = exhausted; tested = limit }))
    by true e = within (leb→le (members_in s box).tested limit (to-T (leb (members_in s box).tested limit) e))
    by false e = beyond (nleb→lt (members_in s box).tested limit (subst (λ (b : Bool). T (not b)) (sym e) tt))

module _ (s : Set) (box : List Interval) (axis : Option ℕ) (limit : ℕ) where
  clash : (m n : ℕ) {X : Type 0} → n < m → m ≤ n → X
  clash m n l h = absurd (omega arith)

  pub exhausted-longer : (count_box s box axis limit).count ≡ exhausted → limit < (members_in s box).tested
  exhausted-longer = by (count_box s box axis limit) (judged s box axis limit)
    where
      by : (t : Tally) → Judged s box axis limit t → t.count ≡ exhausted → limit < (members_in s box).tested
      by _ (within h) e = counted-not e
      by _ (beyond h) e = h

  pub longer-exhausted : limit < (members_in s box).tested → count_box s box axis limit ≡ record { count = exhausted; tested = limit }
  longer-exhausted l = by (count_box s box axis limit) (judged s box axis limit)
    where
      by : (t : Tally) → Judged s box axis limit t → t ≡ record { count = exhausted; tested = limit }
      by _ (within h) = clash (members_in s box).tested limit l h
      by _ (beyond h) = refl

  pub within-counted : (members_in s box).tested ≤ limit
      → count_box s box axis limit ≡ record { count = counted (length (members_in s box).points) (counts_of axis box (members_in s box).points); tested = (members_in s box).tested }
  within-counted l = by (count_box s box axis limit) (judged s box axis limit)
    where
      by : (t : Tally) → Judged s box axis limit t
          → t ≡ record { count = counted (length (members_in s box).points) (counts_of axis box (members_in s box).points); tested = (members_in s box).tested }
      by _ (within h) = refl
      by _ (beyond h) = clash (members_in s box).tested limit h l

  -- counts are those of the members
  pub record Counts (w : ℕ) (cs : List ℕ) (t : ℕ) : Type 0 where
    pub whole : w ≡ length (members_in s box).points
    pub each : cs ≡ counts_of axis box (members_in s box).points
    pub tally : t ≡ (members_in s box).tested
    pub enough : t ≤ limit

  pub counts-are : (w : ℕ) (cs : List ℕ) → (count_box s box axis limit).count ≡ counted w cs → Counts w cs (count_box s box axis limit).tested
  counts-are w cs = by (count_box s box axis limit) (judged s box axis limit)
    where
      by : (t : Tally) → Judged s box axis limit t → t.count ≡ counted w cs → Counts w cs t.tested
      by _ (within h) e = record { whole = cc; each = cc; tally = refl; enough = h }
      by _ (beyond h) e = counted-not (sym e)

  -- an upside-down box counts 0, with a tally of 0
  abbrev pub zeros_for : Option ℕ → List ℕ
  zeros_for none = []
  zeros_for (some a) = replicate (width (side_at (a - 1) box)) 0

  pub shut-counts : upright box ≡ false → count_box s box axis limit ≡ record { count = counted 0 (zeros_for axis); tested = 0 }
  shut-counts e = by (count_box s box axis limit) (judged s box axis limit)
    where
      m : members_in s box ≡ no_members
      m = ap (λ (c : Bool). cond c (members s [] box) no_members) e

      zeros : (o : Option ℕ) → counts_of o box [] ≡ zeros_for o
      zeros none = refl
      zeros (some a) = counts-none (a - 1) (width (side_at (a - 1) box)) (side_at (a - 1) box).low

      by : (t : Tally) → Judged s box axis limit t → t ≡ record { count = counted 0 (zeros_for axis); tested = 0 }
      by _ (within h) =
          ap (λ (x : Members). record { count = counted (length x.points) (counts_of axis box x.points); tested = x.tested }) m
          ∙ ap (λ (l : List ℕ). record { count = counted 0 l; tested = 0 }) (zeros axis)
      by _ (beyond h) = absurd (not-suc-le-zero (subst (λ (x : Members). limit < x.tested) m h))

-- ---- with an axis or without: the same whole, the same tally

abbrev pub whole_of : Tally → Tally
whole_of t = record { count = elim t.count [ counted w cs ↦ counted w [] | exhausted ↦ exhausted ]; tested = t.tested }

pub same_whole : (s : Set) (box : List Interval) (axis : Option ℕ) (limit : ℕ) → count_box s box none limit ≡ whole_of (count_box s box axis limit)
same_whole s box axis limit = by (count_box s box axis limit) (judged s box axis limit)
  where
    by : (t : Tally) → Judged s box axis limit t → count_box s box none limit ≡ whole_of t
    by _ (within h) = within-counted s box none limit h
    by _ (beyond h) = longer-exhausted s box none limit h

-- ---- what the counts are of

-- the points of the box that are in the set, and those of them with v on axis i
abbrev pub allowed : Set → List Interval → List (List ℤ)
allowed s box = filter (λ (x : List ℤ). in_set x s) (points_in box)

abbrev pub allowed_at : Set → List Interval → ℕ → ℤ → List (List ℤ)
allowed_at s box i v = filter (λ (x : List ℤ). in_set x s && is_zero (get_or x i (pos 0) -ℤ v)) (points_in box)

members-allowed : (s : Set) → T (all well_formed s) → (box : List Interval) → 0 < length box → (members_in s box).points ≡ allowed s box
members-allowed s formed [] h = absurd (not-suc-le-zero h)
members-allowed s formed (b ∷ bs) h = counted-are s formed b bs

module _ (s : Set) (formed : T (all well_formed s)) (box : List Interval) (i : ℕ) (l : i < length box) where
  pub allowed-add : sum (counts_from i (allowed s box) (width (side_at i box)) (side_at i box).low) ≡ length (allowed s box)
  allowed-add =
      counts-add i (width (side_at i box)) (side_at i box).low (allowed s box)
      (all-imp (λ (zs : List ℤ). In zs box) (Lies i (width (side_at i box)) (side_at i box).low) (in-lies box i l) (allowed s box)
      (all-kept (λ (zs : List ℤ). In zs box) (λ (x : List ℤ). in_set x s) (points_in box) (points-in box)))

  pub allowed_at_lem : (j : ℕ) → j < width (side_at i box)
      → get_or (counts_from i (allowed s box) (width (side_at i box)) (side_at i box).low) j 0 ≡ length (allowed_at s box i (up (side_at i box).low j))
  allowed_at_lem j h =
      counts-at i (allowed s box) (width (side_at i box)) (side_at i box).low j h
      ∙ ap length (filter-filter (λ (x : List ℤ). is_zero (get_or x i (pos 0) -ℤ up (side_at i box).low j)) (λ (x : List ℤ). in_set x s) (points_in box))

-- ---- on bytes

box-length : (n : ℕ) (ls hs : List ℤ) → n ≤ length ls → n ≤ length hs → length (take n (box_of ls hs)) ≡ n
box-length zero ls hs l h = refl
box-length (suc n) [] hs l h = absurd (not-suc-le-zero l)
box-length (suc n) (x ∷ ls) [] l h = absurd (not-suc-le-zero h)
box-length (suc n) (x ∷ ls) (y ∷ hs) l h = ap suc (box-length n ls hs (le_of_suc-le-suc l) (le_of_suc-le-suc h))

-- "the number of allowed points in a box": with a chosen axis or without
module _ {n : ℕ} {a : List ℕ} {ls hs : List ℤ} {axis : Option ℕ} {limit : ℕ} {t : Tally} (r : Asked n a ls hs axis limit t) (l : length ls ≡ 8) (h : length hs ≡ 8)
    (w : ℕ) (cs : List ℕ) (e : t.count ≡ counted w cs) where
  accepted : number (decode n a) ≡ 0
  accepted = ap number r.decoded

  sides : length (take n (box_of ls hs)) ≡ n
  sides = let m = axes-most n a accepted in box-length n ls hs (omega arith) (omega arith)

  told : Counts r.s (take n (box_of ls hs)) axis limit w cs (count_box r.s (take n (box_of ls hs)) axis limit).tested
  told = counts-are r.s (take n (box_of ls hs)) axis limit w cs (ap (λ (x : Tally). x.count) r.answer ∙ e)

  are : (members_in r.s (take n (box_of ls hs))).points ≡ allowed r.s (take n (box_of ls hs))
  are = members-allowed r.s r.formed (take n (box_of ls hs)) (subst (λ (k : ℕ). 0 < k) (sym sides) (axes-some n a accepted))

  pub whole_is : w ≡ length (allowed r.s (take n (box_of ls hs)))
  whole_is = told.whole ∙ ap length are

  pub tally-within : t.tested ≤ limit
  tally-within = subst (λ (x : Tally). x.tested ≤ limit) r.answer told.enough

-- what the separate counts are, of the axis numbered from 1
pub record Separate (s : Set) (box : List Interval) (axis w : ℕ) (cs : List ℕ) : Type 0 where
  -- "The separate counts add up to the whole"
  pub add : sum cs ≡ w
  -- one for each value of the side, at most 64
  pub number : length cs ≡ width (side_at (axis - 1) box)
  pub few : length cs ≤ 64
  -- count j: the points of the box in the set that have low + j on the axis
  pub at : (j : ℕ) → j < length cs → get_or cs j 0 ≡ length (allowed_at s box (axis - 1) (up (side_at (axis - 1) box).low j))

module _ {n : ℕ} {a : List ℕ} {ls hs : List ℤ} {axis limit : ℕ} {t : Tally} (r : Asked n a ls hs (some axis) limit t) (l : length ls ≡ 8) (h : length hs ≡ 8)
    (w : ℕ) (cs : List ℕ) (e : t.count ≡ counted w cs) where
  abbrev side : Interval
  side = side_at (axis - 1) (take n (box_of ls hs))

  fits : (0 < axis) × (axis ≤ n) × (width side ≤ 64)
  fits = axis-is n axis (take n (box_of ls hs)) r.axis-fits

  on-axis : axis - 1 < length (take n (box_of ls hs))
  on-axis = let f = fits in let k = sides r l h w cs e in omega arith

  each-is : cs ≡ counts_from (axis - 1) (allowed r.s (take n (box_of ls hs))) (width side) side.low
  each-is = (told r l h w cs e).each ∙ ap (λ (ps : List (List ℤ)). counts_from (axis - 1) ps (width side) side.low) (are r l h w cs e)

  as_many : length cs ≡ width side
  as_many = ap length each-is ∙ counts-length (axis - 1) (allowed r.s (take n (box_of ls hs))) (width side) side.low

  pub separate-is : Separate r.s (take n (box_of ls hs)) axis w cs
  separate-is =
      record {
        add = ap sum each-is ∙ allowed-add r.s r.formed (take n (box_of ls hs)) (axis - 1) on-axis ∙ sym (whole_is r l h w cs e);
        number = as_many;
        few = subst (λ (k : ℕ). k ≤ 64) (sym as_many) fits.2;
        at = at;
      }
    where
      at : (j : ℕ) → j < length cs → get_or cs j 0 ≡ length (allowed_at r.s (take n (box_of ls hs)) (axis - 1) (up side.low j))
      at j k =
          ap (λ (x : List ℕ). get_or x j 0) each-is
          ∙ allowed_at_lem r.s r.formed (take n (box_of ls hs)) (axis - 1) on-axis j (subst (λ (m : ℕ). j < m) as_many k)

-- both calls agree: without the axis the same whole and tally are given
pub calls-agree : (n : ℕ) (a : List ℕ) (ls hs : List ℤ) (axis limit : ℕ) (t : Tally) → count_bytes n a ls hs (some axis) limit ≡ gives t → count_bytes n a ls hs none limit ≡ gives (whole_of t)
calls-agree n a ls hs axis limit t e =
    let r = asked n a ls hs (some axis) limit t e in
    count_gives n a ls hs none limit r.s r.decoded r.corners refl r.limit-fits
    ∙ ap gives (same_whole r.s (take n (box_of ls hs)) (some axis) limit ∙ ap whole_of r.answer)

-- the counts in a lent table
module _ (n size : ℕ) (a : List ℕ) (ls hs : List ℤ) (axis limit : ℕ) (t : Tally) (given : counts_bytes n size a ls hs axis limit ≡ gives t) where
  pub table-asked : Asked n a ls hs (some axis) limit t
  table-asked = asked n a ls hs (some axis) limit t (in_table n size a ls hs axis limit t given).0

  pub table-agrees : count_bytes n a ls hs none limit ≡ gives (whole_of t)
  table-agrees = calls-agree n a ls hs axis limit t (in_table n size a ls hs axis limit t given).0

  pub counts-told : length ls ≡ 8 → length hs ≡ 8 → (w : ℕ) (cs : List ℕ) → t.count ≡ counted w cs
      → (w ≡ length (allowed table-asked.s (take n (box_of ls hs)))) × Separate table-asked.s (take n (box_of ls hs)) axis w cs × (length cs ≤ size)
  counts-told l h w cs e =
      let p = separate-is table-asked l h w cs e in
      (whole_is table-asked l h w cs e, p, subst (λ (k : ℕ). k ≤ size) (sym p.number) (in_table n size a ls hs axis limit t given).1)

-- each point once, in however many basic sets it lies: x ≥ 1 and x ≥ 2 overlap, and from 0 to 4 there are four points
abbrev at_least : ℕ → BasicSet
at_least n = record { divisions = []; constraints = record { kind = inequality; number = 0; constant = neg_ℤ (pos n); axes = pos 1 ∷ []; divisions = [] } ∷ [] }

pub overlap-once : count_box (at_least 1 ∷ at_least 2 ∷ []) (record { low = pos 0; high = pos 4 } ∷ []) (some 1) 5 ≡ record { count = counted 4 (0 ∷ 1 ∷ 1 ∷ 1 ∷ 1 ∷ []); tested = 5 }
unfolding count_box members
overlap-once = refl
