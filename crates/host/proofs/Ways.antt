-- From the number and the table that the board's host gets of a count to the points, with FPL's meaning of a set (model,
-- specs/Existential): a number from 0 on is how many points of the box are in the set, and the table has how many of them have each
-- value of the chosen axis; −1000 says that the limit was spent, which no refusal does; another number below 0 is minus the refusal's.
use mathlib.Core.Path.{◌≡◌, refl, sym, ap, ◌∙◌, subst}
use mathlib.Core.Bool.{Bool, true, false, cond}
use mathlib.Core.List.{List, [], ◌∷◌, ◌++◌}
use mathlib.Core.Option.{Option, none, some}
use Prim.Native.Nat.{ℕ, zero, suc, ◌-◌, ◌≤◌, ◌<◌}
use native.Mathlib.Nat.{zero-lt-suc}
use native.Mathlib.Omega.{arith}
use lib.Dec.{T, leb, ltb, eqb, leb→le}
use lib.IntN.{ℤ, pos, negsuc}
use lib.ListN.{length, take, drop, get_or, replicate, get_or-append}
use Rattle.model.specs.Lists.{all}
use Rattle.model.specs.Sets.{Set}
use Rattle.model.specs.Existential.{ExistsIn}
use Rattle.model.proofs.Count.{and_left, and_right}
use Rattle.codec.specs.Bytes.{Answer, refused, gives, decode, axes_fit, build, Command, opens, misnumbered, division, constraint, Counts, counted, first_failing, tests_of, refusal, width_of, read_command, head_refusal}
use Rattle.codec.specs.Places.{commands_of}
use Rattle.codec.proofs.Decoded.{no_way}
use Rattle.codec.proofs.Parsing.{start}
use Rattle.codec.proofs.Split.{refusal_of, unless, decode', decode-split}
use Rattle.enumeration.specs.Search.{box_of, width, corners_fit, limit_fits}
use Rattle.enumeration.proofs.Walks.{In, up}
use Rattle.enumeration.specs.Counting.{Count, exhausted, Tally, side_at, axis_fits, count_bytes, counts_bytes}
use Rattle.enumeration.specs.Counting as C
use Rattle.counting.specs.Answers.{table_is}
use Rattle.enumeration.proofs.CountAnswers.{asked, count-refused, count-corners, count-axis, count-limit, count_gives, counts-refused, counts-room, counts-gives, in_table}
use Rattle.enumeration.proofs.Counted.{separate-is}
use Rattle.enumeration.proofs.CountMeans.{Number, whole-means, each-means}
use Rattle.answers.specs.Numbers.{CountHosted, CountsHosted}
use Rattle.host.proofs.Meanings.{not-minus, same-pos}

-- ---- the refusals of a count are 1 to 19: none is 0, and none is that of spent

abbrev Few : {A : Type 0} → Answer A → Type 0
Few (refused k) = (0 < k) × (k ≤ 19)
Few (gives a) = Unit {0}

first-most : (m : ℕ) (ts : List (Bool × ℕ)) → T (all (λ (t : Bool × ℕ). leb t.1 m) ts) → first_failing ts ≤ m
first-most m [] h = omega arith
first-most m (t ∷ ts) h =
    at t.0 (leb→le t.1 m (and_left (leb t.1 m) (all (λ (u : Bool × ℕ). leb u.1 m) ts) h))
    (first-most m ts (and_right (leb t.1 m) (all (λ (u : Bool × ℕ). leb u.1 m) ts) h))
  where
    at : (b : Bool) → t.1 ≤ m → first_failing ts ≤ m → cond b (first_failing ts) t.1 ≤ m
    at true p q = q
    at false p q = p

refusal-most : (n : ℕ) (k : Counts) (c : Command) → refusal n k c ≤ 17
refusal-most n k opens = first-most 17 (tests_of n k opens) tt
refusal-most n k misnumbered = first-most 17 (tests_of n k misnumbered) tt
refusal-most n k (division e) = first-most 17 (tests_of n k (division e)) tt
refusal-most n k (constraint r) = first-most 17 (tests_of n k (constraint r)) tt

head-most : (n : ℕ) (k : Counts) (b : ℕ) (s : List ℕ) → head_refusal n k b s ≤ 17
unfolding head_refusal
head-most n k b s = at (ltb 0 (width_of b)) (leb (width_of b) (suc (length s))) (refusal n k (read_command b s)) (refusal-most n k (read_command b s))
  where
    at : (p q : Bool) (r : ℕ) → r ≤ 17 → first_failing ((p, 2) ∷ (q, 3) ∷ (eqb r 0, r) ∷ []) ≤ 17
    at false q r h = omega arith
    at true false r h = omega arith
    at true true r h = last (eqb r 0)
      where
        last : (c : Bool) → cond c 0 r ≤ 17
        last true = omega arith
        last false = h

refused-most : (n f : ℕ) (k : Counts) (s : List ℕ) → refusal_of n f k s ≤ 17
unfolding refusal_of
refused-most n zero k s = omega arith
refused-most n (suc f) k [] = omega arith
refused-most n (suc f) k (b ∷ s) = at (head_refusal n k b s) (head-most n k b s) (refused-most n f (counted k (read_command b s)) (drop (width_of b - 1) s))
  where
    at : (m : ℕ) → m ≤ 17 → refusal_of n f (counted k (read_command b s)) (drop (width_of b - 1) s) ≤ 17
        → elim m [ zero ↦ refusal_of n f (counted k (read_command b s)) (drop (width_of b - 1) s) | suc i ↦ suc i ] ≤ 17
    at zero h r = r
    at (suc m) h r = h

decode-few : (n : ℕ) (s : List ℕ) → Few (decode n s)
unfolding decode'
decode-few n s = subst Few (sym (decode-split n s)) (at (build (commands_of (length s) s)).rest (axes_fit n) (refusal_of n (length s) start s) (refused-most n (length s) start s))
  where
    at : (u : Set) (c : Bool) (m : ℕ) → m ≤ 17 → Few (cond c (unless m u) (refused 1))
    at u true zero h = tt
    at u true (suc m) h = (zero-lt-suc m, omega arith)
    at u false m h = (zero-lt-suc 0, omega arith)

count-few : (n : ℕ) (a : List ℕ) (ls hs : List ℤ) (axis : Option ℕ) (limit : ℕ) → Few (count_bytes n a ls hs axis limit)
count-few n a ls hs axis limit = by (decode n a) refl (decode-few n a)
  where
    at : (s : Set) → decode n a ≡ gives s → (p q r : Bool) → corners_fit n ls hs ≡ p → axis_fits n axis (take n (box_of ls hs)) ≡ q → limit_fits limit ≡ r → Few (count_bytes n a ls hs axis limit)
    at s d true true true p q r = subst Few (sym (count_gives n a ls hs axis limit s d p q r)) tt
    at s d true true false p q r = subst Few (sym (count-limit n a ls hs axis limit s d p q r)) (zero-lt-suc 12, omega arith)
    at s d true false c p q r = subst Few (sym (count-axis n a ls hs axis limit s d p q)) (zero-lt-suc 18, omega arith)
    at s d false b c p q r = subst Few (sym (count-corners n a ls hs axis limit s d p)) (zero-lt-suc 11, omega arith)

    by : (x : Answer Set) → decode n a ≡ x → Few x → Few (count_bytes n a ls hs axis limit)
    by (refused m) d h = subst Few (sym (count-refused n a ls hs axis limit m d)) h
    by (gives s) d h = at s d (corners_fit n ls hs) (axis_fits n axis (take n (box_of ls hs))) (limit_fits limit) refl refl refl

counts-few : (n size : ℕ) (a : List ℕ) (ls hs : List ℤ) (axis limit : ℕ) → Few (counts_bytes n size a ls hs axis limit)
counts-few n size a ls hs axis limit = by (count_bytes n a ls hs (some axis) limit) refl (count-few n a ls hs (some axis) limit)
  where
    values : ℕ
    values = width (side_at (axis - 1) (take n (box_of ls hs)))

    at : (t : Tally) → count_bytes n a ls hs (some axis) limit ≡ gives t → (b : Bool) → leb values size ≡ b → Few (counts_bytes n size a ls hs axis limit)
    at t c true l = subst Few (sym (counts-gives n size a ls hs axis limit t c l)) tt
    at t c false l = subst Few (sym (counts-room n size a ls hs axis limit t c l)) (zero-lt-suc 10, omega arith)

    by : (x : Answer Tally) → count_bytes n a ls hs (some axis) limit ≡ x → Few x → Few (counts_bytes n size a ls hs axis limit)
    by (refused m) c h = subst Few (sym (counts-refused n size a ls hs axis limit m c)) h
    by (gives t) c h = at t c (leb values size) refl

-- ---- what the number says

-- w members were counted, and the separate counts cs
record Given (a : Answer Tally) (w tested : ℕ) : Type 0 where
  pub tally : Tally
  pub counts : List ℕ
  pub answer : a ≡ gives tally
  pub whole : tally.count ≡ C.counted w counts

given : {w tested : ℕ} (a : Answer Tally) → Few a → CountHosted a (pos w) tested → Given a w tested
given {w = w} (refused k) f h = not-minus w k h.number f.0
given {w = w} {tested = tested} (gives t) f h = at t.count t.tested h
  where
    at : (c : Count) (k : ℕ) → CountHosted (gives (record { count = c; tested = k })) (pos w) tested → Given (gives (record { count = c; tested = k })) w tested
    at (C.counted v cs) k h =
        record { tally = record { count = C.counted v cs; tested = k }; counts = cs; answer = refl; whole = ap (λ (i : ℕ). C.counted i cs) (sym (same-pos h.number)) }
    at exhausted k h = not-minus w 1000 h.number (zero-lt-suc 999)

-- −1000 is spent and no refusal, and then no count stands in the table
spent : {tested : ℕ} (a : Answer Tally) → Few a → CountHosted a (negsuc 999) tested → (t : Tally) × (a ≡ gives t) × (t.count ≡ exhausted)
spent (refused zero) f h = let e = h.number in let z : ◌≡◌ {A = ℕ} 0 1 = cc in no_way z
spent (refused (suc k)) f h = let e : negsuc 999 ≡ negsuc k = h.number in let q : 999 ≡ k = cc in absurd (omega arith)
spent {tested = tested} (gives t) f h = at t.count t.tested h
  where
    at : (c : Count) (k : ℕ) → CountHosted (gives (record { count = c; tested = k })) (negsuc 999) tested → (u : Tally) × (gives (record { count = c; tested = k }) ≡ gives u) × (u.count ≡ exhausted)
    at (C.counted v cs) k h = let e = h.number in let z : ◌≡◌ {A = ℕ} 0 1 = cc in no_way z
    at exhausted k h = (record { count = exhausted; tested = k }, refl, refl)

-- another number below 0 is minus the refusal's
pub refused-ways : {tested : ℕ} (k : ℕ) (a : Answer Tally) → CountHosted a (negsuc k) tested → (¬ (k ≡ 999)) → a ≡ refused (suc k)
refused-ways k (refused zero) h d = let e = h.number in let z : ◌≡◌ {A = ℕ} 0 1 = cc in no_way z
refused-ways k (refused (suc m)) h d = let e : negsuc k ≡ negsuc m = h.number in let q : k ≡ m = cc in ap (λ (i : ℕ). refused (suc i)) (sym q)
refused-ways {tested = tested} k (gives t) h d = at t.count t.tested h
  where
    at : (c : Count) (j : ℕ) → CountHosted (gives (record { count = c; tested = j })) (negsuc k) tested → ◌≡◌ {A = Answer Tally} (gives (record { count = c; tested = j })) (refused (suc k))
    at (C.counted v cs) j h = let e = h.number in let z : ◌≡◌ {A = ℕ} 0 1 = cc in no_way z
    at exhausted j h = let e : negsuc k ≡ negsuc 999 = h.number in let q : k ≡ 999 = cc in absurd (d q)

-- ---- the points
module _ (n : ℕ) (a : List ℕ) (ls hs : List ℤ) (l : length ls ≡ 8) (h : length hs ≡ 8) where
  -- the set decodes, and w points of the box are in it
  pub record Ways (w : ℕ) : Type 0 where
    pub s : Set
    pub decoded : decode n a ≡ gives s
    pub points : Number (λ (x : List ℤ). In x (take n (box_of ls hs)) × ExistsIn x s) w

  pub count-ways : (limit w tested : ℕ) → CountHosted (count_bytes n a ls hs none limit) (pos w) tested → Ways w
  count-ways limit w tested c =
      let g = given (count_bytes n a ls hs none limit) (count-few n a ls hs none limit) c in
      let r = asked n a ls hs none limit g.tally g.answer in
      record { s = r.s; decoded = r.decoded; points = whole-means r l h w g.counts g.whole }

  pub spent-ways : (limit tested : ℕ) → CountHosted (count_bytes n a ls hs none limit) (negsuc 999) tested
      → (t : Tally) × (count_bytes n a ls hs none limit ≡ gives t) × (t.count ≡ exhausted)
  spent-ways limit tested c = spent (count_bytes n a ls hs none limit) (count-few n a ls hs none limit) c

  -- the same, and in the table how many of them have each value of the axis, from its low upward
  pub record WaysBy (axis w : ℕ) (table : List ℕ) : Type 0 where
    pub ways : Ways w
    pub each : (j : ℕ) → j < width (side_at (axis - 1) (take n (box_of ls hs)))
        → Number (λ (x : List ℤ). In x (take n (box_of ls hs)) × (ExistsIn x ways.s × (get_or x (axis - 1) (pos 0) ≡ up (side_at (axis - 1) (take n (box_of ls hs))).low j))) (get_or table j 0)

  module _ (size axis limit tested : ℕ) (table : List ℕ) where
    pub counts-ways : (w : ℕ) → CountsHosted size (counts_bytes n size a ls hs axis limit) (pos w) table tested → WaysBy axis w table
    counts-ways w c =
        let g = given (counts_bytes n size a ls hs axis limit) (counts-few n size a ls hs axis limit) c.answer in
        let r = asked n a ls hs (some axis) limit g.tally (in_table n size a ls hs axis limit g.tally g.answer).0 in
        let p = separate-is r l h w g.counts g.whole in
        let same : table ≡ g.counts ++ replicate (size - length g.counts) 0 = c.counts ∙ ap (table_is size) g.answer ∙ told g.tally w g.counts g.whole in
        record {
          ways = record { s = r.s; decoded = r.decoded; points = whole-means r l h w g.counts g.whole };
          each = λ j k. let i : j < length g.counts = subst (λ (m : ℕ). j < m) (sym p.number) k in
              subst (Number _) (sym (ap (λ (t : List ℕ). get_or t j 0) same ∙ get_or-append g.counts (replicate (size - length g.counts) 0) 0 j i))
              (each-means r l h w g.counts g.whole j i);
        }
      where
        told : (t : Tally) (w : ℕ) (cs : List ℕ) → t.count ≡ C.counted w cs → table_is size (gives t) ≡ cs ++ replicate (size - length cs) 0
        told t w cs e = ap (λ (x : Count). table_is size (gives (record { count = x; tested = t.tested }))) e

    pub spent-counts : CountsHosted size (counts_bytes n size a ls hs axis limit) (negsuc 999) table tested
        → (t : Tally) × (counts_bytes n size a ls hs axis limit ≡ gives t) × (t.count ≡ exhausted) × (table ≡ replicate size 0)
    spent-counts c =
        let g = spent (counts_bytes n size a ls hs axis limit) (counts-few n size a ls hs axis limit) c.answer in
        let none : size - 0 ≡ size = omega arith in (
          g.0,
          g.1,
          g.2,
          c.counts ∙ ap (table_is size) g.1 ∙ ap (λ (x : Count). table_is size (gives (record { count = x; tested = g.0.tested }))) g.2
              ∙ ap (λ (k : ℕ). replicate k 0) none,
        )
