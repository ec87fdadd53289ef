-- What a count answers: the first that applies of the set's number, 12, 19 and 13, or the count of the box; in a lent table 11 comes last.
use mathlib.Core.Path.{◌≡◌, refl, sym, ap, ap₂, ◌∙◌}
use mathlib.Core.Bool.{Bool, true, false, ◌&&◌, cond}
use mathlib.Core.List.{List}
use mathlib.Core.Option.{Option, some}
use Prim.Native.Nat.{ℕ, ◌-◌, ◌≤◌, ◌<◌}
use native.Mathlib.Nat.{le_trans}
use lib.Dec.{T, leb, ltb, leb→le, ltb→lt, le→leb}
use lib.IntN.{ℤ}
use lib.ListN.{take}
use Rattle.model.specs.Lists.{all}
use Rattle.model.specs.Sets.{Set, well_formed}
use Rattle.model.proofs.Count.{and_left, and_right, from-T, to-T}
use Rattle.codec.specs.Bytes.{Answer, refused, gives, decode}
use Rattle.codec.proofs.Decoded.{decode-formed, no_way}
use Rattle.enumeration.specs.Search.{Interval, box_of, width, corners_fit, limit_fits}
use Rattle.enumeration.specs.Counting.{side_at, Tally, count_box, axis_fits, count_bytes, counts_bytes}

no_answer : {m : ℕ} {t : Tally} {X : Type 0} → ◌≡◌ {A = Answer Tally} (refused m) (gives t) → X
no_answer e = let z : ◌≡◌ {A = ℕ} 0 1 = cc in no_way z

given : {t u : Tally} → ◌≡◌ {A = Answer Tally} (gives t) (gives u) → t ≡ u
given e = cc

-- ---- the order of the refusals
module _ (n : ℕ) (a : List ℕ) (ls hs : List ℤ) (axis : Option ℕ) (limit : ℕ) where
  pub count-refused : (m : ℕ) → decode n a ≡ refused m → count_bytes n a ls hs axis limit ≡ refused m
  unfolding count_bytes
  count-refused m e = rw (e, count_bytes) refl

  module _ (s : Set) (d : decode n a ≡ gives s) where
    -- once the set is accepted: whether the corners fit, the axis does, the limit does
    abbrev tests : Bool → Bool → Bool → Answer Tally
    tests p q r = cond p (cond q (cond r (gives (count_box s (take n (box_of ls hs)) axis limit)) (refused 13)) (refused 19)) (refused 12)

    count_is : count_bytes n a ls hs axis limit ≡ tests (corners_fit n ls hs) (axis_fits n axis (take n (box_of ls hs))) (limit_fits limit)
    unfolding count_bytes
    count_is = rw (d, count_bytes) refl

    pub count-corners : corners_fit n ls hs ≡ false → count_bytes n a ls hs axis limit ≡ refused 12
    count-corners p = count_is ∙ ap (λ (b : Bool). tests b (axis_fits n axis (take n (box_of ls hs))) (limit_fits limit)) p

    module _ (p : corners_fit n ls hs ≡ true) where
      pub count-axis : axis_fits n axis (take n (box_of ls hs)) ≡ false → count_bytes n a ls hs axis limit ≡ refused 19
      count-axis q = count_is ∙ ap₂ (λ (b c : Bool). tests b c (limit_fits limit)) p q

      module _ (q : axis_fits n axis (take n (box_of ls hs)) ≡ true) where
        asks : (r : Bool) → limit_fits limit ≡ r → count_bytes n a ls hs axis limit ≡ cond r (gives (count_box s (take n (box_of ls hs)) axis limit)) (refused 13)
        asks r e = count_is ∙ ap₂ (λ (b c : Bool). tests b c (limit_fits limit)) p q ∙ ap (tests true true) e

        pub count-limit : limit_fits limit ≡ false → count_bytes n a ls hs axis limit ≡ refused 13
        count-limit e = asks false e

        pub count_gives : limit_fits limit ≡ true → count_bytes n a ls hs axis limit ≡ gives (count_box s (take n (box_of ls hs)) axis limit)
        count_gives e = asks true e

-- ---- what was asked, where a count is given
pub record Asked (n : ℕ) (a : List ℕ) (ls hs : List ℤ) (axis : Option ℕ) (limit : ℕ) (t : Tally) : Type 0 where
  pub s : Set
  pub decoded : decode n a ≡ gives s
  pub formed : T (all well_formed s)
  pub corners : corners_fit n ls hs ≡ true
  pub axis-fits : axis_fits n axis (take n (box_of ls hs)) ≡ true
  pub limit-fits : limit_fits limit ≡ true
  pub answer : count_box s (take n (box_of ls hs)) axis limit ≡ t

pub asked : (n : ℕ) (a : List ℕ) (ls hs : List ℤ) (axis : Option ℕ) (limit : ℕ) (t : Tally) → count_bytes n a ls hs axis limit ≡ gives t → Asked n a ls hs axis limit t
asked n a ls hs axis limit t e = by (decode n a) refl
  where
    at : (s : Set) → decode n a ≡ gives s → (p q r : Bool) → corners_fit n ls hs ≡ p → axis_fits n axis (take n (box_of ls hs)) ≡ q → limit_fits limit ≡ r → Asked n a ls hs axis limit t
    at s d true true true p q r =
        record {
          s = s;
          decoded = d;
          formed = decode-formed n a s d;
          corners = p;
          axis-fits = q;
          limit-fits = r;
          answer = given (sym (count_gives n a ls hs axis limit s d p q r) ∙ e);
        }
    at s d true true false p q r = no_answer (sym (count-limit n a ls hs axis limit s d p q r) ∙ e)
    at s d true false c p q r = no_answer (sym (count-axis n a ls hs axis limit s d p q) ∙ e)
    at s d false b c p q r = no_answer (sym (count-corners n a ls hs axis limit s d p) ∙ e)

    by : (x : Answer Set) → decode n a ≡ x → Asked n a ls hs axis limit t
    by (refused m) d = no_answer (sym (count-refused n a ls hs axis limit m d) ∙ e)
    by (gives s) d = at s d (corners_fit n ls hs) (axis_fits n axis (take n (box_of ls hs))) (limit_fits limit) refl refl refl

-- an axis that fits
pub axis-is : (n axis : ℕ) (box : List Interval) → axis_fits n (some axis) box ≡ true → (0 < axis) × (axis ≤ n) × (width (side_at (axis - 1) box) ≤ 64)
axis-is n axis box e = (
  ltb→lt 0 axis (and_left (ltb 0 axis) (leb axis n && leb values 64) t),
  leb→le axis n (and_left (leb axis n) (leb values 64) (and_right (ltb 0 axis) (leb axis n && leb values 64) t)),
  leb→le values 64 (and_right (leb axis n) (leb values 64) (and_right (ltb 0 axis) (leb axis n && leb values 64) t)),
)
  where
    values : ℕ
    values = width (side_at (axis - 1) box)

    t : T (axis_fits n (some axis) box)
    t = to-T (axis_fits n (some axis) box) e

-- ---- in a lent table
module _ (n size : ℕ) (a : List ℕ) (ls hs : List ℤ) (axis limit : ℕ) where
  abbrev values : ℕ
  values = width (side_at (axis - 1) (take n (box_of ls hs)))

  pub counts-refused : (m : ℕ) → count_bytes n a ls hs (some axis) limit ≡ refused m → counts_bytes n size a ls hs axis limit ≡ refused m
  unfolding counts_bytes
  counts-refused m e = rw (e, counts_bytes) refl

  module _ (t : Tally) (e : count_bytes n a ls hs (some axis) limit ≡ gives t) where
    counts-is : counts_bytes n size a ls hs axis limit ≡ cond (leb values size) (gives t) (refused 11)
    unfolding counts_bytes
    counts-is = rw (e, counts_bytes) refl

    -- last: "one for each value", and the table has fewer places
    pub counts-room : leb values size ≡ false → counts_bytes n size a ls hs axis limit ≡ refused 11
    counts-room l = counts-is ∙ ap (λ (b : Bool). cond b (gives t) (refused 11)) l

    pub counts-gives : leb values size ≡ true → counts_bytes n size a ls hs axis limit ≡ gives t
    counts-gives l = counts-is ∙ ap (λ (b : Bool). cond b (gives t) (refused 11)) l

  -- what is given in a table is the count
  pub in_table : (t : Tally) → counts_bytes n size a ls hs axis limit ≡ gives t → (count_bytes n a ls hs (some axis) limit ≡ gives t) × (values ≤ size)
  in_table t e = by (count_bytes n a ls hs (some axis) limit) refl
    where
      fits : (u : Tally) → count_bytes n a ls hs (some axis) limit ≡ gives u → (b : Bool) → leb values size ≡ b → (count_bytes n a ls hs (some axis) limit ≡ gives t) × (values ≤ size)
      fits u c true l = (c ∙ sym (counts-gives u c l) ∙ e, leb→le values size (to-T (leb values size) l))
      fits u c false l = no_answer (sym (counts-room u c l) ∙ e)

      by : (x : Answer Tally) → count_bytes n a ls hs (some axis) limit ≡ x → (count_bytes n a ls hs (some axis) limit ≡ gives t) × (values ≤ size)
      by (refused m) c = no_answer (sym (counts-refused m c) ∙ e)
      by (gives u) c = fits u c (leb values size) refl

  -- a table of 64 places is always enough
  pub counts-64 : 64 ≤ size → counts_bytes n size a ls hs axis limit ≡ count_bytes n a ls hs (some axis) limit
  counts-64 h = by (count_bytes n a ls hs (some axis) limit) refl
    where
      few : (t : Tally) → count_bytes n a ls hs (some axis) limit ≡ gives t → values ≤ 64
      few t c = (axis-is n axis (take n (box_of ls hs)) (asked n a ls hs (some axis) limit t c).axis-fits).2

      by : (x : Answer Tally) → count_bytes n a ls hs (some axis) limit ≡ x → counts_bytes n size a ls hs axis limit ≡ count_bytes n a ls hs (some axis) limit
      by (refused m) c = counts-refused m c ∙ sym c
      by (gives t) c = let k : values ≤ size = le_trans (few t c) h in counts-gives t c (from-T (leb values size) (le→leb values size k)) ∙ sym c
