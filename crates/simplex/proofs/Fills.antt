-- The first table: what its rows are made of. Assumes nothing.
use mathlib.Core.Path.{◌≡◌, refl, sym, ap, ap₂, ◌∙◌, subst}
use mathlib.Core.Bool.{Bool, true, false, cond}
use mathlib.Core.List.{List, [], ◌∷◌, ◌++◌, map, append_assoc}
use mathlib.Core.Option.{none, some}
use mathlib.Core.Logic.{⊎_elim}
use Prim.Native.Nat.{ℕ, zero, suc, ◌+◌, ◌-◌, ◌*◌, ◌≤◌, ◌<◌}
use native.Mathlib.Nat.{le_of_suc-le-suc, not-suc-le-zero, add-zero, zero-add, suc-add, add-suc}
use native.Mathlib.Numerals.{add-one, add-two}
use native.Mathlib.Omega.{arith}
use borrow.Author.Tests.{eqb-true, eqb-false}
use lib.Dec.{ltb, eqb}
use lib.ListN.{length, get_or, set, take, length-set, length-map, length-append, get_or-append}
use lib.Seq.{get_or-set_same, get_or-set_other, get_or-append-add, take-suc, take-suc-set, length-take-le}
use lib.IntN.{ℤ, pos, negsuc, neg_ℤ, ◌-ℤ◌, ◌*ℤ◌}
use mir.Syntax.{w16, w32, w64}
use mir.Val.{SFits, to_z}
use Rattle.integers.specs.Z.{Within}
use Rattle.integers.specs.Ring.{ring, quote}
use Rattle.integers.specs.Size.{within-fits, within-mul, within-sub, within-self, fits-within}
use Rattle.integers.specs.Mach.{to_z-nat}
use Rattle.integers.specs.Part.{lt-or-le}
use Rattle.model.specs.Sets as S
use Rattle.model.specs.Sets.{lower, upper, unit, bounds, Kind, inequality}
use Rattle.model.specs.Values.{division_of, constraint_of}
use Rattle.model.specs.declared.Division.{Division}
use Rattle.model.specs.declared.Constraint.{Constraint}
use Rattle.model.specs.declared.BasicSet.{BasicSet}
pub use Rattle.model.proofs.Lists.{map-append, map_get}
use Rattle.feasibility.specs.Tableau.{pad}
use Rattle.simplex.specs.Table.{number_at, start_row, place_at, kind_number, Copied, Started, Named, Bounded, Ruled}
use Rattle.tableau.proofs.Lines.{zeros, zeros-at, map-zero, within-minus}
use Rattle.simplex.proofs.Columns.{standing-low, standing-mid, standing-high, lay-is}

-- ---- numbers of 16 and 32 bits as numbers of 64

pub short-fits : {z : ℤ} → SFits w16 z → SFits w64 z
short-fits h = within-fits (omega arith) (fits-within h)

pub word_fits : {z : ℤ} → SFits w32 z → SFits w64 z
word_fits h = within-fits (omega arith) (fits-within h)

pub times-fit : {s x : ℤ} → Within 1 s → SFits w16 x → SFits w64 (s *ℤ x)
times-fit h k = within-fits (omega arith) (within-mul h (fits-within k))

pub count_is : (d : ℕ) → d < 4294967296 → to_z w64 d ≡ pos d
count_is d h = to_z-nat w64 d 4294967296 h tt

count-within : (d : ℕ) → d < 4294967296 → Within 4294967296 (pos d)
count-within d h = record { size = omega arith }

pub minus-fits : (d : ℕ) → d < 4294967296 → SFits w64 (pos 0 -ℤ pos d)
minus-fits d h = within-fits (omega arith) (within-minus (count-within d h))

pub upper_fits : (d : ℕ) (c : ℤ) → d < 4294967296 → SFits w32 c → SFits w64 (pos d -ℤ pos 1 -ℤ c)
upper_fits d c h k = within-fits (omega arith) (within-sub (within-sub (count-within d h) (within-self (pos 1))) (fits-within k))

-- ---- copies

pub copied_none : (base : ℕ) (s : ℤ) (a l : List ℤ) → Copied base s 0 a l l
copied_none base s a l = record { long = refl; inside = λ i h. absurd (not-suc-le-zero h); low = λ i h. refl; high = λ i h. refl }

pub copied_more : (base : ℕ) (s : ℤ) (n : ℕ) (a l l' : List ℤ) (v : ℤ) → base + n < length l → v ≡ s *ℤ get_or a n (pos 0) → Copied base s n a l l' → Copied base s (n + 1) a l (set l' (base + n) v)
copied_more base s n a l l' v b e c =
    let len = c.long in
    record {
      long = length-set l' (base + n) v ∙ c.long;
      inside = λ i h. at i h (eqb i n) refl;
      low = λ i h. get_or-set_other l' (base + n) i v (pos 0) (omega arith) ∙ c.low i h;
      high = λ i h. get_or-set_other l' (base + n) i v (pos 0) (omega arith) ∙ c.high i (omega arith);
    }
  where
    at : (i : ℕ) → i < n + 1 → (t : Bool) → eqb i n ≡ t → get_or (set l' (base + n) v) (base + i) (pos 0) ≡ s *ℤ get_or a i (pos 0)
    at i h true q =
        let z = eqb-true i n q in
        let len = c.long in
        subst (λ m. get_or (set l' (base + n) v) (base + m) (pos 0) ≡ s *ℤ get_or a m (pos 0)) (sym z) (get_or-set_same l' (base + n) v (pos 0) (omega arith) ∙ e)
    at i h false q =
        let z = eqb-false i n q in
        get_or-set_other l' (base + n) (base + i) v (pos 0) (λ x. z (omega arith)) ∙ c.inside i (inside i n h z)
      where
        inside : (i n : ℕ) → i < n + 1 → (i ≡ n → ⊥) → i < n
        inside i n h z = ⊎_elim (λ x. x) (λ x. absurd (z (omega arith))) (lt-or-le i n)

-- ---- a first row

abbrev pub fresh : ℤ → List ℤ
fresh z = set (set zeros 0 (pos 1)) 1 z

pub started : (k : ℕ) (z s : ℤ) (a l : List ℤ) → k ≤ 8 → Copied (k + 2) s 8 a (fresh z) l → Started k z s a l
started k z s a l h c =
    record {
      long = c.long;
      den = c.low 0 (omega arith);
      constant = c.low 1 (omega arith);
      divs = λ i b. c.low (i + 2) (omega arith) ∙ past (i + 2) (omega arith);
      axes = λ i b. c.inside i b;
      rest = λ i b. c.high i (omega arith) ∙ past i (omega arith);
    }
  where
    past : (i : ℕ) → 2 ≤ i → get_or (fresh z) i (pos 0) ≡ pos 0
    past i b = get_or-set_other (set zeros 0 (pos 1)) 1 i z (pos 0) (omega arith) ∙ get_or-set_other zeros 0 i (pos 1) (pos 0) (omega arith) ∙ zeros-at 18 i

pad-at : (k : ℕ) (l : List ℤ) (i : ℕ) → i < k → get_or (pad k l) i (pos 0) ≡ get_or l i (pos 0)
pad-at zero l i h = absurd (not-suc-le-zero h)
pad-at (suc k) [] zero h = refl
pad-at (suc k) [] (suc i) h = pad-at k [] i (le_of_suc-le-suc h)
pad-at (suc k) (x ∷ l) zero h = refl
pad-at (suc k) (x ∷ l) (suc i) h = pad-at k l i (le_of_suc-le-suc h)

pad-long : (k : ℕ) (l : List ℤ) → length (pad k l) ≡ k
pad-long zero l = refl
pad-long (suc k) [] = ap suc (pad-long k [])
pad-long (suc k) (x ∷ l) = ap suc (pad-long k l)

pub past_end : (l : List ℤ) (i : ℕ) → length l ≤ i → get_or l i (pos 0) ≡ pos 0
past_end [] i h = refl
past_end (x ∷ l) zero h = absurd (not-suc-le-zero h)
past_end (x ∷ l) (suc i) h = past_end l i (le_of_suc-le-suc h)

-- the numbers of a first row, column by column
module _ (k : ℕ) (kin : k ≤ 8) (r : S.Constraint) where
  abbrev ns : List ℤ
  ns = pad 8 r.axes ++ pad k r.divisions

  at-axis : (i : ℕ) → i < 8 → get_or ns i (pos 0) ≡ get_or r.axes i (pos 0)
  at-axis i h = get_or-append (pad 8 r.axes) (pad k r.divisions) (pos 0) i (subst (λ n. i < n) (sym (pad-long 8 r.axes)) h) ∙ pad-at 8 r.axes i h

  at-division : (c : ℕ) → c < k → get_or ns (8 + c) (pos 0) ≡ get_or r.divisions c (pos 0)
  at-division c h =
      ap (λ n. get_or ns (n + c) (pos 0)) (sym (pad-long 8 r.axes))
      ∙ get_or-append-add (pad 8 r.axes) (pad k r.divisions) c (pos 0)
      ∙ pad-at k r.divisions c h

  at-end : (i : ℕ) → 8 + k ≤ i → get_or ns i (pos 0) ≡ pos 0
  at-end i h = past_end ns i (subst (λ n. n ≤ i) (sym (length-append (pad 8 r.axes) (pad k r.divisions) ∙ ap₂ ◌+◌ (pad-long 8 r.axes) (pad-long k r.divisions))) h)

  pub start-row : (l : List ℤ) → length l ≡ 18 → get_or l 0 (pos 0) ≡ pos 1 → get_or l 1 (pos 0) ≡ r.constant → ((c : ℕ) → c < k → get_or l (c + 2) (pos 0) ≡ get_or r.divisions c (pos 0))
      → ((i : ℕ) → i < 8 → get_or l (k + 2 + i) (pos 0) ≡ get_or r.axes i (pos 0)) → ((i : ℕ) → k + 10 ≤ i → get_or l i (pos 0) ≡ pos 0) → l ≡ start_row k r
  unfolding number_at start_row
  start-row l len d z f g e = lay-is k kin l (pos 1) (r.constant ∷ ns) len at
    where
      at : (i : ℕ) → i < 18 → get_or l i (pos 0) ≡ number_at k (pos 1) (r.constant ∷ ns) i
      at zero h = d
      at (suc zero) h = z
      at (suc (suc c)) h =
          ap (λ n. get_or l n (pos 0)) (sym (add-two c))
          ∙ ⊎_elim
          (λ b. f c b ∙ sym (at-division c b) ∙ ap (λ n. get_or ns n (pos 0)) (sym (standing-low k c b)))
          (λ b. ⊎_elim
          (λ b'. ap (λ n. get_or l n (pos 0)) (shift c b) ∙ g (c - k) (omega arith) ∙ sym (at-axis (c - k) (omega arith)) ∙ ap (λ n. get_or ns n (pos 0)) (sym (standing-mid k c b b')))
          (λ b'. e (c + 2) (omega arith) ∙ sym (at-end c b') ∙ ap (λ n. get_or ns n (pos 0)) (sym (standing-high k c b')))
          (lt-or-le c (8 + k)))
          (lt-or-le c k)
        where
          shift : (c : ℕ) → k ≤ c → c + 2 ≡ k + 2 + (c - k)
          shift c b = omega arith

unit-here : (i : ℕ) (x : ℤ) → get_or (unit i x) i (pos 0) ≡ x
unit-here zero x = refl
unit-here (suc i) x = unit-here i x

unit-other : (i : ℕ) (x : ℤ) (c : ℕ) → (c ≡ i → ⊥) → get_or (unit i x) c (pos 0) ≡ pos 0
unit-other zero x zero n = absurd (n refl)
unit-other zero x (suc c) n = refl
unit-other (suc i) x zero n = refl
unit-other (suc i) x (suc c) n = unit-other i x c (λ e. n (ap suc e))

-- the row of a bound: the entry of its own division is stored last
pub bound-row : (k i : ℕ) (z s x : ℤ) (a l : List ℤ) (kind : Kind) (axes : List ℤ) → k ≤ 8 → i < k → ((m : ℕ) → s *ℤ get_or a m (pos 0) ≡ get_or axes m (pos 0)) → Started k z s a l
    → set l (i + 2) x ≡ start_row k (record { kind = kind; number = 0; constant = z; axes = axes; divisions = unit i x })
bound-row k i z s x a l kind axes kin h same t =
    let len = t.long in
    start-row k kin (record { kind = kind; number = 0; constant = z; axes = axes; divisions = unit i x }) (set l (i + 2) x)
    (length-set l (i + 2) x ∙ t.long)
    (get_or-set_other l (i + 2) 0 x (pos 0) (omega arith) ∙ t.den)
    (get_or-set_other l (i + 2) 1 x (pos 0) (omega arith) ∙ t.constant)
    (λ c b. at c b (eqb c i) refl)
    (λ m b. get_or-set_other l (i + 2) (k + 2 + m) x (pos 0) (omega arith) ∙ t.axes m b ∙ same m)
    (λ m b. get_or-set_other l (i + 2) m x (pos 0) (omega arith) ∙ t.rest m b)
  where
    at : (c : ℕ) → c < k → (b : Bool) → eqb c i ≡ b → get_or (set l (i + 2) x) (c + 2) (pos 0) ≡ get_or (unit i x) c (pos 0)
    at c b true q =
        let e = eqb-true c i q in
        let len = t.long in
        subst (λ m. get_or (set l (i + 2) x) (m + 2) (pos 0) ≡ get_or (unit i x) m (pos 0)) (sym e) (get_or-set_same l (i + 2) x (pos 0) (omega arith) ∙ sym (unit-here i x))
    at c b false q =
        let e = eqb-false c i q in get_or-set_other l (i + 2) (c + 2) x (pos 0) (λ z. e (omega arith)) ∙ t.divs c b ∙ sym (unit-other i x c e)

pub once : (a : List ℤ) (m : ℕ) → pos 1 *ℤ get_or a m (pos 0) ≡ get_or a m (pos 0)
once a m = ring (get_or a m (pos 0) ∷ []) (search quote depth 30) tt

pub opposed : (a : List ℤ) (m : ℕ) → negsuc 0 *ℤ get_or a m (pos 0) ≡ get_or (map neg_ℤ a) m (pos 0)
opposed a m = ring (get_or a m (pos 0) ∷ []) {b = neg_ℤ (get_or a m (pos 0))} (search quote depth 30) tt ∙ sym (map-zero neg_ℤ a m refl)

pub lower-is : (k i d : ℕ) (z : ℤ) (a l : List ℤ) → k ≤ 8 → i < k → Started k z (pos 1) a l → set l (i + 2) (neg_ℤ (pos d)) ≡ start_row k (lower i (record { divisor = d; constant = z; axes = a }))
lower-is k i d z a l kin h t = bound-row k i z (pos 1) (neg_ℤ (pos d)) a l inequality a kin h (once a) t

pub upper_is : (k i d : ℕ) (c : ℤ) (a l : List ℤ) → k ≤ 8 → i < k → Started k (pos d -ℤ pos 1 -ℤ c) (negsuc 0) a l → set l (i + 2) (pos d) ≡ start_row k (upper i (record { divisor = d; constant = c; axes = a }))
upper_is k i d c a l kin h t = bound-row k i (pos d -ℤ pos 1 -ℤ c) (negsuc 0) (pos d) a l inequality (map neg_ℤ a) kin h (opposed a) t

pub constraint-is : (k : ℕ) (r : S.Constraint) (l l' : List ℤ) → k ≤ 8 → Started k r.constant (pos 1) r.axes l → Copied 2 (pos 1) k r.divisions l l' → l' ≡ start_row k r
constraint-is k r l l' kin t c =
    start-row k kin r l'
    (c.long ∙ t.long)
    (c.low 0 (omega arith) ∙ t.den)
    (c.low 1 (omega arith) ∙ t.constant)
    (λ i b. ap (λ n. get_or l' n (pos 0)) (native.Mathlib.Nat.add_comm i 2) ∙ c.inside i b ∙ once r.divisions i)
    (λ i b. c.high (k + 2 + i) (omega arith) ∙ t.axes i b ∙ once r.axes i)
    (λ i b. c.high i (omega arith) ∙ t.rest i b)

-- ---- lists that grow by stores past their end

pub push : {A : Type 0} (l : List A) (n : ℕ) (x : A) (m : List A) → n < length l → take n l ≡ m → take (suc n) (set l n x) ≡ m ++ x ∷ []
push l n x m h e = take-suc-set l n x h ∙ ap (λ u. u ++ x ∷ []) e

bounds-snoc : (s : ℕ) (l : List S.Division) (e : S.Division) → bounds s (l ++ e ∷ []) ≡ bounds s l ++ (lower (s + length l) e ∷ upper (s + length l) e ∷ [])
bounds-snoc s [] e = ap (λ n. lower n e ∷ upper n e ∷ []) (sym (add-zero s))
bounds-snoc s (x ∷ l) e =
    ap (λ u. lower s x ∷ upper s x ∷ u) (bounds-snoc (suc s) l e ∙ ap (λ n. bounds (suc s) l ++ (lower n e ∷ upper n e ∷ [])) (suc-add s (length l) ∙ sym (add-suc s (length l))))

-- ---- the variables' places and kinds

pub named_none : (k : ℕ) (place kinds : List ℕ) → Named k 0 place place kinds kinds
named_none k place kinds = record { long = refl; names = refl; places = λ v h. absurd (not-suc-le-zero h); free = λ v h. absurd (not-suc-le-zero h) }

-- one more of which something holds
set_more : (f : ℕ → ℕ) (l : List ℕ) (n x : ℕ) → n < length l → x ≡ f n → ((v : ℕ) → v < n → get_or l v 0 ≡ f v) → (v : ℕ) → v < n + 1 → get_or (set l n x) v 0 ≡ f v
set_more f l n x b e h v a = at (eqb v n) refl
  where
    at : (t : Bool) → eqb v n ≡ t → get_or (set l n x) v 0 ≡ f v
    at true q = let z = eqb-true v n q in subst (λ m. get_or (set l n x) m 0 ≡ f m) (sym z) (get_or-set_same l n x 0 b ∙ e)
    at false q = let z = eqb-false v n q in get_or-set_other l n v x 0 z ∙ h v (⊎_elim (λ y. y) (λ y. absurd (z (omega arith))) (lt-or-le v n))

pub named_more : (k n : ℕ) (place place' kinds kinds' : List ℕ) (x y : ℕ) → n < length place → n < length kinds → x ≡ place_at k n → y ≡ cond (ltb n (8 + k)) 0 1 → Named k n place place' kinds kinds'
    → Named k (n + 1) place (set place' n x) kinds (set kinds' n y)
named_more k n place place' kinds kinds' x y hp hk ex ey m =
    let lp = m.long in
    let lk = m.names in
    record {
      long = length-set place' n x ∙ m.long;
      names = length-set kinds' n y ∙ m.names;
      places = set_more (place_at k) place' n x (omega arith) ex m.places;
      free = set_more (λ v. cond (ltb v (8 + k)) 0 1) kinds' n y (omega arith) ey m.free;
    }

-- ---- the rows

module _ (k i : ℕ) (ds : List Division) (d : Division) (rows : List (List ℤ)) (x y : List ℤ) where
  pub bounds-more : i < length ds → 2 * i + 2 ≤ length rows → x ≡ start_row k (lower i (division_of (get_or ds i d))) → y ≡ start_row k (upper i (division_of (get_or ds i d)))
      → take (2 * i) rows ≡ map (start_row k) (bounds 0 (map division_of (take i ds))) → take (2 * (i + 1)) (set (set rows (2 * i) x) (2 * i + 1) y) ≡ map (start_row k) (bounds 0 (map division_of (take (i + 1) ds)))
  bounds-more h b ex ey e =
      let m = 2 * i in
      let L = map division_of (take i ds) in
      let q = division_of (get_or ds i d) in
      let two : 2 * (i + 1) ≡ suc (suc m) = omega arith in
      let len : length L ≡ i = length-map (take i ds) division_of ∙ length-take-le i ds (omega arith) in
      ap₂ (λ n r. take n r) two (ap (λ n. set (set rows m x) n y) (add-one m))
      ∙ push (set rows m x) (suc m) y (map (start_row k) (bounds 0 L) ++ x ∷ []) (subst (λ n. suc m < n) (sym (length-set rows m x)) (omega arith)) (push rows m x (map (start_row k) (bounds 0 L)) (omega arith) e)
      ∙ append_assoc (map (start_row k) (bounds 0 L)) (x ∷ []) (y ∷ [])
      ∙ ap₂ (λ u v. map (start_row k) (bounds 0 L) ++ (u ∷ v ∷ [])) ex ey
      ∙ ap (λ n. map (start_row k) (bounds 0 L) ++ map (start_row k) (lower n q ∷ upper n q ∷ [])) (sym (zero-add (length L) ∙ len))
      ∙ sym (map-append (start_row k) (bounds 0 L) (lower (0 + length L) q ∷ upper (0 + length L) q ∷ []))
      ∙ ap (map (start_row k)) (sym (bounds-snoc 0 L q))
      ∙ ap (λ u. map (start_row k) (bounds 0 u)) (sym (map-append division_of (take i ds) (get_or ds i d ∷ [])) ∙ ap (map division_of) (sym (take-suc ds i d h) ∙ ap (λ n. take n ds) (sym (add-one i))))

pub bounded-more : (ds : List Division) (k n : ℕ) (d : Division) (rows rows' : List (List ℤ)) (x y : List ℤ) → n < length ds → 2 * n + 2 ≤ length rows → x ≡ start_row k (lower n (division_of (get_or ds n d))) → y ≡ start_row k (upper n (division_of (get_or ds n d)))
    → Bounded ds k n rows rows' → Bounded ds k (n + 1) rows (set (set rows' (2 * n) x) (2 * n + 1) y)
bounded-more ds k n d rows rows' x y h l ex ey m =
    let len = m.long in
    record {
      long = length-set (set rows' (2 * n) x) (2 * n + 1) y ∙ length-set rows' (2 * n) x ∙ m.long;
      firsts = bounds-more k n ds d rows' x y h (omega arith) ex ey m.firsts;
    }

module _ (b : BasicSet) (n : ℕ) (d : Constraint) (rows rows' : List (List ℤ)) (kinds kinds' : List ℕ) (x : List ℤ) (y : ℕ) where
  pub ruled-more : n < length b.constraints → 2 * b.divs + n < length rows → 8 + 3 * b.divs + n < length kinds → x ≡ start_row b.divs (constraint_of (get_or b.constraints n d))
      → y ≡ kind_number (some (constraint_of (get_or b.constraints n d)).kind) → Ruled b n rows rows' kinds kinds' → Ruled b (n + 1) rows (set rows' (2 * b.divs + n) x) kinds (set kinds' (8 + 3 * b.divs + n) y)
  ruled-more h l g ex ey m =
      let lr = m.long in
      let lk = m.names in
      let k = b.divs in
      let F : List (List ℤ) = take (2 * k) rows in
      let L = take n b.constraints in
      let q = get_or b.constraints n d in
      let one : 2 * k + (n + 1) ≡ suc (2 * k + n) = omega arith in
      record {
        long = length-set rows' (2 * k + n) x ∙ m.long;
        names = length-set kinds' (8 + 3 * k + n) y ∙ m.names;
        firsts =
            ap (λ i. take i (set rows' (2 * k + n) x)) one
            ∙ push rows' (2 * k + n) x (F ++ map (start_row k) (map constraint_of L)) (omega arith) m.firsts
            ∙ append_assoc F (map (start_row k) (map constraint_of L)) (x ∷ [])
            ∙ ap (λ u. F ++ u)
            (ap (λ u. map (start_row k) (map constraint_of L) ++ u ∷ []) ex
            ∙ sym (map-append (start_row k) (map constraint_of L) (constraint_of q ∷ []))
            ∙ ap (map (start_row k)) (sym (map-append constraint_of L (q ∷ [])) ∙ ap (map constraint_of) (sym (take-suc b.constraints n d h) ∙ ap (λ i. take i b.constraints) (sym (add-one n)))));
        before = λ v a. get_or-set_other kinds' (8 + 3 * k + n) v y 0 (omega arith) ∙ m.before v a;
        kinds_are = λ c a. at c a (eqb c n) refl;
      }
    where
      at : (c : ℕ) → c < n + 1 → (t : Bool) → eqb c n ≡ t → get_or (set kinds' (8 + 3 * b.divs + n) y) (8 + 3 * b.divs + c) 0 ≡ kind_number (get_or (map (λ r. some (constraint_of r).kind) b.constraints) c none)
      at c a true e =
          let z = eqb-true c n e in
          let lk = m.names in
          subst (λ c. get_or (set kinds' (8 + 3 * b.divs + n) y) (8 + 3 * b.divs + c) 0 ≡ kind_number (get_or (map (λ r. some (constraint_of r).kind) b.constraints) c none)) (sym z)
          (get_or-set_same kinds' (8 + 3 * b.divs + n) y 0 (omega arith) ∙ ey ∙ ap kind_number (sym (map_get (λ r. some (constraint_of r).kind) b.constraints n d none h)))
      at c a false e =
          let z = eqb-false c n e in
          get_or-set_other kinds' (8 + 3 * b.divs + n) (8 + 3 * b.divs + c) y 0 (λ q. z (omega arith)) ∙ m.kinds_are c (⊎_elim (λ q. q) (λ q. absurd (z (omega arith))) (lt-or-le c n))
