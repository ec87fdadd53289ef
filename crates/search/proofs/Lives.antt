-- The loops of the search over the rows of the basic sets: which can hold, for how many values none can, and the rows themselves.
use mathlib.Core.Path.{◌≡◌, refl, sym, ap, ap₂, ◌∙◌, subst, subst₂}
use mathlib.Core.Bool.{Bool, true, false, ◌||◌, or_assoc, or-false, or-true}
use mathlib.Core.List.{List, [], ◌∷◌, ◌++◌, map, append_assoc, append-nil}
use Prim.Native.Nat.{ℕ, zero, suc, ◌+◌, ◌-◌, ◌≤◌, ◌<◌}
use native.Mathlib.Numerals.{add-one}
use native.Mathlib.Omega.{arith}
use lib.Dec.{ltb, eqb, le→leb}
use lib.IntN.{ℤ, pos, ◌+ℤ◌, ◌-ℤ◌}
use lib.Signed.{◌≤ℤ◌}
use lib.ListN.{length, take, drop, get_or, set, replicate, length-set, length-take, length-map, drop_of_length-le, get_or-eq_default}
use lib.Seq.{drop-cons, get_or-set_same, get_or-set_other, get_or-take, map-set_same, take-suc-set, set-set}
use borrow.Author.Tests.{eqb-true, eqb-false, ltb-true, ltb-false}
use Rattle.integers.specs.Lin.{le, eq, abs, lin, lia-le, lia-eq}
use Rattle.integers.specs.Order.{pos-nonneg}
use Rattle.integers.specs.Size.{nat_abs-nonneg}
use Rattle.model.specs.Lists.{any}
use Rattle.model.specs.Sets.{Set}
use Rattle.model.proofs.Lists.{map_get}
use Rattle.codec.specs.Places.{basic_at, set_from, end_of, Opened, Accepted, Boundary}
use Rattle.codec.proofs.Decoded.{Bytes, decode-formed}
use Rattle.codec.proofs.Valid.{decode-valid}
use Rattle.codec.proofs.Boundaries.{boundary_start, boundary_end, boundary-opened, boundary-next, boundary-set, decode_is}
use Rattle.bounds.specs.Ends.{AllWithin}
use Rattle.bounds.specs.Rows.{start_of, Row}
use Rattle.bounds.proofs.Reading.{by, set-within, take_within}
use Rattle.runs.specs.Upward.{widened, Reach}
use Rattle.runs.proofs.Upward.{widened-take}
use Rattle.enumeration.specs.Search.{Interval, can_hold, box_of}
use Rattle.search.specs.Sides.{sides_of, Standing}
use Rattle.search.specs.Live.{row_basic, Rows, Live, Laid, wide_box, Fails, Holding, Failing, Sided}
use Rattle.search.specs.Levels.{ok_at}
use Rattle.enumeration.proofs.Windows.{box-take}
use Rattle.search.proofs.Climbs.{lt_of, span, value-within, ok-is}
use Rattle.search.proofs.Parts.{Parts, part-dead, part-any, parts-set, parts-take}

-- ---- lists
map-map : (xs : List Interval) (s : List ℕ) (rows : List (List ℤ)) → map (can_hold xs) (map (row_basic s) rows) ≡ map (λ (r : List ℤ). can_hold xs (row_basic s r)) rows
map-map xs s [] = refl
map-map xs s (r ∷ rows) = ap (λ (l : List Bool). can_hold xs (row_basic s r) ∷ l) (map-map xs s rows)

any-map : {A : Type 0} (p : A → Bool) (l : List A) → any p l ≡ any (λ (b : Bool). b) (map p l)
any-map p [] = refl
any-map p (x ∷ l) = ap (λ (b : Bool). p x || b) (any-map p l)

any_at : (l : List Bool) (b : ℕ) → get_or l b false ≡ true → any (λ (x : Bool). x) l ≡ true
any_at [] zero e = e
any_at [] (suc b) e = e
any_at (x ∷ l) zero e = ap (λ (y : Bool). y || any (λ (z : Bool). z) l) e
any_at (x ∷ l) (suc b) e = ap (λ (y : Bool). x || y) (any_at l b e) ∙ or-true x

-- ---- rows
module _ (s : List ℕ) (n : ℕ) (rows : List (List ℤ)) (g : Rows s n rows) where
  rows-length : length (set_from s 0) ≡ length rows
  rows-length = ap length (sym g.sets) ∙ length-map rows (row_basic s)

  pub rows-can : (xs : List Interval) (b : ℕ) → b < length rows → get_or (map (can_hold xs) (set_from s 0)) b false ≡ can_hold xs (row_basic s (get_or rows b []))
  rows-can xs b h = ap (λ (l : Set). get_or (map (can_hold xs) l) b false) (sym g.sets) ∙ ap (λ (l : List Bool). get_or l b false) (map-map xs s rows) ∙ map_get (λ (r : List ℤ). can_hold xs (row_basic s r)) rows b [] false h

  pub rows-any : (xs : List Interval) (b : ℕ) → b < length rows → can_hold xs (row_basic s (get_or rows b [])) ≡ true → any (can_hold xs) (set_from s 0) ≡ true
  rows-any xs b h e = any-map (can_hold xs) (set_from s 0) ∙ any_at (map (can_hold xs) (set_from s 0)) b (rows-can xs b h ∙ e)

  pub rows-set : (b : ℕ) (r : List ℤ) → b < length rows → Row s n r → start_of r ≡ start_of (get_or rows b []) → Rows s n (set rows b r)
  rows-set b r h w e =
      record {
        few = let f = g.few in omega (arith, length-set rows b r);
        sets = map-set_same (row_basic s) rows b r [] (ap (basic_at s) e) ∙ g.sets;
        at = λ i l. let l' : i < length rows = omega (arith, length-set rows b r) in by (λ (x : Bool). Row s n (get_or (set rows b r) i [])) (eqb i b)
            (λ q. subst (λ (j : ℕ). Row s n (get_or (set rows b r) j [])) (sym (eqb-true i b q)) (subst (Row s n) (sym (get_or-set_same rows b r [] h)) w))
            (λ q. subst (Row s n) (sym (get_or-set_other rows b i r [] (eqb-false i b q))) (g.at i l'));
      }

-- a set that is not live there cannot hold
pub live-told : (s : List ℕ) (n : ℕ) (xs : List Interval) (rows : List (List ℤ)) (live : List Bool) → Rows s n rows → Live s xs live → (b : ℕ) → b < length rows → get_or live b false ≡ false → can_hold xs (row_basic s (get_or rows b [])) ≡ false
live-told s n xs rows live g v b h e = sym (rows-can s n rows g xs b h) ∙ v.dead b e

-- ---- which can hold over the sides, and where none can, for how many values
any_none : {A : Type 0} (p : A → Bool) (l : List A) → ((i : ℕ) → get_or (map p l) i false ≡ false) → any p l ≡ false
any_none p [] h = refl
any_none p (x ∷ l) h = ap (λ (b : Bool). b || any p l) (h 0) ∙ any_none p l (λ i. h (suc i))

neither : (a b : Bool) → (a || b) ≡ false → (a ≡ false) × (b ≡ false)
neither true b e = let z : ◌≡◌ {A = ℕ} 0 1 = cc in absurd (omega arith)
neither false b e = (refl, e)

-- the first b basic sets are asked: `kept` tells which of them can hold, `found` whether one can
pub record Opens (s : List ℕ) (n : ℕ) (xs : List Interval) (wide : ℕ → List Interval) (r₀ rows : List (List ℤ)) (kept : List Bool) (found : Bool) (most run b : ℕ) : Type 0 where
  pub right : Rows s n rows
  pub same : length rows ≡ length r₀
  pub inside : b ≤ length rows
  pub places : length kept ≡ 32
  pub is : (i : ℕ) → i < b → get_or kept i false ≡ get_or (map (can_hold xs) (set_from s 0)) i false
  pub any_is : (found || any (λ (x : Bool). x) (drop b (map (can_hold xs) (set_from s 0)))) ≡ any (can_hold xs) (set_from s 0)
  pub some : 0 < run
  pub few : run ≤ most
  pub far : found ≡ false → (i : ℕ) → i < b → Fails s wide run i

pub opens-start : (s : List ℕ) (n : ℕ) (xs : List Interval) (wide : ℕ → List Interval) (rows : List (List ℤ)) (live : List Bool) (most : ℕ) → Rows s n rows → length live ≡ 32 → 0 < most → Opens s n xs wide rows rows live false most most 0
opens-start s n xs wide rows live most g e h =
    record {
      right = g;
      same = refl;
      inside = omega arith;
      places = e;
      is = λ i o. absurd (omega arith);
      any_is = sym (any-map (can_hold xs) (set_from s 0));
      some = h;
      few = omega arith;
      far = λ _ i o. absurd (omega arith);
    }

module _ (s : List ℕ) (n : ℕ) (xs : List Interval) (wide : ℕ → List Interval) (r₀ rows : List (List ℤ)) (kept : List Bool) (found : Bool) (most run b : ℕ) (g : Opens s n xs wide r₀ rows kept found most run b) where
  abbrev can : List Bool
  can = map (can_hold xs) (set_from s 0)

  long : length can ≡ length rows
  long = length-map (set_from s 0) (can_hold xs) ∙ rows-length s n rows g.right

  -- the next fails for m values, or can hold where m is 0
  module _ (h : b < length rows) (r : List ℤ) (w : Row s n r) (e : start_of r ≡ start_of (get_or rows b [])) (m : ℕ) (q : eqb m 0 ≡ can_hold xs (row_basic s (get_or rows b []))) (l : m ≤ run) (f : 0 < m → can_hold (wide m) (row_basic s (get_or rows b [])) ≡ false) where
    next-is : get_or can b false ≡ eqb m 0
    next-is = rows-can s n rows g.right xs b h ∙ sym q

    kept-is : (i : ℕ) → i < b + 1 → get_or (set kept b (eqb m 0)) i false ≡ get_or can i false
    kept-is i o = by (λ (y : Bool). get_or (set kept b (eqb m 0)) i false ≡ get_or can i false) (ltb i b)
        (λ z. let a = ltb-true i b z in get_or-set_other kept b i (eqb m 0) false (λ o. omega arith) ∙ g.is i a)
        (λ z. let a = ltb-false i b z in let o : i ≡ b = omega arith in let c = g.right.few in let p = g.places in
        ap (λ (j : ℕ). get_or (set kept b (eqb m 0)) j false) o ∙ get_or-set_same kept b (eqb m 0) false (omega arith) ∙ sym next-is ∙ ap (λ (j : ℕ). get_or can j false) (sym o))

    any_next : ((found || eqb m 0) || any (λ (y : Bool). y) (drop (b + 1) can)) ≡ any (can_hold xs) (set_from s 0)
    any_next =
        or_assoc found (eqb m 0) (any (λ (y : Bool). y) (drop (b + 1) can))
        ∙ ap (λ (y : Bool). found || (y || any (λ (y : Bool). y) (drop (b + 1) can))) (sym next-is)
        ∙ ap (λ (y : List Bool). found || any (λ (y : Bool). y) y) (sym (drop-cons can b false (omega (arith, long)) ∙ ap (λ (j : ℕ). get_or can b false ∷ drop j can) (sym (add-one b))))
        ∙ g.any_is

    pub opens-next : (x : Bool) → x ≡ (found || eqb m 0) → (z : ℕ) → 0 < z → (m ≡ 0 → z ≡ 1) → ((m ≡ 0 → ⊥) → z ≡ m) → Opens s n xs wide r₀ (set rows b r) (set kept b (eqb m 0)) x most z (b + 1)
    opens-next x ex z pz one same =
        record {
          right = rows-set s n rows g.right b r h w e;
          same = length-set rows b r ∙ g.same;
          inside = omega (arith, length-set rows b r);
          places = length-set kept b (eqb m 0) ∙ g.places;
          is = kept-is;
          any_is = ap (λ (y : Bool). y || any (λ (y : Bool). y) (drop (b + 1) can)) ex ∙ any_next;
          some = pz;
          few = by (λ (y : Bool). z ≤ most) (eqb m 0) (λ y. let a = one (eqb-true m 0 y) in let c = g.some in let d = g.few in omega arith) (λ y. let a = same (eqb-false m 0 y) in let d = g.few in omega arith);
          far = λ y i o. let d = neither found (eqb m 0) (sym ex ∙ y) in let v = eqb-false m 0 d.1 in let a = same v in
              subst (λ (j : ℕ). Fails s wide j i) (sym a) (by (λ (y : Bool). Fails s wide m i) (ltb i b)
              (λ y. let c = g.far d.0 i (ltb-true i b y) in let k = c.enough in record { reach = c.reach; enough = omega arith; is = c.is })
              (λ y. let c = ltb-false i b y in let k : b ≡ i = omega arith in subst (Fails s wide m) k (record { reach = m; enough = omega arith; is = rows-can s n rows g.right (wide m) b h ∙ f (lt_of 0 m (omega arith) (λ u. v (sym u))) })));
        }

  -- none is left
  none_left : length rows ≤ b → (ys : List Interval) (i : ℕ) → b ≤ i → get_or (map (can_hold ys) (set_from s 0)) i false ≡ false
  none_left h ys i o = get_or-eq_default (map (can_hold ys) (set_from s 0)) false (let z : length (map (can_hold ys) (set_from s 0)) ≤ i = omega (arith, length-map (set_from s 0) (can_hold ys), rows-length s n rows g.right) in z)

  any_of : length rows ≤ b → found ≡ any (can_hold xs) (set_from s 0)
  any_of h = sym (or-false found) ∙ ap (λ (y : List Bool). found || any (λ (y : Bool). y) y) (sym (drop_of_length-le can (let z : length can ≤ b = omega (arith, long) in z))) ∙ g.any_is

  pub opens-holding : length rows ≤ b → found ≡ true → Holding s xs kept
  opens-holding h e = record {
    some = sym (any_of h) ∙ e;
    still = record { places = g.places; dead = λ i e. by (λ (y : Bool). get_or can i false ≡ false) (ltb i b) (λ z. sym (g.is i (ltb-true i b z)) ∙ e) (λ z. none_left h xs i (ltb-false i b z)) };
  }

  pub opens-failing : length rows ≤ b → found ≡ false → Failing s xs wide most run
  opens-failing h e = record {
    none = sym (any_of h) ∙ e;
    some = g.some;
    few = g.few;
    far = λ i. by (λ (y : Bool). Fails s wide run i) (ltb i b) (λ z. g.far e i (ltb-true i b z)) (λ z. record { reach = run; enough = omega arith; is = none_left h (wide run) i (ltb-false i b z) });
  }

-- ---- live sets
all_true : (m i : ℕ) → get_or (replicate m true) i false ≡ false → m ≤ i
all_true zero i e = omega arith
all_true (suc m) zero e = let z : ◌≡◌ {A = ℕ} 0 1 = cc in absurd (omega arith)
all_true (suc m) (suc i) e = let l = all_true m i e in omega arith

pub live-first : (s : List ℕ) (n : ℕ) (xs : List Interval) (rows : List (List ℤ)) → Rows s n rows → Live s xs (replicate 32 true)
live-first s n xs rows g = record {
  places = refl;
  dead = λ b e. let l = all_true 32 b e in let f = g.few in
      get_or-eq_default (map (can_hold xs) (set_from s 0)) false (let o : length (map (can_hold xs) (set_from s 0)) ≤ b = omega (arith, length-map (set_from s 0) (can_hold xs), rows-length s n rows g) in o);
}

pub live-part : (s : List ℕ) (xs ys : List Interval) (live : List Bool) → Accepted s → Parts ys xs → Live s xs live → Live s ys live
live-part s xs ys live a p v =
    record { places = v.places; dead = λ b e. part-dead ys xs (set_from s 0) (decode-formed a.n s (set_from s 0) (decode_is a.n s a.accepted)) p b (v.dead b e) }

-- at a value of the side of axis k
module _ (s : List ℕ) (n k : ℕ) (low high : List ℤ) (g : Standing s n k low high) (i : ℕ) (h : i ≤ span s n k low high g) where
  abbrev value : ℤ
  value = get_or low k (pos 0) +ℤ pos i

  from_low : get_or low k (pos 0) ≤ℤ value
  from_low = lia-le (get_or low k (pos 0) ∷ pos i ∷ []) (le (pos-nonneg i) ∷ []) (search lin depth 30) (omega arith)

  in-side : i ≤ span s n k low high g
  in-side = h

  wide-set : (j : ℕ) → widened k j (set high k value) ≡ set high k (value +ℤ pos j)
  wide-set j =
      let a = g.axes in let c = g.left in let e = g.highs in
      set-set high k value _ ∙ ap (λ (z : ℤ). set high k (z +ℤ pos j)) (get_or-set_same high k value (pos 0) (omega arith))

  -- numbers up to j further are on the side
  further : (j : ℕ) → i + j ≤ span s n k low high g → (value +ℤ pos j) ≤ℤ get_or high k (pos 0)
  further j l =
      let d : pos (span s n k low high g) ≡ get_or high k (pos 0) -ℤ get_or low k (pos 0) = nat_abs-nonneg (lia-le (get_or low k (pos 0) ∷ get_or high k (pos 0) ∷ []) (le (g.ordered k) ∷ []) (search lin depth 30) (omega arith)) in
      let m : pos (i + j) ≤ℤ pos (span s n k low high g) = record { le = le→leb (i + j) (span s n k low high g) l } in
      lia-le (get_or low k (pos 0) ∷ get_or high k (pos 0) ∷ pos i ∷ pos j ∷ pos (span s n k low high g) ∷ []) (eq d ∷ le m ∷ []) (search lin depth 30) (omega arith)

  part : (j : ℕ) → i + j ≤ span s n k low high g → Parts (sides_of n (set low k value) (set high k (value +ℤ pos j))) (sides_of n low high)
  part j l =
      subst₂ Parts (box-take n (set low k value) (set high k (value +ℤ pos j))) (box-take n low high)
      (parts-take n (box_of (set low k value) (set high k (value +ℤ pos j))) (box_of low high) (parts-set k low high value (value +ℤ pos j) from_low (further j l)))

  live-wide : (live : List Bool) → Live s (sides_of n low high) live → (j : ℕ) → i + j ≤ span s n k low high g → Live s (sides_of n (set low k value) (set high k (value +ℤ pos j))) live
  live-wide live v j l = live-part s (sides_of n low high) (sides_of n (set low k value) (set high k (value +ℤ pos j))) live g.accepted (part j l) v

  -- the sides at the value, as the code has them
  module _ (l u : List ℤ) (el : l ≡ set low k value) (eu : u ≡ set high k value) where
    pub axes-length : (x v : List ℤ) → length x ≡ 8 → v ≡ set x k value → n ≡ length (take n v)
    axes-length x v e q = let a = g.axes in omega (arith, length-take n v, ap length q, length-set x k value)

    -- m values from it on, over n sides
    pub wide_at : (m : ℕ) → wide_box k (take n l) (take n u) m ≡ sides_of n (set low k value) (set high k (value +ℤ pos (m - 1)))
    wide_at m = ap₂ (λ (x y : List ℤ). box_of (take n x) y) el (widened-take n k (m - 1) u g.left ∙ ap (take n) (ap (widened k (m - 1)) eu ∙ wide-set (m - 1)))

    -- both ends of axis k are at the value
    pub reach-low : (most : ℕ) → Reach k (take n u) most → Reach k (take n l) most
    reach-low most r =
        let a = g.axes in let c = g.left in let d = g.lows in let e = g.highs in
        record {
          far = subst (λ (x : ℤ). (x +ℤ pos most) ≤ℤ pos 1048577)
              (get_or-take n u k (pos 0) c ∙ ap (λ (x : List ℤ). get_or x k (pos 0)) eu ∙ get_or-set_same high k value (pos 0) (omega arith)
              ∙ sym (get_or-take n l k (pos 0) c ∙ ap (λ (x : List ℤ). get_or x k (pos 0)) el ∙ get_or-set_same low k value (pos 0) (omega arith))) r.far;
        }

    pub next_fits : (live : List Bool) (most : ℕ) → Live s (sides_of n low high) live → 0 < most → i + most ≤ suc (span s n k low high g) → Sided s k (take n l) (take n u) live most
    next_fits live most v o q =
        let w = value-within s n k low high g i h in let a = g.axes in let c = g.left in let d = g.lows in let e = g.highs in let y = axes-length low l d el in let z = axes-length high u e eu in
        record {
          ends = record {
            few = omega arith;
            same = omega arith;
            lows = take_within 1048576 l n (subst (AllWithin 1048576) (sym el) (set-within 1048576 low k value g.low_size w (omega arith)));
            highs = take_within 1048576 u n (subst (AllWithin 1048576) (sym eu) (set-within 1048576 high k value g.high_size w (omega arith)));
          };
          axis = omega arith;
          lives = subst (λ (xs : List Interval). Live s xs live) (sym at_value) (live-wide live v 0 (let z = in-side in omega arith));
          reach = record { far = subst (λ (x : ℤ). (x +ℤ pos most) ≤ℤ pos 1048577) (sym (get_or-take n u k (pos 0) c ∙ ap (λ (x : List ℤ). get_or x k (pos 0)) eu ∙ get_or-set_same high k value (pos 0) (omega arith))) top };
          some = o;
          ahead = λ m p. subst (λ (xs : List Interval). Live s xs live) (sym (wide_at m)) (live-wide live v (m - 1) (let z = in-side in omega arith));
        }
      where
        at_value : sides_of n l u ≡ sides_of n (set low k value) (set high k (value +ℤ pos 0))
        at_value = let z : value ≡ value +ℤ pos 0 = lia-eq (value ∷ []) [] (search lin depth 30) (omega arith) in ap₂ (sides_of n) el (eu ∙ ap (set high k) z)

        top : (value +ℤ pos most) ≤ℤ pos 1048577
        top =
            let w = g.high_size.at k in let j : ℕ = most - 1 in let f = further j (omega arith) in let y : pos most ≡ pos j +ℤ pos 1 = ap pos (let x : most ≡ j + 1 = omega arith in x) in
            lia-le (value ∷ get_or high k (pos 0) ∷ pos j ∷ pos most ∷ []) (eq y ∷ le f ∷ abs w ∷ []) (search lin depth 30) (omega arith)

  -- ---- where no basic set can hold over the side of m values, each of them fails
  module _ (m : ℕ) (l u : List ℤ) (el : l ≡ set low k value) (eu : u ≡ set high k value) (f : (b : ℕ) → Fails s (wide_box k (take n l) (take n u)) m b) (j : ℕ) (o : j < m) where
    abbrev at_j : ℤ
    at_j = get_or low k (pos 0) +ℤ pos (i + j)

    inner : (x : ℕ) → j ≤ x → Parts (sides_of n (set low k at_j) (set high k at_j)) (sides_of n (set low k value) (set high k (value +ℤ pos x)))
    inner x p =
        let a = g.axes in let c = g.left in let d = g.lows in let e = g.highs in
        let z : pos j ≤ℤ pos x = record { le = le→leb j x p } in
        let lo : value ≤ℤ at_j = lia-le (get_or low k (pos 0) ∷ pos i ∷ pos j ∷ []) (le (pos-nonneg j) ∷ []) (search lin depth 30) (omega arith) in
        let hi : at_j ≤ℤ (value +ℤ pos x) = lia-le (get_or low k (pos 0) ∷ pos i ∷ pos j ∷ pos x ∷ []) (le z ∷ []) (search lin depth 30) (omega arith) in
        subst₂ Parts (ap₂ (λ (p q : List ℤ). take n (box_of p q)) (set-set low k value at_j) (set-set high k (value +ℤ pos x) at_j) ∙ box-take n (set low k at_j) (set high k at_j)) (box-take n (set low k value) (set high k (value +ℤ pos x)))
        (parts-take n (box_of (set (set low k value) k at_j) (set (set high k (value +ℤ pos x)) k at_j)) (box_of (set low k value) (set high k (value +ℤ pos x)))
        (parts-set k (set low k value) (set high k (value +ℤ pos x)) at_j at_j
        (subst (λ (w : ℤ). w ≤ℤ at_j) (sym (get_or-set_same low k value (pos 0) (omega arith))) lo)
        (subst (λ (w : ℤ). at_j ≤ℤ w) (sym (get_or-set_same high k (value +ℤ pos x) (pos 0) (omega arith))) hi)))

    each : (b : ℕ) → get_or (map (can_hold (sides_of n (set low k at_j) (set high k at_j))) (set_from s 0)) b false ≡ false
    each b =
        let q = f b in let y = q.enough in let ac = g.accepted in
        part-dead (sides_of n (set low k at_j) (set high k at_j)) (sides_of n (set low k value) (set high k (value +ℤ pos (q.reach - 1)))) (set_from s 0) (decode-formed ac.n s (set_from s 0) (decode_is ac.n s ac.accepted)) (inner (q.reach - 1) (omega arith)) b
        (ap (λ (xs : List Interval). get_or (map (can_hold xs) (set_from s 0)) b false) (sym (wide_at l u el eu q.reach)) ∙ q.is)

    pub value-fails : ok_at (set_from s 0) (take k low) (drop (suc k) (sides_of n low high)) at_j ≡ false
    value-fails = ok-is s n k low high g at_j ∙ any_none (can_hold (sides_of n (set low k at_j) (set high k at_j))) (set_from s 0) each

  -- ---- where a basic set can hold over the side from the last of m values down to the first, it holds at each of them
  module _ (m : ℕ) (l u : List ℤ) (el : l ≡ set low k value) (eu : u ≡ set high k value) (f : any (can_hold (box_of (widened k (m - 1) (take n l)) (take n u))) (set_from s 0) ≡ true) (j : ℕ) (o : j < m) where
    abbrev here : ℤ
    here = get_or low k (pos 0) +ℤ pos (i + j)

    abbrev last : ℤ
    last = value +ℤ pos (m - 1)

    down_is : box_of (widened k (m - 1) (take n l)) (take n u) ≡ take n (box_of (set low k last) (set high k value))
    down_is =
        let a = g.axes in let c = g.left in let d = g.lows in
        ap₂ (λ (x y : List ℤ). box_of x (take n y))
        (widened-take n k (m - 1) l c ∙ ap (take n) (ap (widened k (m - 1)) el ∙ set-set low k value _ ∙ ap (λ (z : ℤ). set low k (z +ℤ pos (m - 1))) (get_or-set_same low k value (pos 0) (omega arith)))) eu
        ∙ sym (box-take n (set low k last) (set high k value))

    around : Parts (box_of (widened k (m - 1) (take n l)) (take n u)) (sides_of n (set low k here) (set high k here))
    around =
        let a = g.axes in let c = g.left in let d = g.lows in let e = g.highs in
        let y : ℕ = m - 1 in let z : pos j ≤ℤ pos y = record { le = le→leb j y (omega arith) } in
        let lo : here ≤ℤ last = lia-le (get_or low k (pos 0) ∷ pos i ∷ pos j ∷ pos y ∷ []) (le z ∷ []) (search lin depth 30) (omega arith) in
        let hi : value ≤ℤ here = lia-le (get_or low k (pos 0) ∷ pos i ∷ pos j ∷ []) (le (pos-nonneg j) ∷ []) (search lin depth 30) (omega arith) in
        subst₂ Parts (ap₂ (λ (p q : List ℤ). take n (box_of p q)) (set-set low k here last) (set-set high k here value) ∙ sym down_is) (box-take n (set low k here) (set high k here))
        (parts-take n (box_of (set (set low k here) k last) (set (set high k here) k value)) (box_of (set low k here) (set high k here))
        (parts-set k (set low k here) (set high k here) last value
        (subst (λ (w : ℤ). w ≤ℤ last) (sym (get_or-set_same low k here (pos 0) (omega arith))) lo)
        (subst (λ (w : ℤ). value ≤ℤ w) (sym (get_or-set_same high k here (pos 0) (omega arith))) hi)))

    pub value_passes : ok_at (set_from s 0) (take k low) (drop (suc k) (sides_of n low high)) here ≡ true
    value_passes =
        let ac = g.accepted in
        ok-is s n k low high g here
        ∙ part-any (box_of (widened k (m - 1) (take n l)) (take n u)) (sides_of n (set low k here) (set high k here)) (set_from s 0) (decode-formed ac.n s (set_from s 0) (decode_is ac.n s ac.accepted)) around f

-- ---- the rows laid out
pub record Laying (s : List ℕ) (rows : List (List ℤ)) (at b : ℕ) : Type 0 where
  pub n : ℕ
  pub here : Boundary n s at
  pub places : length rows ≡ 32
  pub few : length (set_from s 0) ≤ 32
  pub inside : b ≤ length rows
  pub sets : map (row_basic s) (take b rows) ++ set_from s at ≡ set_from s 0
  pub right : (m : ℕ) → m ≤ 8 → (i : ℕ) → i < b → Row s m (get_or rows i [])

pub laying-start : (s : List ℕ) (rows : List (List ℤ)) → Bytes s → Accepted s → length rows ≡ 32 → Laying s rows 0 0
laying-start s rows p a e =
    record {
      n = a.n;
      here = boundary_start a.n s a.accepted;
      places = e;
      few = (decode-valid a.n s (set_from s 0) p (decode_is a.n s a.accepted)).1;
      inside = omega arith;
      sets = refl;
      right = λ m k i h. absurd (omega arith);
    }

map_snoc : (s : List ℕ) (l : List (List ℤ)) (r : List ℤ) → map (row_basic s) (l ++ r ∷ []) ≡ map (row_basic s) l ++ row_basic s r ∷ []
map_snoc s [] r = refl
map_snoc s (x ∷ l) r = ap (λ (m : Set). row_basic s x ∷ m) (map_snoc s l r)

module _ (s : List ℕ) (rows : List (List ℤ)) (at b : ℕ) (g : Laying s rows at b) where
  module _ (h : at < length s) where
    pub laying-opened : Opened s (at + 1)
    laying-opened = boundary-opened g.n s at g.here h

    next-set : set_from s at ≡ basic_at s (at + 1) ∷ set_from s (end_of s (at + 1))
    next-set = boundary-set g.n s at g.here h

    -- a row is free
    pub laying-free : b < 32
    laying-free =
        let f = g.few in let i = g.inside in let p = g.places in
        omega (arith, ap length (sym g.sets), lib.ListN.length-append (map (row_basic s) (take b rows)) (set_from s at), length-map (take b rows) (row_basic s), length-take b rows, ap length next-set)

    pub laying-next : (r : List ℤ) → start_of r ≡ at + 1 → ((m : ℕ) → m ≤ 8 → Row s m r) → (e : ℕ) → e ≡ end_of s (at + 1) → Laying s (set rows b r) e (b + 1)
    laying-next r q w e z =
        let f = laying-free in let p = g.places in let k : b < length rows = omega arith in
        record {
          n = g.n;
          here = subst (Boundary g.n s) (sym z) (boundary-next g.n s at g.here h);
          places = length-set rows b r ∙ p;
          few = g.few;
          inside = omega (arith, length-set rows b r);
          sets =
              ap₂ (λ (m j : ℕ). map (row_basic s) (take m (set rows b r)) ++ set_from s j) (add-one b) z
              ∙ ap (λ (l : List (List ℤ)). map (row_basic s) l ++ set_from s (end_of s (at + 1))) (take-suc-set rows b r k)
              ∙ ap (λ (l : Set). l ++ set_from s (end_of s (at + 1))) (map_snoc s (take b rows) r)
              ∙ append_assoc (map (row_basic s) (take b rows)) (row_basic s r ∷ []) (set_from s (end_of s (at + 1)))
              ∙ ap (λ (j : ℕ). map (row_basic s) (take b rows) ++ basic_at s j ∷ set_from s (end_of s (at + 1))) q
              ∙ ap (λ (l : Set). map (row_basic s) (take b rows) ++ l) (sym next-set) ∙ g.sets;
          right = λ m o i l. by (λ (x : Bool). Row s m (get_or (set rows b r) i [])) (ltb i b)
              (λ y. let a = ltb-true i b y in subst (Row s m) (sym (get_or-set_other rows b i r [] (λ c. omega arith))) (g.right m o i a))
              (λ y. let a = ltb-false i b y in let c : i ≡ b = omega arith in subst (λ (j : ℕ). Row s m (get_or (set rows b r) j [])) (sym c) (subst (Row s m) (sym (get_or-set_same rows b r [] k)) (w m o)));
        }

  pub laying-end : length s ≤ at → Laid s rows b
  laying-end h =
      let i = g.inside in let p = g.places in
      record {
        laid = λ m o. record {
          inside = i;
          used = record {
            few = omega (arith, length-take b rows);
            sets = sym (append-nil (map (row_basic s) (take b rows))) ∙ ap (λ (l : Set). map (row_basic s) (take b rows) ++ l) (sym (boundary_end s at h)) ∙ g.sets;
            at = λ j k. let z : j < b = omega (arith, length-take b rows) in subst (Row s m) (sym (get_or-take b rows j [] z)) (g.right m o j z);
          };
        };
      }
