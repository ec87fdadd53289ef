-- The public search: its refusals, and the box of the walk.
use mathlib.Core.Path.{◌≡◌, refl, sym, ap, ap₂, ◌∙◌}
use mathlib.Core.Bool.{Bool, true, false, ◌&&◌, cond}
use mathlib.Core.List.{List, [], ◌∷◌}
use Prim.Native.Nat.{ℕ, zero, suc, ◌+◌, ◌-◌, ◌≤◌, ◌<◌}
use native.Mathlib.Numerals.{add-one}
use native.Mathlib.Omega.{arith}
use lib.Dec.{T, leb}
use lib.IntN.{ℤ, pos}
use lib.Signed.{le_z, ◌≤ℤ◌, ◌<ℤ◌, clash_ℤ}
use lib.ListN.{length, take, drop, get_or, replicate, length-drop, drop_of_length-le}
use lib.Seq.{drop-cons}
use Rattle.model.specs.Lists.{all}
use Rattle.model.specs.Sets.{Set, is_zero, absent}
use Rattle.model.proofs.Count.{and_left, and_right, from-T, to-T}
use Rattle.model.proofs.Values.{is_zero→}
use Rattle.codec.specs.Bytes.{Answer, refused, gives, decode, number}
use Rattle.codec.specs.Places.{set_from}
use Rattle.codec.proofs.Boundaries.{decode_is}
use Rattle.query.specs.Member.{coordinate, point_fits}
use Rattle.enumeration.specs.Search.{Interval, walk, Walk, spent, Tallied, found_of, first_point, box_of, upright, shut, search_box, corners_fit, box_fits, limit_fits, search_bytes}
use Rattle.search.specs.Sides.{limited, sides_of, Standing, Boxed, answer_of}
use Rattle.search.specs.Levels.{Begun}
use Rattle.search.specs.declared.levels.Prefix.{Prefix}
use Rattle.enumeration.proofs.Windows.{corners-upright}
use Rattle.query.proofs.Points.{point-within}
use Rattle.query.proofs.Answers.{axes-some, axes-most}

-- ---- the loop over the sides
module _ (low high : List ℤ) (i : ℕ) (g : upright (box_of (drop i low) (drop i high)) ≡ upright (box_of low high)) where
  head-is : i < length low → i < length high → upright (box_of (drop i low) (drop i high)) ≡ (le_z (get_or low i (pos 0)) (get_or high i (pos 0)) && upright (box_of (drop (i + 1) low) (drop (i + 1) high)))
  head-is h k =
      ap₂ (λ (u v : List ℤ). upright (box_of u v)) (drop-cons low i (pos 0) h) (drop-cons high i (pos 0) k)
      ∙ ap (λ (j : ℕ). le_z (get_or low i (pos 0)) (get_or high i (pos 0)) && upright (box_of (drop j low) (drop j high))) (sym (add-one i))

  pub sides-next : i < length low → i < length high → le_z (get_or low i (pos 0)) (get_or high i (pos 0)) ≡ true → upright (box_of (drop (i + 1) low) (drop (i + 1) high)) ≡ upright (box_of low high)
  sides-next h k e = ap (λ (b : Bool). b && upright (box_of (drop (i + 1) low) (drop (i + 1) high))) (sym e) ∙ sym (head-is h k) ∙ g

  pub sides-stop : i < length low → i < length high → le_z (get_or low i (pos 0)) (get_or high i (pos 0)) ≡ false → false ≡ upright (box_of low high)
  sides-stop h k e = ap (λ (b : Bool). b && upright (box_of (drop (i + 1) low) (drop (i + 1) high))) (sym e) ∙ sym (head-is h k) ∙ g

  pub sides-end : length low ≤ i → true ≡ upright (box_of low high)
  sides-end h = ap (λ (u : List ℤ). upright (box_of u (drop i high))) (sym (drop_of_length-le low h)) ∙ g

-- ---- a box that fits
module _ (n : ℕ) (low high : List ℤ) (e : box_fits n low high ≡ true) where
  corners : T (corners_fit n low high)
  corners = and_left (corners_fit n low high) (upright (box_of low high)) (to-T (box_fits n low high) e)

  pub low_fits : point_fits n low ≡ true
  low_fits = from-T (point_fits n low) (and_left (point_fits n low) (point_fits n high) corners)

  pub high_fits : point_fits n high ≡ true
  high_fits = from-T (point_fits n high) (and_right (point_fits n low) (point_fits n high) corners)

  pub sides-fit : T (upright (box_of low high))
  sides-fit = and_right (corners_fit n low high) (upright (box_of low high)) (to-T (box_fits n low high) e)

pub sides-at : (u v : List ℤ) → length u ≡ length v → T (upright (box_of u v)) → (i : ℕ) → get_or u i (pos 0) ≤ℤ get_or v i (pos 0)
sides-at [] [] l t zero = lib.Signed.≤ℤ_refl (pos 0)
sides-at [] [] l t (suc i) = lib.Signed.≤ℤ_refl (pos 0)
sides-at [] (y ∷ v) l t i = absurd (omega arith)
sides-at (x ∷ u) [] l t i = absurd (omega arith)
sides-at (x ∷ u) (y ∷ v) l t zero = record { le = and_left (le_z x y) (upright (box_of u v)) t }
sides-at (x ∷ u) (y ∷ v) l t (suc i) = sides-at u v (omega arith) (and_right (le_z x y) (upright (box_of u v)) t) i

zeros_of : (l : List ℤ) → T (all is_zero l) → l ≡ replicate (length l) (pos 0)
zeros_of [] t = refl
zeros_of (z ∷ l) t =
    ap₂ ◌∷◌ (is_zero→ z (and_left (is_zero z) (all is_zero l) t)) (zeros_of l (and_right (is_zero z) (all is_zero l) t))

pub standing-first : (n : ℕ) (s : List ℕ) (low high : List ℤ) → Boxed n s low high → length low ≡ 8 → length high ≡ 8 → Standing s n 0 low high
standing-first n s low high b l h =
    let p = low_fits n low high b.box in let q = high_fits n low high b.box in
    let z : 8 - n ≡ length (drop n low) = omega (arith, length-drop n low) in
    record {
      accepted = record { n = n; accepted = b.accepted };
      axes = axes-most n s b.accepted;
      left = axes-some n s b.accepted;
      lows = l;
      highs = h;
      low_size = point-within n low p;
      high_size = point-within n high q;
      ordered = sides-at low high (l ∙ sym h) (sides-fit n low high b.box);
      fixed = refl;
      absent = zeros_of (drop n low) (and_right (all coordinate low) (absent n low) (to-T (point_fits n low) p)) ∙ ap (λ (m : ℕ). replicate m (pos 0)) (sym z);
    }

-- where a walk begins no number is fixed, and all sides are open
pub begun-is : {A : Type 0} {s : List ℕ} {n : ℕ} {low high : List ℤ} {limit : ℕ} {rows : List (List ℤ)} {p : Prefix} → Begun s n low high limit rows p → (f : List ℤ → List Interval → A)
    → f (take p.k p.low) (drop p.k (sides_of p.n p.low p.high)) ≡ f [] (take n (box_of low high))
begun-is {p = p} b f = ap (λ (k : ℕ). f (take k p.low) (drop k (sides_of p.n p.low p.high))) b.whole ∙ ap (f []) b.sides

-- ---- the answers
first-limited : (s : Set) (box : List Interval) (limit : ℕ) → first_point s box limit ≡ limited limit 0 (walk s [] box)
unfolding first_point
first-limited s box limit =
    let w : Walk = walk s [] box in
    let e : w.tested ≡ 0 + w.tested = omega arith in
    ap (λ (m : ℕ). cond (leb m limit) (record { found = found_of w.found; tested = m }) (record { found = spent; tested = limit })) e

module _ (n : ℕ) (s : List ℕ) (low high : List ℤ) (limit : ℕ) where
  pub search-refused : (m : ℕ) → decode n s ≡ refused m → answer_of (refused m) ≡ answer_of (search_bytes n s low high limit)
  unfolding search_bytes
  search-refused m e = rw (e, search_bytes)

  -- once the set is accepted: whether the corners fit, whether the limit does
  abbrev asked : Bool → Bool → Answer Tallied
  asked b c = cond b (cond c (gives (search_box (set_from s 0) (take n (box_of low high)) limit)) (refused 13)) (refused 12)

  module _ (z : number (decode n s) ≡ 0) where
    search_is : search_bytes n s low high limit ≡ asked (corners_fit n low high) (limit_fits limit)
    unfolding search_bytes
    search_is = rw (decode_is n s z, search_bytes) refl

    pub search-corners : corners_fit n low high ≡ false → answer_of (refused 12) ≡ answer_of (search_bytes n s low high limit)
    search-corners p = ap answer_of (sym (search_is ∙ ap (λ (b : Bool). asked b (limit_fits limit)) p))

    module _ (p : corners_fit n low high ≡ true) where
      pub search-limit : limit_fits limit ≡ false → answer_of (refused 13) ≡ answer_of (search_bytes n s low high limit)
      search-limit q = ap answer_of (sym (search_is ∙ ap₂ asked p q))

      -- the window looked at, all eight sides of it
      module _ (q : limit_fits limit ≡ true) where
        searched-as : (b : Bool) → upright (box_of low high) ≡ b → search_bytes n s low high limit ≡ gives (cond b (first_point (set_from s 0) (take n (box_of low high)) limit) shut)
        unfolding search_box
        searched-as b u =
            search_is ∙ ap₂ asked p q
            ∙ ap (λ (c : Bool). gives (cond c (first_point (set_from s 0) (take n (box_of low high)) limit) shut)) (corners-upright n low high p ∙ u)

        pub search-gives : upright (box_of low high) ≡ true → answer_of (gives (limited limit 0 (walk (set_from s 0) [] (take n (box_of low high))))) ≡ answer_of (search_bytes n s low high limit)
        search-gives u = ap (λ (t : Tallied). answer_of (gives t)) (sym (first-limited (set_from s 0) (take n (box_of low high)) limit)) ∙ ap answer_of (sym (searched-as true u))

        pub search-shut : upright (box_of low high) ≡ false → search_bytes n s low high limit ≡ gives shut
        search-shut u = searched-as false u

        -- request 7: a low over its high, on whichever axis
        pub low-over-high : length low ≡ length high → (i : ℕ) → get_or high i (pos 0) <ℤ get_or low i (pos 0) → search_bytes n s low high limit ≡ gives shut
        low-over-high l i o = search-shut (by (upright (box_of low high)) refl)
          where
            by : (b : Bool) → upright (box_of low high) ≡ b → upright (box_of low high) ≡ false
            by true e = clash_ℤ o (sides-at low high l (to-T (upright (box_of low high)) e) i)
            by false e = e
