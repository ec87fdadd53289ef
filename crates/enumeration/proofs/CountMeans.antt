-- What the counts are, with FPL's meaning of the set (model, specs/Existential), from bytes: the number of points of the box for which there
-- are whole numbers for the divisions of some basic set with which its constraints hold; and of those that have a value on the axis.
use mathlib.Core.Path.{◌≡◌, refl, sym, ap, ◌∙◌, subst}
use mathlib.Core.Bool.{Bool, true, false, ◌&&◌}
use mathlib.Core.List.Memᴰ
use mathlib.Core.List.{List, [], ◌∷◌, Memᴰ}
use mathlib.Core.Logic.{◌↔◌, ◌⊎◌, inl, inr}
use mathlib.Core.Option.{Option, some}
use Prim.Native.Nat.{ℕ, ◌-◌, ◌<◌}
use lib.Dec.{T}
use lib.IntN.{ℤ, pos, ◌-ℤ◌}
use lib.ListN.{length, take, get_or}
use Rattle.model.specs.Lists.{cons_if, filter, All}
use Rattle.model.specs.Sets.{is_zero, in_set}
use Rattle.model.specs.Existential.{ExistsIn}
use Rattle.model.proofs.Count.{and_left, and_right, and-make, to-T}
use Rattle.query.proofs.Means.{decoded-means}
use Rattle.enumeration.specs.Search.{Interval, box_of}
use Rattle.enumeration.proofs.Walks.{In, up}
use Rattle.enumeration.specs.Counting.{side_at, counted, Tally}
use Rattle.enumeration.specs.Points.{points_in}
use Rattle.enumeration.proofs.Points.{points-in, in-points, points-sorted, sorted_filter, sorted-once}
use Rattle.enumeration.proofs.Separate.{same-value, value_same}
use Rattle.enumeration.proofs.CountAnswers.{Asked}
use Rattle.enumeration.proofs.Counted.{whole_is, separate-is}

-- w points have P: a list of w has them, each at one place, and nothing else
pub record Number (P : List ℤ → Type 0) (w : ℕ) : Type 0 where
  pub points : List (List ℤ)
  pub many : w ≡ length points
  pub once : (i j : ℕ) → i < length points → j < length points → get_or points i [] ≡ get_or points j [] → i ≡ j
  pub are : (x : List ℤ) → Memᴰ x points ↔ P x

-- ---- elements of a list under a test
module _ {A : Type 0} where
  all_in : (P : A → Type 0) (l : List A) → All P l → (a : A) → Memᴰ a l → P a
  all_in P [] h a m = absurd (Memᴰ.not-nil m)
  all_in P (b ∷ l) h a m = by (Memᴰ.cases_cons m) (all_in P l h.1 a)
    where
      by : (a ≡ b) ⊎ Memᴰ a l → (Memᴰ a l → P a) → P a
      by (inl e) ih = subst P (sym e) h.0
      by (inr k) ih = ih k

  kept_in : (f : A → Bool) (l : List A) (a : A) → Memᴰ a (filter f l) → Memᴰ a l × T (f a)
  kept_in f [] a m = absurd (Memᴰ.not-nil m)
  kept_in f (b ∷ l) a m = by (f b) refl m (kept_in f l a)
    where
      by : (c : Bool) → f b ≡ c → Memᴰ a (cons_if c b (filter f l)) → (Memᴰ a (filter f l) → Memᴰ a l × T (f a)) → Memᴰ a (b ∷ l) × T (f a)
      by false e m ih = let r = ih m in (Memᴰ.tail r.0, r.1)
      by true e m ih = here (Memᴰ.cases_cons m)
        where
          here : (a ≡ b) ⊎ Memᴰ a (filter f l) → Memᴰ a (b ∷ l) × T (f a)
          here (inl q) = (Memᴰ.head q, to-T (f a) (ap f q ∙ e))
          here (inr k) = let r = ih k in (Memᴰ.tail r.0, r.1)

  in_kept : (f : A → Bool) (l : List A) (a : A) → Memᴰ a l → T (f a) → Memᴰ a (filter f l)
  in_kept f [] a m t = absurd (Memᴰ.not-nil m)
  in_kept f (b ∷ l) a m t = by (f b) refl (Memᴰ.cases_cons m) (in_kept f l a)
    where
      by : (c : Bool) → f b ≡ c → (a ≡ b) ⊎ Memᴰ a l → (Memᴰ a l → T (f a) → Memᴰ a (filter f l)) → Memᴰ a (cons_if c b (filter f l))
      by true e (inl q) ih = Memᴰ.head q
      by true e (inr k) ih = Memᴰ.tail (ih k t)
      by false e (inl q) ih = absurd (subst T (ap f q ∙ e) t)
      by false e (inr k) ih = ih k t

-- as many points of the box have Q as are listed under a test that says so
number_of : (box : List Interval) (f : List ℤ → Bool) (Q : List ℤ → Type 0) → ((x : List ℤ) → T (f x) ↔ Q x) → (w : ℕ) → w ≡ length (filter f (points_in box)) → Number (λ (x : List ℤ). In x box × Q x) w
number_of box f Q says w e =
    record {
      points = filter f (points_in box);
      many = e;
      once = sorted-once (filter f (points_in box)) (sorted_filter f (points_in box) (points-sorted box));
      are = λ x. (to x, λ p. in_kept f (points_in box) x (in-points box x p.0) ((says x).1 p.1));
    }
  where
    to : (x : List ℤ) → Memᴰ x (filter f (points_in box)) → In x box × Q x
    to x m = let k = kept_in f (points_in box) x m in (all_in (λ (z : List ℤ). In z box) (points_in box) (points-in box) x k.0, (says x).0 k.1)

module _ {n : ℕ} {a : List ℕ} {ls hs : List ℤ} {axis : Option ℕ} {limit : ℕ} {t : Tally} (r : Asked n a ls hs axis limit t) (l : length ls ≡ 8) (h : length hs ≡ 8)
    (w : ℕ) (cs : List ℕ) (e : t.count ≡ counted w cs) where
  -- "the number of allowed points in a box"
  pub whole-means : Number (λ (x : List ℤ). In x (take n (box_of ls hs)) × ExistsIn x r.s) w
  whole-means =
      number_of (take n (box_of ls hs)) (λ (x : List ℤ). in_set x r.s) (λ (x : List ℤ). ExistsIn x r.s) (decoded-means n a r.s r.decoded) w (whole_is r l h w cs e)

module _ {n : ℕ} {a : List ℕ} {ls hs : List ℤ} {axis limit : ℕ} {t : Tally} (r : Asked n a ls hs (some axis) limit t) (l : length ls ≡ 8) (h : length hs ≡ 8)
    (w : ℕ) (cs : List ℕ) (e : t.count ≡ counted w cs) where
  abbrev first : ℤ
  first = (side_at (axis - 1) (take n (box_of ls hs))).low

  -- "and the number for each value of one chosen axis"
  pub each-means : (j : ℕ) → j < length cs
      → Number (λ (x : List ℤ). In x (take n (box_of ls hs)) × (ExistsIn x r.s × (get_or x (axis - 1) (pos 0) ≡ up first j))) (get_or cs j 0)
  each-means j k =
      number_of (take n (box_of ls hs)) (λ (x : List ℤ). in_set x r.s && is_zero (get_or x (axis - 1) (pos 0) -ℤ up first j))
      (λ (x : List ℤ). ExistsIn x r.s × (get_or x (axis - 1) (pos 0) ≡ up first j)) says (get_or cs j 0) ((separate-is r l h w cs e).at j k)
    where
      says : (x : List ℤ) → T (in_set x r.s && is_zero (get_or x (axis - 1) (pos 0) -ℤ up first j)) ↔ (ExistsIn x r.s × (get_or x (axis - 1) (pos 0) ≡ up first j))
      says x = let f = in_set x r.s in let z = get_or x (axis - 1) (pos 0) in let g = is_zero (z -ℤ up first j) in let m = decoded-means n a r.s r.decoded x in (
        λ t. (m.0 (and_left f g t), value_same z (up first j) (and_right f g t)),
        λ p. and-make f g (m.1 p.0) (to-T g (same-value z (up first j) p.1)),
      )
