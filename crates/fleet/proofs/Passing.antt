-- The loops over the points and over the basic sets.
use mathlib.Core.Path.{◌≡◌, refl, sym, ap, ap₂, ◌∙◌}
use mathlib.Core.Bool.{Bool, false, ◌&&◌, ◌||◌, and-true, or-false, or_assoc}
use mathlib.Core.List.{List, [], ◌∷◌, map}
use Prim.Native.Nat.{ℕ, zero, suc, ◌+◌, ◌*◌, ◌≤◌, ◌<◌}
use native.Mathlib.Nat.{mul-le-mul, mul-suc, add_comm, le_refl}
use native.Mathlib.Omega.{arith}
use lib.IntN.{ℤ}
use lib.ListN.{length, take, drop, get_or, replicate, length-map, length-replicate, get_or-replicate}
use lib.Seq.{drop-drop, ext_get_or, get_or-take, length-take-le}
use Rattle.model.specs.Lists.{all}
use Rattle.model.specs.Sets.{Set, in_basic, in_set}
use Rattle.model.proofs.Lists.{map_get}
use Rattle.codec.specs.Places.{Accepted, Boundary, basic_at, set_from, end_of}
use Rattle.codec.proofs.Boundaries.{boundary_start, boundary-next, boundary-set, boundary_end}
use Rattle.query.specs.Member.{coordinate}
use Rattle.std.specs.List.{list_all}
use Rattle.query.specs.Holding.{coordinate_fits}
use Rattle.fleet.specs.Fleet.{mask_of, points_of, holding}
use Rattle.fleet.specs.Looking.{Points, point_at, Marked, Walked, itself}
use Rattle.fleet.proofs.Masks.{mask-map}

-- ---- the points of a list
pub points-length : (n k : ℕ) (xs : List ℤ) → length (points_of n k xs) ≡ k
points-length n zero xs = refl
points-length n (suc k) xs = ap suc (points-length n k (drop n xs))

pub point_at_lem : (n k : ℕ) (xs : List ℤ) (j : ℕ) → j < k → get_or (points_of n k xs) j [] ≡ point_at n xs j
point_at_lem n zero xs j h = absurd (omega arith)
point_at_lem n (suc k) xs zero h = let z : n * 0 ≡ 0 = omega arith in ap (λ (i : ℕ). take n (drop i xs)) (sym z)
point_at_lem n (suc k) xs (suc j) h =
    point_at_lem n k (drop n xs) j (omega arith) ∙ ap (take n) (drop-drop (n * j) n xs ∙ ap (λ (i : ℕ). drop i xs) (add_comm n (n * j) ∙ sym (mul-suc n j)))

module _ {n k : ℕ} {xs : List ℤ} (g : Points n k xs) where
  pub points-inside : (i p : ℕ) → p ≡ n * i → i < k → p + n ≤ length xs
  points-inside i p e h =
      let l : suc i ≤ k = omega arith in
      let a = mul-le-mul (le_refl n) l in let b = mul-suc n i in let s = g.size in omega arith

-- ---- one basic set
pub record Marking (s : List ℕ) (start n : ℕ) (xs : List ℤ) (k : ℕ) (before flags : List Bool) (i : ℕ) : Type 0 where
  pub size : length flags ≡ 64
  pub done : (j : ℕ) → j < i → get_or flags j false ≡ (get_or before j false || in_basic (point_at n xs j) (basic_at s start))
  pub left : (j : ℕ) → i ≤ j → get_or flags j false ≡ get_or before j false

-- ---- the basic sets
pub record Walking (s : List ℕ) (n : ℕ) (xs : List ℤ) (k : ℕ) (flags : List Bool) (at : ℕ) : Type 0 where
  pub axes : ℕ
  pub here : Boundary axes s at
  pub size : length flags ≡ 64
  pub is : (j : ℕ) → j < k → (get_or flags j false || in_set (point_at n xs j) (set_from s at)) ≡ in_set (point_at n xs j) (set_from s 0)

module _ (s : List ℕ) (n : ℕ) (xs : List ℤ) (k : ℕ) where
  pub walking_start : Accepted s → k ≤ 64 → Walking s n xs k (replicate 64 false) 0
  walking_start a l = record {
    axes = a.n;
    here = boundary_start a.n s a.accepted;
    size = length-replicate 64 false;
    is = λ j h. ap (λ (b : Bool). b || in_set (point_at n xs j) (set_from s 0)) (get_or-replicate 64 j false false (omega arith));
  }

  module _ (flags : List Bool) (at : ℕ) (g : Walking s n xs k flags at) (l : at < length s) where
    pub walking-inside : end_of s (at + 1) ≤ length s
    walking-inside = (boundary-next g.axes s at g.here l).here.inside

    pub walking-next : (r : List Bool) → Marked s (at + 1) n xs k flags r → Walking s n xs k r (end_of s (at + 1))
    walking-next r m = record {
      axes = g.axes;
      here = boundary-next g.axes s at g.here l;
      size = m.size;
      is = λ j h.
          ap (λ (b : Bool). b || in_set (point_at n xs j) (set_from s (end_of s (at + 1)))) (m.is j h)
          ∙ or_assoc (get_or flags j false) (in_basic (point_at n xs j) (basic_at s (at + 1))) (in_set (point_at n xs j) (set_from s (end_of s (at + 1))))
          ∙ ap (λ (t : Set). get_or flags j false || in_set (point_at n xs j) t) (sym (boundary-set g.axes s at g.here l)) ∙ g.is j h;
    }

  pub walking-end : (flags : List Bool) (at : ℕ) → Walking s n xs k flags at → length s ≤ at → Walked s n xs k flags
  walking-end flags at g h = record {
    size = g.size;
    is = λ j q. sym (or-false (get_or flags j false)) ∙ ap (λ (t : Set). get_or flags j false || in_set (point_at n xs j) t) (sym (boundary_end s at h)) ∙ g.is j q;
  }

-- ---- the mask of the flags
pub walked-mask : (s : List ℕ) (n : ℕ) (xs : List ℤ) (k : ℕ) (r : List Bool) → k ≤ 64 → Walked s n xs k r
    → mask_of itself (take k r) ≡ mask_of (holding (set_from s 0)) (points_of n k xs)
walked-mask s n xs k r l w = ap (mask_of itself) same ∙ mask-map f (points_of n k xs)
  where
    f : List ℤ → Bool
    f = holding (set_from s 0)

    taken : length (take k r) ≡ k
    taken = let z = w.size in length-take-le k r (omega arith)

    same : take k r ≡ map f (points_of n k xs)
    same = ext_get_or false (take k r) (map f (points_of n k xs)) (taken ∙ sym (length-map (points_of n k xs) f ∙ points-length n k xs))
        (λ j h. let q : j < k = omega (arith, taken) in let o = points-length n k xs in
        get_or-take k r j false q ∙ w.is j q ∙ ap f (sym (point_at_lem n k xs j q)) ∙ sym (map_get f (points_of n k xs) j [] false (omega arith)))

-- ---- the coordinates
pub all-fit : (xs : List ℤ) → list_all (coordinate_fits 1 0) xs ≡ all coordinate xs
all-fit [] = refl
all-fit (z ∷ xs) = ap₂ ◌&&◌ (and-true (coordinate z)) (all-fit xs)
