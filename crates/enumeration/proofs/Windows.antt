-- The sides of a box by its lows and highs.
use mathlib.Core.Path.{◌≡◌, refl, sym, ap, ap₂}
use mathlib.Core.Bool.{Bool, true, ◌&&◌}
use mathlib.Core.List.{List, [], ◌∷◌}
use Prim.Native.Nat.{ℕ, zero, suc}
use lib.Dec.{T}
use lib.IntN.{ℤ, pos}
use lib.Signed.{le_z}
use lib.ListN.{take}
use Rattle.model.specs.Lists.{all}
use Rattle.model.specs.Sets.{is_zero, absent}
use Rattle.model.proofs.Count.{and_left, and_right, to-T}
use Rattle.model.proofs.Values.{is_zero→}
use Rattle.bounds.specs.Ends.{side}
use Rattle.query.specs.Member.{coordinate, point_fits}
use Rattle.enumeration.specs.Search.{Interval, box_of, upright, corners_fit}

pub box-take : (k : ℕ) (u v : List ℤ) → take k (box_of u v) ≡ box_of (take k u) (take k v)
box-take zero u v = refl
box-take (suc k) [] v = refl
box-take (suc k) (x ∷ u) [] = refl
box-take (suc k) (x ∷ u) (y ∷ v) = ap (λ (b : List Interval). side x y ∷ b) (box-take k u v)

-- sides of absent axes are 0 to 0: whether a box is shut is told by those that are there
upright-absent : (n : ℕ) (u v : List ℤ) → T (absent n u) → T (absent n v) → upright (take n (box_of u v)) ≡ upright (box_of u v)
upright-absent zero [] v p q = refl
upright-absent zero (x ∷ u) [] p q = refl
upright-absent zero (x ∷ u) (y ∷ v) p q =
    let f : le_z (pos 0) (pos 0) ≡ le_z x y = sym (ap₂ le_z (is_zero→ x (and_left (is_zero x) (all is_zero u) p)) (is_zero→ y (and_left (is_zero y) (all is_zero v) q))) in
    ap₂ ◌&&◌ f (upright-absent zero u v (and_right (is_zero x) (all is_zero u) p) (and_right (is_zero y) (all is_zero v) q))
upright-absent (suc n) [] v p q = refl
upright-absent (suc n) (x ∷ u) [] p q = refl
upright-absent (suc n) (x ∷ u) (y ∷ v) p q = ap (λ (b : Bool). le_z x y && b) (upright-absent n u v p q)

pub corners-upright : (n : ℕ) (low high : List ℤ) → corners_fit n low high ≡ true → upright (take n (box_of low high)) ≡ upright (box_of low high)
corners-upright n low high e =
    upright-absent n low high
    (and_right (all coordinate low) (absent n low) (and_left (point_fits n low) (point_fits n high) t))
    (and_right (all coordinate high) (absent n high) (and_right (point_fits n low) (point_fits n high) t))
  where
    t : T (corners_fit n low high)
    t = to-T (corners_fit n low high) e
