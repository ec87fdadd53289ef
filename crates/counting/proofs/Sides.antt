-- The side of the chosen axis, as the code reads it: how many values it has, and whether the axis fits.
use mathlib.Core.Path.{◌≡◌, refl, sym, ap, ◌∙◌, subst}
use mathlib.Core.Bool.{Bool, true, false, cond}
use mathlib.Core.List.{List, [], ◌∷◌}
use Prim.Native.Nat.{ℕ, zero, suc, ◌+◌, ◌<◌}
use native.Mathlib.Nat.{not-suc-le-zero, le_of_suc-le-suc}
use native.Mathlib.Numerals.{add-one}
use native.Mathlib.Omega.{arith}
use lib.IntN.{ℤ, pos, nat_abs, ◌-ℤ◌}
use lib.Signed.{le_z, ◌≤ℤ◌, ◌<ℤ◌}
use lib.ListN.{length, take, get_or}
use lib.Seq.{get_or-take}
use mir.Syntax.{w32, w64}
use mir.Val.{SFits, to_z, of_z}
use Rattle.integers.specs.Mach.{Bits, to_z_of_z}
use Rattle.bounds.specs.Ends.{side}
use Rattle.query.proofs.Points.{le_yes, le-no}
use Rattle.enumeration.specs.Search.{Interval, only, box_of, width}
use Rattle.enumeration.specs.Counting.{side_at}

-- ---- an element of 32 bits, read as one of 64
pub long : {z : ℤ} → SFits w32 z → SFits w64 (to_z w32 (of_z w32 z))
long {z} f = let h = f.sfits in subst (SFits w64) (sym (to_z_of_z f)) (record { sfits = omega arith })

pub reads : {z : ℤ} → SFits w32 z → Bits w64 (of_z w64 (to_z w32 (of_z w32 z))) z
reads f = record { is = to_z_of_z (long f) ∙ to_z_of_z f }

-- ---- the side of an axis
box-at : (u v : List ℤ) (i : ℕ) → i < length u → i < length v → side_at i (box_of u v) ≡ side (get_or u i (pos 0)) (get_or v i (pos 0))
box-at [] v i h k = absurd (not-suc-le-zero h)
box-at (x ∷ u) [] i h k = absurd (not-suc-le-zero k)
box-at (x ∷ u) (y ∷ v) zero h k = refl
box-at (x ∷ u) (y ∷ v) (suc i) h k = box-at u v i (le_of_suc-le-suc h) (le_of_suc-le-suc k)

module _ (low high : List ℤ) (i : ℕ) (h : i < length low) (k : i < length high) where
  width-at : (b : Bool) → le_z (get_or low i (pos 0)) (get_or high i (pos 0)) ≡ b → width (side_at i (box_of low high)) ≡ cond b (suc (nat_abs (get_or high i (pos 0) -ℤ get_or low i (pos 0)))) 0
  width-at b e = ap width (box-at low high i h k) ∙ ap (λ (c : Bool). cond c (suc (nat_abs (get_or high i (pos 0) -ℤ get_or low i (pos 0)))) 0) e

  pub width-shut : get_or high i (pos 0) <ℤ get_or low i (pos 0) → 0 ≡ width (side_at i (box_of low high))
  width-shut l = sym (width-at false (le-no (get_or low i (pos 0)) (get_or high i (pos 0)) l))

  pub width-open : get_or low i (pos 0) ≤ℤ get_or high i (pos 0) → nat_abs (get_or high i (pos 0) -ℤ get_or low i (pos 0)) + 1 ≡ width (side_at i (box_of low high))
  width-open l = add-one (nat_abs (get_or high i (pos 0) -ℤ get_or low i (pos 0))) ∙ sym (width-at true (le_yes (get_or low i (pos 0)) (get_or high i (pos 0)) l))

  -- of the n sides of a box
  pub low-at : (n : ℕ) → i < n → get_or low i (pos 0) ≡ (side_at i (take n (box_of low high))).low
  low-at n l = ap (λ (b : Interval). b.low) (sym (get_or-take n (box_of low high) i (only (pos 0)) l ∙ box-at low high i h k))

pub width-take : (n i : ℕ) (low high : List ℤ) → i < n → width (side_at i (box_of low high)) ≡ width (side_at i (take n (box_of low high)))
width-take n i low high l = ap width (sym (get_or-take n (box_of low high) i (only (pos 0)) l))
