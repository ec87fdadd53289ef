-- Values of one axis further up: the side that they make, and what a constraint says there.
use mathlib.Core.Path.{◌≡◌, refl, sym, ap, ap₂, ◌∙◌, subst}
use mathlib.Core.Bool.{false}
use mathlib.Core.List.{List, [], ◌∷◌, ◌++◌, map}
use Prim.Native.Nat.{ℕ, ◌+◌, ◌≤◌, ◌<◌}
use native.Mathlib.Omega.{arith}
use lib.Dec.{eqb, le→leb}
use lib.IntN.{ℤ, pos, ◌+ℤ◌}
use lib.Signed.{◌≤ℤ◌}
use lib.ListN.{length, take, get_or, set, length-set}
use mir.Syntax.{w64}
use mir.Val.{SFits, to_z, of_z}
use Rattle.integers.specs.Mach.{to_z_of_z, to_z-nat}
use Rattle.integers.specs.Size.{within-add, within-fits}
use lib.Seq.{take_at, get_or-set_other, get_or-take, take-set-lt, set-get_or}
use borrow.Author.Tests.{ne_eqb}
use Rattle.integers.specs.Z.{Within}
use Rattle.integers.specs.Lin.{le, abs, lin, lia-le, lia-eq, lia-nat, lia-abs}
use Rattle.integers.specs.Order.{pos-nonneg}
use Rattle.model.specs.Sets.{Constraint}
use Rattle.codec.specs.Places.{basic_at}
use Rattle.bounds.specs.Intervals.{Interval, quotient_side, box_of}
use Rattle.bounds.specs.Ends.{AllWithin, Ends, can_stand}
use Rattle.bounds.specs.Rows.{Row, Settled}
use Rattle.runs.specs.Upward.{widened, Reach, Lasts}
use Rattle.bounds.proofs.Reading.{set-within}

-- ---- a copy of the highs
-- the highs in front of others, with that of axis k up
pub raised-is : (high rest w : List ℤ) (k up : ℕ) (v : ℤ) → k < length high → w ≡ high → v ≡ get_or high k (pos 0) +ℤ pos up → take (length high) (set (w ++ rest) k v) ≡ widened k up high
raised-is high rest w k up v h e q =
    ap (λ (l : List ℤ). take (length high) (set (l ++ rest) k v)) e ∙ take-set-lt (length high) (high ++ rest) k v h
    ∙ ap (λ (l : List ℤ). set l k v) (take_at high rest (length high) refl) ∙ ap (set high k) q

pub up-fits : (z : ℤ) (up : ℕ) → Within 1048576 z → up ≤ 2097152 → SFits w64 (to_z w64 (of_z w64 z) +ℤ to_z w64 up)
up-fits z up h l =
    let i : Within 2097152 (pos up) = record { size = l } in
    rw (to_z_of_z {w = w64} {z = z} (within-fits (omega arith) h), to_z-nat w64 up 2097153 (omega arith) tt) (within-fits (omega arith) (within-add h i))

pub up_is : (z : ℤ) (up : ℕ) → Within 1048576 z → up ≤ 2097152 → to_z w64 (of_z w64 (to_z w64 (of_z w64 z) +ℤ to_z w64 up)) ≡ z +ℤ pos up
up_is z up h l =
    to_z_of_z (up-fits z up h l) ∙ ap₂ ◌+ℤ◌ (to_z_of_z {w = w64} {z = z} (within-fits (omega arith) h)) (to_z-nat w64 up 2097153 (omega arith) tt)

-- ---- the side of m values
pub widened_none : (k : ℕ) (high : List ℤ) → widened k 0 high ≡ high
widened_none k high = let z : get_or high k (pos 0) +ℤ pos 0 ≡ get_or high k (pos 0) = lia-eq (get_or high k (pos 0) ∷ []) [] (search lin depth 30) (omega arith) in ap (set high k) z ∙ set-get_or high k (pos 0)

pub reach-most : (k : ℕ) (high : List ℤ) (m : ℕ) → AllWithin 1048576 high → Reach k high m → m ≤ 2097153
reach-most k high m h r = let w = h.at k in lia-nat (pos m ∷ get_or high k (pos 0) ∷ []) (abs w ∷ le r.far ∷ []) (search lin depth 30) (omega arith)

pub reach-less : (k : ℕ) (high : List ℤ) (m n : ℕ) → m ≤ n → Reach k high n → Reach k high m
reach-less k high m n h r = let d : pos m ≤ℤ pos n = record { le = le→leb m n h } in record { far = lia-le (pos m ∷ pos n ∷ get_or high k (pos 0) ∷ []) (le d ∷ le r.far ∷ []) (search lin depth 30) (omega arith) }

reach-within : (k : ℕ) (high : List ℤ) (j : ℕ) → AllWithin 1048576 high → Reach k high (j + 1) → Within 1048576 (get_or high k (pos 0) +ℤ pos j)
reach-within k high j h r = let w = h.at k in lia-abs (pos j ∷ get_or high k (pos 0) ∷ []) (abs w ∷ le r.far ∷ le (pos-nonneg j) ∷ []) (search lin depth 30) (omega arith)

-- with the lows of axis k further up
pub ends-up : (k : ℕ) (low high : List ℤ) (j : ℕ) → Ends low high 1048576 → k < length low → Reach k low (j + 1) → Ends (widened k j low) high 1048576
ends-up k low high j e a h =
    let f = e.few in let b = e.same in let x = get_or low k (pos 0) +ℤ pos j in
    record {
      few = omega (arith, length-set low k x);
      same = omega (arith, length-set low k x);
      lows = set-within 1048576 low k x e.lows (reach-within k low j e.lows h) a;
      highs = e.highs;
    }

pub settled_up : (s : List ℕ) (k : ℕ) (low high r : List ℤ) (j : ℕ) → Settled s k low high r → Settled s k (widened k j low) high r
settled_up s k low high r j g =
    let x = get_or low k (pos 0) +ℤ pos j in let e : length low ≡ length (set low k x) = sym (length-set low k x) in let a = g.axis in
    record {
      row = subst (λ (n : ℕ). Row s n r) e g.row;
      axis = omega arith;
      lows = λ i l o. g.lows i (omega arith) o ∙ sym (get_or-set_other low k i x (pos 0) o);
      highs = λ i l o. g.highs i (omega arith) o;
    }

module _ (s : List ℕ) (k : ℕ) (low high r : List ℤ) (g : Settled s k low high r) (e : Ends low high 1048576) (j : ℕ) (h : Reach k high (j + 1)) where
  pub settled-wide : Settled s k low (widened k j high) r
  settled-wide = record { row = g.row; axis = g.axis; lows = g.lows; highs = λ i l o. g.highs i l o ∙ sym (get_or-set_other high k i (get_or high k (pos 0) +ℤ pos j) (pos 0) o) }

  pub ends-wide : Ends low (widened k j high) 1048576
  ends-wide =
      let a = g.axis in let b = e.same in
      record { few = e.few; same = length-set high k (get_or high k (pos 0) +ℤ pos j) ∙ b; lows = e.lows; highs = set-within 1048576 high k (get_or high k (pos 0) +ℤ pos j) e.highs (reach-within k high j e.highs h) (omega arith) }

-- a constraint that fails does so for one value
pub lasts-one : (s : List ℕ) (k : ℕ) (low high : List ℤ) (start : ℕ) (c : Constraint) (qs : List Interval) → qs ≡ map (quotient_side (box_of low high)) (basic_at s start).divisions → can_stand (box_of low high) qs c ≡ false → Lasts s k low high start c 1
lasts-one s k low high start c qs e q = record {
  fails = ap (λ (u : List ℤ). can_stand (box_of low u) (map (quotient_side (box_of low u)) (basic_at s start).divisions) c) (widened_none k high) ∙ ap (λ (y : List Interval). can_stand (box_of low high) y c) (sym e) ∙ q;
}

pub more-than-none : (m : ℕ) → 0 < m → eqb m 0 ≡ false
more-than-none m h = ne_eqb m 0 (λ e. omega arith)

-- over n sides
pub widened-take : (n k j : ℕ) (x : List ℤ) → k < n → widened k j (take n x) ≡ take n (widened k j x)
widened-take n k j x h = ap (λ (z : ℤ). set (take n x) k (z +ℤ pos j)) (get_or-take n x k (pos 0) h) ∙ sym (take-set-lt n x k (get_or x k (pos 0) +ℤ pos j) h)
