-- The numbers of a valid basic set's rules and bounds, and of an expression, are within 2,147,483,648.
use mathlib.Core.Bool.{true}
use mathlib.Core.List.{List, [], ◌∷◌, ◌++◌}
use Prim.Native.Nat.{ℕ, zero, suc, ◌+◌, ◌≤◌}
use native.Mathlib.Omega.{arith}
use lib.Dec.{T, leb, leb→le, ltb}
use lib.IntN.{ℤ, pos, negsuc, neg_ℤ}
use lib.ListN.{length}
use Rattle.integers.specs.Z.{Within}
use Rattle.integers.specs.Size.{within-mono, within-neg, within-sub}
use Rattle.model.specs.Lists.{all, All}
use Rattle.model.specs.Sets.{Division, Constraint, BasicSet, unit, bounds, conditions}
use Rattle.model.proofs.Count.{and_left, and_right}
use Rattle.codec.specs.Bytes.{within, coefficient}
use Rattle.model.proofs.Lists.{all_app, all-imp}
use Rattle.codec.specs.Valid.{ValidDivision, ValidConstraint, Valid, Fits}
use Rattle.optimum.proofs.Ranges.{ConstraintWithin, zero-within, mapped}

abbrev m : ℕ
m = 2147483648

coefficient-within : (z : ℤ) → T (coefficient z) → Within 32767 z
coefficient-within (pos n) t = record { size = leb→le n 32767 t }
coefficient-within (negsuc n) t = record { size = let h = leb→le n 32766 (and_left (leb n 32766) true t) in omega arith }

coefficients-within : (zs : List ℤ) → T (all coefficient zs) → All (Within m) zs
coefficients-within [] t = tt
coefficients-within (z ∷ zs) t =
    (within-mono (leb→le 32767 m tt) (coefficient-within z (and_left (coefficient z) (all coefficient zs) t)), coefficients-within zs (and_right (coefficient z) (all coefficient zs) t))

word-within : (z : ℤ) → Fits m z → Within m z
word-within (pos n) h = record { size = omega arith }
word-within (negsuc n) h = record { size = omega arith }

constant-within : (z : ℤ) → T (within (negsuc 999999999) (pos 1000000000) z) → Within 1000000000 z
constant-within (pos n) t = record { size = leb→le n 1000000000 t }
constant-within (negsuc n) t = record { size = let h = leb→le n 999999999 (and_left (leb n 999999999) true t) in omega arith }

unit-within : (i : ℕ) (z : ℤ) → Within m z → All (Within m) (unit i z)
unit-within zero z h = (h, tt)
unit-within (suc i) z h = (zero-within m, unit-within i z h)

module _ (n : ℕ) where
  bounds-within : (i : ℕ) (ds : List Division) → All (ValidDivision n) ds → All (ConstraintWithin m) (bounds i ds)
  bounds-within i [] v = tt
  bounds-within i (d ∷ ds) v =
      let D : Within 32767 (pos d.divisor) = record { size = leb→le d.divisor 32767 (and_right (ltb 0 d.divisor) (leb d.divisor 32767) v.0.divisor) } in
      let c : Within 1000000000 d.constant = constant-within d.constant v.0.constant in
      let one : Within 1 (pos 1) = record { size = leb→le 1 1 tt } in
      let axes : All (Within m) d.axes = coefficients-within d.axes v.0.axes in
      let wide : 32767 ≤ m = leb→le 32767 m tt in (
        (within-mono (leb→le 1000000000 m tt) c, axes, unit-within i (neg_ℤ (pos d.divisor)) (within-mono wide (within-neg D))),
        (
          (within-mono (leb→le (32767 + 1 + 1000000000) m tt) (within-sub (within-sub D one) c), mapped m neg_ℤ (λ z h. within-neg h) d.axes axes, unit-within i (pos d.divisor) (within-mono wide D)),
          bounds-within (suc i) ds v.1,
        ),
      )

  constraint-within : (k : ℕ) (r : Constraint) → ValidConstraint n k r → ConstraintWithin m r
  constraint-within k r v = (word-within r.constant v.width, coefficients-within r.axes v.axes, coefficients-within r.divisions v.divisions)

wider : (M : ℕ) → m ≤ M → (r : Constraint) → ConstraintWithin m r → ConstraintWithin M r
wider M h r k =
    let more : (z : ℤ) → Within m z → Within M z = λ z w. within-mono h w in
    (within-mono h k.0, all-imp (Within m) (Within M) more r.axes k.1, all-imp (Within m) (Within M) more r.divisions k.2)

pub conditions-within : (n : ℕ) (b : BasicSet) (e : Constraint) → Valid n b → Fits m e.constant → T (all coefficient e.axes) → T (all coefficient e.divisions)
    → (M : ℕ) → m ≤ M → All (ConstraintWithin M) (conditions b ++ (e ∷ []))
conditions-within n b e v width axes divisions M h =
    all-imp (ConstraintWithin m) (ConstraintWithin M) (wider M h) (conditions b ++ (e ∷ []))
    (all_app (ConstraintWithin m) (conditions b) (e ∷ [])
    (all_app (ConstraintWithin m) (bounds 0 b.divisions) b.constraints (bounds-within n 0 b.divisions v.divisions)
    (all-imp (ValidConstraint n (length b.divisions)) (ConstraintWithin m) (constraint-within n (length b.divisions)) b.constraints v.constraints))
    ((word-within e.constant width, coefficients-within e.axes axes, coefficients-within e.divisions divisions), tt))
