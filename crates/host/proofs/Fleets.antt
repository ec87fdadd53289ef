-- From the number and the mask that the board's host gets for a fleet to its points, with FPL's meaning of a set (model,
-- specs/Existential).
use mathlib.Core.Path.{◌≡◌, refl, sym, ap, ◌∙◌, subst}
use mathlib.Core.Bool.{Bool, true, false, cond}
use mathlib.Core.Logic.{◌↔◌}
use mathlib.Core.List.{List}
use Prim.Native.Nat.{ℕ, zero, suc, ◌/◌, ◌%◌, ◌^◌, ◌≤◌, ◌<◌}
use native.Mathlib.Nat.{zero-lt-suc}
use lib.Count.{ones}
use lib.IntN.{ℤ, pos, negsuc}
use lib.ListN.{length}
use Rattle.model.specs.Lists.{all}
use Rattle.model.specs.Sets.{Set}
use Rattle.model.specs.Existential.{ExistsIn}
use Rattle.codec.specs.Bytes.{Answer, refused, gives, decode}
use Rattle.codec.proofs.Decoded.{no_way}
use Rattle.query.specs.Member.{coordinate}
use Rattle.fleet.specs.Fleet.{points_of, list_fits, Fleet, fleet_of, fleet_bytes}
use Rattle.fleet.specs.Looking.{Points, point_at}
use Rattle.fleet.proofs.Members.{answered, bit-means, bits-past, count_ones}
use Rattle.answers.specs.Numbers.{Fleeted}
use Rattle.host.proofs.Meanings.{FromOne, decode-from-one, not-minus, same-pos}

-- the set decodes, the list is whole points in range, at most 64; bit i, from 0, is 1 exactly when point i is in the set, the bits past the
-- last point are 0, and v is how many are 1
pub record FleetTold (n : ℕ) (a : List ℕ) (xs : List ℤ) (v mask : ℕ) : Type 0 where
  pub s : Set
  pub decoded : decode n a ≡ gives s
  pub points : Points n (length xs / n) xs
  pub one : (i : ℕ) → i < length xs / n → (mask / 2 ^ i % 2 ≡ 1) ↔ ExistsIn (point_at n xs i) s
  pub past : (i : ℕ) → length xs / n ≤ i → mask / 2 ^ i % 2 ≡ 0
  pub count : v ≡ ones mask

fleet-from-one : (n : ℕ) (a : List ℕ) (xs : List ℤ) → FromOne (fleet_bytes n a xs)
unfolding fleet_bytes
fleet-from-one n a xs = by (decode n a) refl (decode-from-one n a)
  where
    at : (s : Set) (b c : Bool) → FromOne (cond b (cond c (gives (fleet_of s (points_of n (length xs / n) xs))) (refused 12)) (refused 16))
    at s true true = tt
    at s true false = zero-lt-suc 11
    at s false c = zero-lt-suc 15

    by : (y : Answer Set) → decode n a ≡ y → FromOne y → FromOne (fleet_bytes n a xs)
    by (refused m) d p = rw (d, fleet_bytes) p
    by (gives s) d p = rw (d, fleet_bytes) (at s (list_fits n xs) (all coordinate xs))

-- a number from 0 on is how many points are in the set, and the mask says which
pub fleet-hosted : (n : ℕ) (a : List ℕ) (xs : List ℤ) (v mask : ℕ) → Fleeted (fleet_bytes n a xs) (pos v) mask → FleetTold n a xs v mask
fleet-hosted n a xs v mask h = by (fleet_bytes n a xs) refl (fleet-from-one n a xs) h
  where
    by : (y : Answer Fleet) → fleet_bytes n a xs ≡ y → FromOne y → Fleeted y (pos v) mask → FleetTold n a xs v mask
    by (refused k) e p h = not-minus v k h.number p
    by (gives r) e p h =
        let g = answered n a xs r e in record {
          s = g.s;
          decoded = g.decoded;
          points = g.points;
          one = λ i l. subst (λ (m : ℕ). (m / 2 ^ i % 2 ≡ 1) ↔ ExistsIn (point_at n xs i) g.s) (sym h.bits) (bit-means n a xs r e g.s g.decoded i l);
          past = λ i l. ap (λ (m : ℕ). m / 2 ^ i % 2) h.bits ∙ bits-past n a xs r e i l;
          count = same-pos h.number ∙ count_ones n a xs r e ∙ ap ones (sym h.bits);
        }

-- a number below 0 is minus the refusal's, and the mask is 0
pub fleet-refused : (k mask : ℕ) (a : Answer Fleet) → Fleeted a (negsuc k) mask → (a ≡ refused (suc k)) × (mask ≡ 0)
fleet-refused k mask (refused zero) h = let e = h.number in let z : ◌≡◌ {A = ℕ} 0 1 = cc in no_way z
fleet-refused k mask (refused (suc m)) h = let e : negsuc k ≡ negsuc m = h.number in let q : k ≡ m = cc in (ap (λ (i : ℕ). refused (suc i)) (sym q), h.bits)
fleet-refused k mask (gives r) h = let e = h.number in let z : ◌≡◌ {A = ℕ} 0 1 = cc in no_way z
