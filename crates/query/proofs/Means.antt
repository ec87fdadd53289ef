-- Member answers FPL's question: whether there are whole numbers for the divisions of some basic set for which its constraints hold.
use mathlib.Core.Path.{◌≡◌, refl}
use mathlib.Core.Bool.{Bool, true, false, cond}
use mathlib.Core.List.{List, [], ◌∷◌}
use Prim.Native.Nat.{ℕ}
use lib.Dec.{T}
use lib.IntN.{ℤ}
use lib.ListN.{take}
use Rattle.model.specs.Lists.{all}
use Rattle.model.specs.Sets.{BasicSet, Set, in_set, well_formed}
use Rattle.model.specs.Existential.{ExistsIn}
use Rattle.model.proofs.Count.{and_left, and_right, and-make, to-T}
use Rattle.model.proofs.Values.{divides, fits}
use Rattle.model.proofs.Existential.{exists-in-set, in-set-exists}
use Rattle.codec.specs.Bytes.{Answer, refused, gives, decode}
use Rattle.codec.proofs.Decoded.{decode-formed, no_way}
use Rattle.query.specs.Member.{point_fits, member_bytes}

divisors : (s : Set) → T (all well_formed s) → T (all (λ (b : BasicSet). all divides b.divisions) s)
divisors [] t = tt
divisors (b ∷ s) t =
    and-make (all divides b.divisions) (all (λ (b : BasicSet). all divides b.divisions) s)
    (and_left (all divides b.divisions) (all (fits b.divisions) b.constraints) (and_left (well_formed b) (all well_formed s) t)) (divisors s (and_right (well_formed b) (all well_formed s) t))

-- a decoded set holds a point, however large, by floor divisions exactly when it does by FPL's meaning
pub decoded-means : (n : ℕ) (a : List ℕ) (s : Set) → decode n a ≡ gives s → (x : List ℤ) → (T (in_set x s) → ExistsIn x s) × (ExistsIn x s → T (in_set x s))
decoded-means n a s d x = (in-set-exists x s (divisors s (decode-formed n a s d)), exists-in-set x s)

-- the set decodes, the point is in range, and the answer is whether the set holds it
pub record Asked (n : ℕ) (a : List ℕ) (x : List ℤ) (v : Bool) : Type 0 where
  pub s : Set
  pub decoded : decode n a ≡ gives s
  pub point : T (point_fits n x)
  pub answer : in_set (take n x) s ≡ v

pub asked : (n : ℕ) (a : List ℕ) (x : List ℤ) (v : Bool) → member_bytes n a x ≡ gives v → Asked n a x v
unfolding member_bytes
asked n a x v e = by (decode n a) refl
  where
    on : (s : Set) → decode n a ≡ gives s → (c : Bool) → point_fits n x ≡ c → ◌≡◌ {A = Answer Bool} (cond c (gives (in_set (take n x) s)) (refused 12)) (gives v) → Asked n a x v
    on s d true p g = record { s = s; decoded = d; point = to-T (point_fits n x) p; answer = cc }
    on s d false p g = let z : ◌≡◌ {A = ℕ} 0 1 = cc in no_way z

    by : (y : Answer Set) → decode n a ≡ y → Asked n a x v
    by (refused m) d = let g : refused m ≡ gives v = rw (d, member_bytes) at e in let z : ◌≡◌ {A = ℕ} 0 1 = cc in no_way z
    by (gives s) d = on s d (point_fits n x) refl (rw (d, member_bytes) at e)
