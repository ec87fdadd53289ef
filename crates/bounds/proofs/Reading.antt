-- Signs, kinds, and tables of numbers of a size.
use mathlib.Core.Path.{◌≡◌, refl, sym, subst}
use mathlib.Core.Bool.{Bool, true, false}
use mathlib.Core.List.{List, [], ◌∷◌}
use Prim.Native.Nat.{ℕ, zero, suc, ◌≤◌, ◌<◌}
use native.Mathlib.Nat.{div-le_self, le_trans}
use native.Mathlib.Omega.{arith}
use lib.Dec.{T, ltb, eqb}
use lib.IntN.{ℤ, pos, negsuc}
use lib.Signed.{le_z, non_neg, ◌≤ℤ◌}
use lib.ListN.{length, take, get_or, set, length-take, get_or-eq_default}
use lib.Seq.{get_or-set_same, get_or-set_other, get_or-take}
use borrow.Author.Tests.{ltb-true, ltb-false, eqb-true, eqb-false, le-leb}
use Rattle.integers.specs.Z.{Within}
use Rattle.integers.specs.Size.{within-mono, within_of}
use Rattle.model.specs.Lists.{all}
use Rattle.model.specs.Sets.{floor_div}
use Rattle.model.proofs.Count.{and_left, and_right}
use Rattle.codec.specs.Bytes.{within}
use Rattle.bounds.specs.Ends.{AllWithin}

pub by : (P : Bool → Type 0) (b : Bool) → (b ≡ true → P true) → (b ≡ false → P false) → P b
by P true f g = f refl
by P false f g = g refl

pub nonneg-bits : (z : ℤ) → le_z (pos 0) z ≡ non_neg z
nonneg-bits (pos n) = le-leb 0 n (omega arith)
nonneg-bits (negsuc n) = refl

pub floor-within : (m : ℕ) (z : ℤ) (d : ℕ) → Within m z → Within m (floor_div z d)
floor-within m (pos a) d h = let u = h.size in let v = div-le_self a d in record { size = le_trans v u }
floor-within m (negsuc a) d h = let u = h.size in let v = div-le_self a d in record { size = omega arith }

-- ---- tables
pub all-mono : {m n : ℕ} {x : List ℤ} → m ≤ n → AllWithin m x → AllWithin n x
all-mono h a = record { at = λ i. within-mono h (a.at i) }

pub all_nil : {m : ℕ} → AllWithin m []
all_nil {m} = record { at = λ i. none m i }
  where
    none : (m i : ℕ) → Within m (get_or [] i (pos 0))
    none m zero = record { size = omega arith }
    none m (suc i) = record { size = omega arith }

pub all_cons : {m : ℕ} {z : ℤ} {x : List ℤ} → Within m z → AllWithin m x → AllWithin m (z ∷ x)
all_cons {m} {z} {x} h a = record { at = λ i. at i }
  where
    at : (i : ℕ) → Within m (get_or (z ∷ x) i (pos 0))
    at zero = h
    at (suc i) = a.at i

pub within_all : (m : ℕ) (x : List ℤ) → T (all (within (negsuc m) (pos (suc m))) x) → AllWithin (suc m) x
within_all m [] t = all_nil
within_all m (z ∷ x) t =
    let b = and_left (within (negsuc m) (pos (suc m)) z) (all (within (negsuc m) (pos (suc m))) x) t in
    let l : negsuc m ≤ℤ z = record { le = and_left (le_z (negsuc m) z) (le_z z (pos (suc m))) b } in
    let h : z ≤ℤ pos (suc m) = record { le = and_right (le_z (negsuc m) z) (le_z z (pos (suc m))) b } in
    all_cons (within_of l h) (within_all m x (and_right (within (negsuc m) (pos (suc m)) z) (all (within (negsuc m) (pos (suc m))) x) t))

pub zeros-all : {m : ℕ} → AllWithin m (pos 0 ∷ pos 0 ∷ pos 0 ∷ pos 0 ∷ pos 0 ∷ pos 0 ∷ pos 0 ∷ pos 0 ∷ [])
zeros-all {m} = let z : Within m (pos 0) = record { size = omega arith } in all_cons z (all_cons z (all_cons z (all_cons z (all_cons z (all_cons z (all_cons z (all_cons z all_nil)))))))

pub set-within : (m : ℕ) (q : List ℤ) (i : ℕ) (v : ℤ) → AllWithin m q → Within m v → i < length q → AllWithin m (set q i v)
set-within m q i v a h l = record {
  at = λ j. by (λ (b : Bool). Within m (get_or (set q i v) j (pos 0))) (eqb j i)
      (λ e. subst (λ (x : ℕ). Within m (get_or (set q i v) x (pos 0))) (sym (eqb-true j i e)) (subst (Within m) (sym (get_or-set_same q i v (pos 0) l)) h))
      (λ e. subst (Within m) (sym (get_or-set_other q i j v (pos 0) (eqb-false j i e))) (a.at j));
}

pub take_within : (m : ℕ) (q : List ℤ) (n : ℕ) → AllWithin m q → AllWithin m (take n q)
take_within m q n a = record {
  at = λ j. by (λ (b : Bool). Within m (get_or (take n q) j (pos 0))) (ltb j n)
      (λ e. subst (Within m) (sym (get_or-take n q j (pos 0) (ltb-true j n e))) (a.at j))
      (λ e. let l = ltb-false j n e in let k : length (take n q) ≤ j = omega (arith, length-take n q) in subst (Within m) (sym (get_or-eq_default (take n q) (pos 0) k)) (record { size = omega arith }));
}
