-- Points as the code has them: their range, coordinate by coordinate.
use mathlib.Core.Path.{◌≡◌, refl, sym, ap, ap₂, ◌∙◌, subst}
use mathlib.Core.Bool.{Bool, true, false, ◌&&◌, ◌||◌}
use mathlib.Core.List.{List, [], ◌∷◌}
use Prim.Native.Nat.{ℕ, zero, suc, ◌+◌, ◌-◌, ◌≤◌}
use native.Mathlib.Omega.{arith}
use lib.Dec.{T, ltb}
use lib.IntN.{ℤ}
use lib.Signed.{◌<ℤ◌, ◌≤ℤ◌, le_z}
use lib.ListN.{length, take, length-take, drop_of_length-le}
use borrow.Author.Tests.{lt-ltb, le-ltb}
use Rattle.integers.specs.Lin.{le, lt, lin, lia-no}
use Rattle.integers.specs.Mach.{le_z-true}
use Rattle.model.specs.Lists.{all}
use Rattle.model.specs.Sets.{is_zero, absent}
use Rattle.query.specs.Member.{coordinate, point_fits}
use Rattle.query.specs.Holding.{AllWithin, coordinate_fits}
use Rattle.std.specs.List.{list_all, enumerate_from}
use Rattle.query.specs.Holding.{Point}
use Rattle.bounds.proofs.Reading.{within_all, take_within}

-- a test that is known to hold, and one that is known to fail
pub le_yes : (a b : ℤ) → a ≤ℤ b → le_z a b ≡ true
le_yes a b h = go (le_z a b) h.le
  where
    go : (x : Bool) → T x → x ≡ true
    go true t = refl
    go false t = absurd t

pub le-no : (a b : ℤ) → b <ℤ a → le_z a b ≡ false
le-no a b h = go (le_z a b) refl
  where
    go : (x : Bool) → le_z a b ≡ x → le_z a b ≡ false
    go false e = e
    go true e = absurd (lia-no (a ∷ b ∷ []) (lt h ∷ le (le_z-true a b e) ∷ []) (search lin depth 30) (omega arith))

-- each coordinate, the first of them with the number i, can be one
abbrev fits_from : ℕ → ℕ → List ℤ → Bool
fits_from n i x = list_all (λ (p : ℕ × ℤ). coordinate_fits n p.0 p.1) (enumerate_from i x)

regroup : (a b c d : Bool) → ((a && b) && (c && d)) ≡ ((a && c) && (b && d))
regroup true true c d = refl
regroup true false true d = refl
regroup true false false d = refl
regroup false b c d = refl

and-true : (a : Bool) → (a && true) ≡ a
and-true true = refl
and-true false = refl

fits-from : (n : ℕ) (x : List ℤ) (i : ℕ) → (all coordinate x && absent (n - i) x) ≡ fits_from n i x
fits-from n [] i = ap (λ (l : List ℤ). true && all is_zero l) (drop_of_length-le [] {i = n - i} (omega arith))
fits-from n (z ∷ x) i = go (n - i) refl (fits-from n x (i + 1))
  where
    go : (m : ℕ) → n - i ≡ m → (all coordinate x && absent (n - (i + 1)) x) ≡ fits_from n (i + 1) x → (all coordinate (z ∷ x) && absent m (z ∷ x)) ≡ fits_from n i (z ∷ x)
    go zero e ih =
        let h : ltb i n ≡ false = le-ltb i n (omega arith) in let k : n - (i + 1) ≡ 0 = omega arith in
        regroup (coordinate z) (all coordinate x) (is_zero z) (all is_zero x)
        ∙ ap₂ ◌&&◌ (ap (λ (b : Bool). coordinate z && (b || is_zero z)) (sym h)) (ap (λ (j : ℕ). all coordinate x && absent j x) (sym k) ∙ ih)
    go (suc m) e ih =
        let h : ltb i n ≡ true = lt-ltb i n (omega arith) in let k : n - (i + 1) ≡ m = omega arith in
        assoc (coordinate z) (all coordinate x) (absent m x)
        ∙ ap₂ ◌&&◌ (sym (and-true (coordinate z)) ∙ ap (λ (b : Bool). coordinate z && (b || is_zero z)) (sym h)) (ap (λ (j : ℕ). all coordinate x && absent j x) (sym k) ∙ ih)
      where
        assoc : (a b c : Bool) → ((a && b) && c) ≡ (a && (b && c))
        assoc true b c = refl
        assoc false b c = refl

-- ---- the test of each coordinate with its number
pub fits-all : (n : ℕ) (x : List ℤ) → list_all (λ (p : ℕ × ℤ). coordinate_fits n p.0 p.1) (enumerate_from 0 x) ≡ point_fits n x
fits-all n x = let e : n - 0 ≡ n = omega arith in sym (fits-from n x 0) ∙ ap (λ (m : ℕ). all coordinate x && absent m x) e

-- ---- what it says of the numbers
pub point-within : (n : ℕ) (x : List ℤ) → point_fits n x ≡ true → AllWithin 1048576 x
point-within n x e = within_all 1048575 x (Rattle.model.proofs.Count.and_left (all coordinate x) (absent n x) (subst T (sym e) tt))

-- the first n numbers of a point of n axes
pub point-taken : (n : ℕ) (x y : List ℤ) → y ≡ x → length y ≡ 8 → n ≤ 8 → point_fits n x ≡ true → Point (take n y)
point-taken n x y d l h e = record { axes = omega (arith, length-take n y); point = take_within 1048576 y n (subst (AllWithin 1048576) (sym d) (point-within n x e)) }
