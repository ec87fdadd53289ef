-- Reduction is canonical: two rows in lowest terms, with positive denominators, that are multiples of one row are equal. Assumes nothing.
use mathlib.Core.Path.{◌≡◌, refl, sym, ap, ap₂, ◌∙◌, subst}
use mathlib.Core.List.{List, [], ◌∷◌, map}
use mathlib.Core.Logic.{◌⊎◌, inl, inr, ⊎_elim}
use Prim.Native.Nat.{ℕ, zero, suc, ◌*◌, ◌/◌, ◌<◌, ◌∣◌, zero-le, suc-le-suc}
use native.Mathlib.Nat.{dvd_refl, dvd-zero, dvd_trans, dvd_antisymm, dvd-mul_right, dvd_of_mul-dvd-mul_left, mul-dvd-mul_left, mul-div_cancel', eq-one_of_dvd-one, mul-one}
use native.Mathlib.Omega.{arith}
use lib.ListN.{length, get_or}
use lib.IntN.{ℤ, pos, negsuc, neg_ℤ, nat_abs, ◌+ℤ◌, ◌-ℤ◌, ◌*ℤ◌}
use lib.Signed.{◌<ℤ◌}
use Rattle.integers.specs.Lin.{lt, eq, lin, lia-eq, lia-no}
use Rattle.integers.specs.Order.{mul-zero}
use Rattle.integers.specs.Size.{nat_abs_mul, nat_abs-zero}
use Rattle.integers.specs.Gcd.{gcd, gcd-is, gcd-unique, gcd_all, Divides, gcd_all-divides, gcd_all-most}
use Rattle.feasibility.specs.Tableau.{Row, common_divisor}
use Rattle.tableau.specs.Rows.{divisor_from}
use Rattle.feasibility.proofs.Reduce.{euclid-is}

-- c times each number
abbrev pub scale : ℤ → List ℤ → List ℤ
scale c xs = map (λ x. c *ℤ x) xs

-- ---- the three ways to a common divisor agree

pub common-is : (zs : List ℤ) → common_divisor zs ≡ gcd_all zs
unfolding gcd_all
common-is [] = refl
common-is (z ∷ zs) = gcd-unique (euclid-is (nat_abs z) (common_divisor zs)) (subst (λ g. Rattle.integers.specs.Gcd.IsGcd (nat_abs z) g (gcd (nat_abs z) (gcd_all zs))) (sym (common-is zs)) (gcd-is (nat_abs z) (gcd_all zs)))

from-divides : (g : ℕ) (xs : List ℤ) → (divisor_from g xs ∣ g) × Divides (divisor_from g xs) xs
unfolding divisor_from
from-divides g [] = (dvd_refl g, tt)
from-divides g (x ∷ xs) =
    let h = from-divides (gcd (nat_abs x) g) xs in
    let i = gcd-is (nat_abs x) g in
    (dvd_trans _ h.0 i.right, (dvd_trans _ h.0 i.left, h.1))

from-most : (k g : ℕ) (xs : List ℤ) → k ∣ g → Divides k xs → k ∣ divisor_from g xs
unfolding divisor_from
from-most k g [] h d = h
from-most k g (x ∷ xs) h d = from-most k (gcd (nat_abs x) g) xs ((gcd-is (nat_abs x) g).most k d.0 h) d.1

pub divisor_is : (xs : List ℤ) → divisor_from 0 xs ≡ gcd_all xs
divisor_is xs =
    dvd_antisymm (gcd_all-most (divisor_from 0 xs) xs (from-divides 0 xs).1) (from-most (gcd_all xs) 0 xs (dvd-zero (gcd_all xs)) (gcd_all-divides xs))

-- ---- by places

pub divides-at : (g : ℕ) (xs : List ℤ) (i : ℕ) → Divides g xs → g ∣ nat_abs (get_or xs i (pos 0))
divides-at g [] i d = dvd-zero g
divides-at g (x ∷ xs) zero d = d.0
divides-at g (x ∷ xs) (suc i) d = divides-at g xs i d.1

pub divides-of : (g : ℕ) (xs : List ℤ) → ((i : ℕ) → i < length xs → g ∣ nat_abs (get_or xs i (pos 0))) → Divides g xs
divides-of g [] h = tt
divides-of g (x ∷ xs) h = (h 0 (suc-le-suc zero-le), divides-of g xs (λ i l. h (suc i) (suc-le-suc l)))

-- ---- multiples

module _ (c : ℤ) (over : 0 < nat_abs c) where
  times-divides : (g : ℕ) (xs : List ℤ) → Divides g xs → Divides (nat_abs c * g) (scale c xs)
  times-divides g [] d = tt
  times-divides g (x ∷ xs) d = (subst (λ n. nat_abs c * g ∣ n) (sym (nat_abs_mul c x)) (mul-dvd-mul_left g (nat_abs c) d.0), times-divides g xs d.1)

  divides-times : (g : ℕ) (xs : List ℤ) → Divides (nat_abs c * g) (scale c xs) → Divides g xs
  divides-times g [] d = tt
  divides-times g (x ∷ xs) d = (dvd_of_mul-dvd-mul_left g over (subst (λ n. nat_abs c * g ∣ n) (nat_abs_mul c x) d.0), divides-times g xs d.1)

  factor-divides : (xs : List ℤ) → Divides (nat_abs c) (scale c xs)
  factor-divides [] = tt
  factor-divides (x ∷ xs) = (subst (λ n. nat_abs c ∣ n) (sym (nat_abs_mul c x)) (dvd-mul_right (nat_abs c) (nat_abs x)), factor-divides xs)

  pub gcd_all-scale : (xs : List ℤ) → gcd_all (scale c xs) ≡ nat_abs c * gcd_all xs
  gcd_all-scale xs =
      let d = nat_abs c in
      let G = gcd_all (scale c xs) in
      let e : d * (G / d) ≡ G = mul-div_cancel' d (gcd_all-most d (scale c xs) (factor-divides xs)) in
      let h : Divides (G / d) xs = divides-times (G / d) xs (subst (λ n. Divides n (scale c xs)) (sym e) (gcd_all-divides (scale c xs))) in
      dvd_antisymm
      (subst (λ n. n ∣ d * gcd_all xs) e (mul-dvd-mul_left (G / d) d (gcd_all-most (G / d) xs h)))
      (gcd_all-most (d * gcd_all xs) (scale c xs) (times-divides (gcd_all xs) xs (gcd_all-divides xs)))

pub abs-over : (c : ℤ) → (c ≡ pos 0 → ⊥) → 0 < nat_abs c
abs-over c n = go (nat_abs c) refl
  where
    go : (m : ℕ) → nat_abs c ≡ m → 0 < nat_abs c
    go zero e = absurd (n (nat_abs-zero c e))
    go (suc m) e = subst (λ k. 0 < k) (sym e) (suc-le-suc zero-le)

one_of : (d g : ℕ) → 0 < d → d ≡ d * g → g ≡ 1
one_of d g p e = eq-one_of_dvd-one (dvd_of_mul-dvd-mul_left g p (subst (λ n. d * g ∣ n) (sym (mul-one d)) (subst (λ n. n ∣ d) e (dvd_refl d))))

-- divided by their common divisor, numbers have 1 for theirs
pub lowest-terms : (c : ℤ) (xs ys : List ℤ) → (c ≡ pos 0 → ⊥) → scale c xs ≡ ys → nat_abs c ≡ gcd_all ys → gcd_all xs ≡ 1
lowest-terms c xs ys n e h =
    let p = abs-over c n in one_of (nat_abs c) (gcd_all xs) p (h ∙ ap gcd_all (sym e) ∙ gcd_all-scale c p xs)

-- ---- two rows in lowest terms that are multiples of one

cancel : (c x y : ℤ) → (c ≡ pos 0 → ⊥) → c *ℤ x ≡ c *ℤ y → x ≡ y
cancel c x y n e =
    let z : c *ℤ (x -ℤ y) ≡ pos 0 = lia-eq (c ∷ x ∷ y ∷ []) (eq e ∷ []) (search lin depth 30) (omega arith) in
    ⊎_elim (λ q. absurd (n q)) (λ q. lia-eq (x ∷ y ∷ []) (eq q ∷ []) (search lin depth 30) (omega arith)) (mul-zero z)

head-eq : {a b : ℤ} {xs ys : List ℤ} → a ∷ xs ≡ b ∷ ys → a ≡ b
head-eq e = cc

tail-eq : {a b : ℤ} {xs ys : List ℤ} → a ∷ xs ≡ b ∷ ys → xs ≡ ys
tail-eq e = cc

scale-cancel : (c : ℤ) (xs ys : List ℤ) → (c ≡ pos 0 → ⊥) → scale c xs ≡ scale c ys → xs ≡ ys
scale-cancel c [] [] n e = refl
scale-cancel c [] (y ∷ ys) n e = absurd (let z : ◌≡◌ {A = ℕ} 0 (suc (length (scale c ys))) = ap length e in omega arith)
scale-cancel c (x ∷ xs) [] n e = absurd (let z : ◌≡◌ {A = ℕ} (suc (length (scale c xs))) 0 = ap length e in omega arith)
scale-cancel c (x ∷ xs) (y ∷ ys) n e = ap₂ ◌∷◌ (cancel c x y n (head-eq e)) (scale-cancel c xs ys n (tail-eq e))

-- numbers of one size, one of them the other's multiple by a positive ratio
same_sign : (a b x y : ℤ) → nat_abs a ≡ nat_abs b → pos 0 <ℤ x → pos 0 <ℤ y → a *ℤ x ≡ b *ℤ y → (b ≡ pos 0 → ⊥) → a ≡ b
same_sign a b x y s hx hy e n = ⊎_elim (λ q. q) (λ q. absurd (opposite q)) (cases a b s)
  where
    cases : (a b : ℤ) → nat_abs a ≡ nat_abs b → (a ≡ b) ⊎ (a ≡ neg_ℤ b)
    cases (pos m) (pos n) s = inl (ap pos s)
    cases (pos m) (negsuc n) s = inr (ap pos s)
    cases (negsuc m) (pos n) s = inr (ap (λ k. neg_ℤ (pos k)) s)
    cases (negsuc m) (negsuc n) s = inl (ap (λ k. neg_ℤ (pos k)) s)

    opposite : a ≡ neg_ℤ b → ⊥
    opposite q =
        let f : neg_ℤ b *ℤ x ≡ b *ℤ y = ap (λ c. c *ℤ x) (sym q) ∙ e in
        let z : b *ℤ (x +ℤ y) ≡ pos 0 = lia-eq (b ∷ x ∷ y ∷ []) (eq f ∷ []) (search lin depth 30) (omega arith) in
        ⊎_elim n (λ w. lia-no (x ∷ y ∷ []) (lt hx ∷ lt hy ∷ eq w ∷ []) (search lin depth 30) (omega arith)) (mul-zero z)

pub canonical : (a b : ℤ) (x y : ℤ) (xs ys : List ℤ) → (a ≡ pos 0 → ⊥) → (b ≡ pos 0 → ⊥) → pos 0 <ℤ x → pos 0 <ℤ y → gcd_all (x ∷ xs) ≡ 1 → gcd_all (y ∷ ys) ≡ 1
    → scale a (x ∷ xs) ≡ scale b (y ∷ ys) → x ∷ xs ≡ y ∷ ys
canonical a b x y xs ys na nb hx hy gx gy e =
    let sa = gcd_all-scale a (abs-over a na) (x ∷ xs) ∙ ap (λ n. nat_abs a * n) gx ∙ mul-one (nat_abs a) in
    let sb = gcd_all-scale b (abs-over b nb) (y ∷ ys) ∙ ap (λ n. nat_abs b * n) gy ∙ mul-one (nat_abs b) in
    let s : nat_abs a ≡ nat_abs b = sym sa ∙ ap gcd_all e ∙ sb in
    let q : a ≡ b = same_sign a b x y s hx hy (head-eq e) nb in
    scale-cancel a (x ∷ xs) (y ∷ ys) na (e ∙ ap (λ c. scale c (y ∷ ys)) (sym q))

-- a row is unique for its columns: rows in lowest terms with positive denominators that give the same values are equal
pub record LowestTerms (r : Row) : Type 0 where
  pub positive : pos 0 <ℤ r.den
  pub lowest : common_divisor (r.den ∷ r.nums) ≡ 1

pub row-unique : (r s : Row) (a b : ℤ) → LowestTerms r → LowestTerms s → (a ≡ pos 0 → ⊥) → (b ≡ pos 0 → ⊥) → scale a (r.den ∷ r.nums) ≡ scale b (s.den ∷ s.nums)
    → (r.den ≡ s.den) × (r.nums ≡ s.nums)
row-unique r s a b hr hs na nb e =
    let q = canonical a b r.den s.den r.nums s.nums na nb hr.positive hs.positive (sym (common-is (r.den ∷ r.nums)) ∙ hr.lowest) (sym (common-is (s.den ∷ s.nums)) ∙ hs.lowest) e in
    (head-eq q, tail-eq q)
