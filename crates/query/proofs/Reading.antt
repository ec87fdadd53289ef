-- Sums of products read from bytes, and their sizes.
use mathlib.Core.Path.{◌≡◌, refl, sym, ap, ap₂, ◌∙◌, subst}
use mathlib.Core.Bool.{Bool, true, false, not}
use mathlib.Core.List.{List, [], ◌∷◌}
use Prim.Native.Nat.{ℕ, suc, ◌+◌, ◌-◌, ◌*◌, ◌≤◌, ◌<◌}
use native.Mathlib.Nat.{mul-le-mul, le_refl}
use native.Mathlib.Numerals.{add-one}
use native.Mathlib.Omega.{arith}
use lib.Dec.{T, eqb}
use lib.IntN.{ℤ, pos, negsuc, ◌+ℤ◌, ◌*ℤ◌, +ℤ_idl, +ℤ_idr, +ℤ_assoc}
use lib.ListN.{length, take, drop, get_or, drop_of_length-le}
use lib.Pow.{pow_pos}
use lib.Seq.{drop-cons, drop-drop}
use mir.Syntax.{Width, w64}
use mir.Val.{SFits, hbits, to_z, of_z}
use mir.ValLaws.{to_z_pos}
use borrow.Author.Tests.{eqb-true, ne_eqb}
use Rattle.integers.specs.Z.{Within}
use Rattle.integers.specs.Size.{within-mono, within-add, within-mul, within-fits}
use Rattle.integers.specs.Bound.{bounds, fits_by}
use Rattle.integers.specs.Mach.{to_z_of_z}
use Rattle.integers.specs.Lin.{lin, lia-eq}
use Rattle.model.specs.Sets.{dot, is_zero}
use Rattle.codec.specs.Bytes.{value_of, signed, signed_list}
use Rattle.bounds.proofs.Reading.{by}
use Rattle.query.specs.Holding.{AllWithin}

-- ---- the sum of products, from a place on
dot-nil : (l : List ℤ) → dot l [] ≡ pos 0
dot-nil [] = refl
dot-nil (a ∷ l) = refl

abbrev pub rest : List ℕ → List ℤ → ℕ → ℕ → ℤ
rest t x q i = dot (signed_list (8 - i) (drop q t)) (drop i x)

pub dot-more : (t : List ℕ) (x : List ℤ) (q i : ℕ) → i < length x → length x ≤ 8 → rest t x q i ≡ signed 2 (value_of (take 2 (drop q t))) *ℤ get_or x i (pos 0) +ℤ rest t x (q + 2) (i + 1)
dot-more t x q i h l =
    let e : 8 - i ≡ suc (8 - (i + 1)) = omega arith in
    ap₂ (λ (m : ℕ) (y : List ℤ). dot (signed_list m (drop q t)) y) e (drop-cons x i (pos 0) h ∙ ap (λ (j : ℕ). get_or x i (pos 0) ∷ drop j x) (sym (add-one i)))
    ∙ ap (λ (r : List ℕ). signed 2 (value_of (take 2 (drop q t))) *ℤ get_or x i (pos 0) +ℤ dot (signed_list (8 - (i + 1)) r) (drop (i + 1) x)) (drop-drop 2 q t)

-- what the loop keeps
pub record Summed (t : List ℕ) (p : ℕ) (x : List ℤ) (sum : ℤ) (i : ℕ) : Type 0 where
  pub size : (B : ℕ) → AllWithin B x → Within (i * (32768 * B)) sum
  pub same : sum +ℤ rest t x (p + 2 * i) i ≡ dot (signed_list 8 (drop p t)) x

pub summed-start : (t : List ℕ) (p : ℕ) (x : List ℤ) → Summed t p x (pos 0) 0
summed-start t p x = record { size = λ B b. record { size = omega arith }; same = let e : p + 2 * 0 ≡ p = omega arith in rw e (+ℤ_idl (rest t x p 0)) }

module _ (t : List ℕ) (p : ℕ) (x : List ℤ) (sum : ℤ) (i : ℕ) (m : Summed t p x sum i) where
  pub summed-next : (sum' a : ℤ) → i < length x → length x ≤ 8 → a ≡ signed 2 (value_of (take 2 (drop (p + 2 * i) t))) → Within 32768 a
      → sum' ≡ sum +ℤ a *ℤ get_or x i (pos 0) → Summed t p x sum' (i + 1)
  summed-next sum' a h l ea wa e =
      let q : p + 2 * (i + 1) ≡ p + 2 * i + 2 = omega arith in
      record {
        size = λ B b. subst (Within ((i + 1) * (32768 * B))) (sym e) (within-mono (omega arith) (within-add (m.size B b) (within-mul wa (b.at i))));
        same =
            ap₂ (λ (z : ℤ) (j : ℕ). z +ℤ rest t x j (i + 1)) e q
            ∙ +ℤ_assoc sum (a *ℤ get_or x i (pos 0)) (rest t x (p + 2 * i + 2) (i + 1))
            ∙ ap (λ (z : ℤ). sum +ℤ z) (ap (λ (z : ℤ). z *ℤ get_or x i (pos 0) +ℤ rest t x (p + 2 * i + 2) (i + 1)) ea ∙ sym (dot-more t x (p + 2 * i) i h l)) ∙ m.same;
      }

  pub summed-end : length x ≤ i → sum ≡ dot (signed_list 8 (drop p t)) x
  summed-end h =
      let q : ℕ = p + 2 * i in
      sym (ap (λ (z : ℤ). sum +ℤ z) (ap (dot (signed_list (8 - i) (drop q t))) (drop_of_length-le x h) ∙ dot-nil (signed_list (8 - i) (drop q t))) ∙ +ℤ_idr sum) ∙ m.same

  pub summed-size : i ≤ 8 → (B : ℕ) → AllWithin B x → Within (8 * (32768 * B)) sum
  summed-size l B b = within-mono (mul-le-mul l (le_refl (32768 * B))) (m.size B b)

fit-a : {p : ℤ} → Within 32768 p → SFits w64 p
fit-a h = fits_by (search bounds depth 20) (omega arith)

fit-x : {q : ℤ} → Within 549755813888 q → SFits w64 q
fit-x h = fits_by (search bounds depth 20) (omega arith)

fit-mul : {p q : ℤ} → Within 32768 p → Within 549755813888 q → SFits w64 (p *ℤ q)
fit-mul h k = fits_by (search bounds depth 20) (omega arith)

pub fit-add : {n : ℕ} {d p q : ℤ} → Within (n * (32768 * 549755813888)) d → n ≤ 8 → Within 32768 p → Within 549755813888 q → SFits w64 (d +ℤ p *ℤ q)
fit-add hd hn h k = fits_by (search bounds depth 20) (omega arith)

pub product-fits : {p q : ℤ} → Within 32768 p → Within 549755813888 q → SFits w64 (to_z w64 (of_z w64 p) *ℤ to_z w64 (of_z w64 q))
product-fits h k = rw (to_z_of_z (fit-a h), to_z_of_z (fit-x k)) (fit-mul h k)

pub product-is : {p q : ℤ} → Within 32768 p → Within 549755813888 q → to_z w64 (of_z w64 (to_z w64 (of_z w64 p) *ℤ to_z w64 (of_z w64 q))) ≡ p *ℤ q
product-is h k = rw (to_z_of_z (fit-a h), to_z_of_z (fit-x k)) (to_z_of_z (fit-mul h k))

-- ---- a quotient
pub sum-within : {c a : ℤ} → Within 2147483648 c → Within (8 * (32768 * 1048576)) a → Within 549755813888 (c +ℤ a)
sum-within h k = within-mono (omega arith) (within-add h k)

pub sum_fits : {c a : ℤ} → Within 2147483648 c → Within (8 * (32768 * 1048576)) a → SFits w64 (c +ℤ a)
sum_fits h k = within-fits (omega arith) (sum-within h k)

-- ---- a rule
pub dots-fit : {a b : ℤ} → Within (8 * (32768 * 549755813888)) a → Within (8 * (32768 * 549755813888)) b → SFits w64 (a +ℤ b)
dots-fit h k = within-fits (omega arith) (within-add h k)

pub value-fits : {c a b : ℤ} → Within 2147483648 c → Within (8 * (32768 * 549755813888)) a → Within (8 * (32768 * 549755813888)) b → SFits w64 (c +ℤ (a +ℤ b))
value-fits g h k = within-fits (omega arith) (within-add g (within-add h k))

zero_is : (z : ℤ) → is_zero z ≡ true → z ≡ pos 0
zero_is (pos n) e = ap pos (eqb-true n 0 e)
zero_is (negsuc n) e = let z : ◌≡◌ {A = Bool} false true = e in absurd (subst (λ (b : Bool). T (not b)) e tt)

pub zero_bits : (w : Width) (z : ℤ) → SFits w z → eqb (of_z w z) 0 ≡ is_zero z
zero_bits w z f = by (λ (b : Bool). eqb (of_z w z) 0 ≡ b) (is_zero z) (λ e. ap (λ (y : ℤ). eqb (of_z w y) 0) (zero_is z e))
    (λ e. ne_eqb (of_z w z) 0 (λ q. clash (sym (to_z_of_z f) ∙ ap (to_z w) q ∙ to_z_pos w 0 (pow_pos (hbits w))) e))
  where
    clash : z ≡ pos 0 → is_zero z ≡ false → ⊥
    clash p e = subst T (sym (ap is_zero p) ∙ e) tt

pub value-one : (c a : ℤ) → c *ℤ pos 1 +ℤ a ≡ c +ℤ a
value-one c a = lia-eq (c ∷ a ∷ []) [] (search lin depth 30) (omega arith)
