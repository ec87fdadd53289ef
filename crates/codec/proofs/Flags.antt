-- Eight numbers looked at with a flag, as the check does, and the table that says where there may be one.
use mathlib.Core.Path.{◌≡◌, refl, sym, ap, ap₂, ◌∙◌}
use mathlib.Core.Bool.{Bool, true, false, ◌&&◌}
use mathlib.Core.List.{List}
use mathlib.Core.Logic.{⊎_elim}
use Prim.Native.Nat.{ℕ, zero, suc, ◌+◌, ◌-◌, ◌*◌, ◌≤◌, ◌<◌}
use native.Mathlib.Omega.{arith}
use lib.IntN.{ℤ}
use lib.ListN.{take, drop, get_or}
use lib.Dec.{leb}
use Rattle.integers.specs.Part.{lt-or-le}
use Rattle.model.specs.Lists.{all}
use Rattle.model.specs.Sets.{is_zero}
use Rattle.codec.specs.Bytes.{value_of, signed, signed_list}
use Rattle.codec.specs.Checking.{bits_allowed}
use Rattle.model.proofs.Count.{and-true}
use borrow.Author.Tests.{le-leb}
use Rattle.codec.proofs.Parsing.{all_more, zero-is}

module _ (f : ℤ → Bool) (s : List ℕ) (p : ℕ) where
  -- the numbers from place i of the eight on
  abbrev pub from : ℕ → Bool
  from i = all f (signed_list (8 - i) (drop (p + 2 * i) s))

  pub from_start : from 0 ≡ all f (signed_list 8 (drop p s))
  from_start = let e : p + 2 * 0 ≡ p = omega arith in ap (λ (q : ℕ). all f (signed_list 8 (drop q s))) e

  pub from_end : (ok : Bool) (i : ℕ) → 8 ≤ i → (ok && from i) ≡ ok
  from_end true i h = let e : 8 - i ≡ 0 = omega arith in ap (λ (j : ℕ). all f (signed_list j (drop (p + 2 * i) s))) e
  from_end false i h = refl

  module _ (i v : ℕ) (h : i < 8) (e : v ≡ value_of (take 2 (drop (p + 2 * i) s))) where
    one : from i ≡ (f (signed 2 v) && from (i + 1))
    one =
        let a : 8 - i - 1 ≡ 8 - (i + 1) = omega arith in let b : p + 2 * i + 2 ≡ p + 2 * (i + 1) = omega arith in
        all_more f (8 - i) (p + 2 * i) s (λ z. omega arith)
        ∙ ap₂ (λ (w : ℕ) (t : Bool). f (signed 2 w) && t) (sym e) (ap₂ (λ (j q : ℕ). all f (signed_list j (drop q s))) a b)

    pub passed : (ok : Bool) → f (signed 2 v) ≡ true → (ok && from i) ≡ (ok && from (i + 1))
    passed ok y = ap (λ (t : Bool). ok && t) (one ∙ ap (λ (t : Bool). t && from (i + 1)) y)

    -- the flag with number i looked at, and those behind it
    pub looked : (ok b : Bool) → b ≡ f (signed 2 v) → ((ok && b) && from (i + 1)) ≡ (ok && from i)
    looked true b y = ap (λ (t : Bool). t && from (i + 1)) y ∙ sym one
    looked false b y = refl

-- ---- absent places

there : (k : ℕ) → k < 8 → get_or bits_allowed k 0 ≡ 65535
there zero h = refl
there (suc zero) h = refl
there (suc (suc zero)) h = refl
there (suc (suc (suc zero))) h = refl
there (suc (suc (suc (suc zero)))) h = refl
there (suc (suc (suc (suc (suc zero))))) h = refl
there (suc (suc (suc (suc (suc (suc zero)))))) h = refl
there (suc (suc (suc (suc (suc (suc (suc zero))))))) h = refl
there (suc (suc (suc (suc (suc (suc (suc (suc k)))))))) h = absurd (omega arith)

none : (k : ℕ) → k < 8 → get_or bits_allowed (8 + k) 0 ≡ 0
none zero h = refl
none (suc zero) h = refl
none (suc (suc zero)) h = refl
none (suc (suc (suc zero))) h = refl
none (suc (suc (suc (suc zero)))) h = refl
none (suc (suc (suc (suc (suc zero))))) h = refl
none (suc (suc (suc (suc (suc (suc zero)))))) h = refl
none (suc (suc (suc (suc (suc (suc (suc zero))))))) h = refl
none (suc (suc (suc (suc (suc (suc (suc (suc k)))))))) h = absurd (omega arith)

-- the first absent place from i on
abbrev pub later : ℕ → ℕ → ℕ
later n i = n + (i - n)

module _ (s : List ℕ) (p n i v : ℕ) (m : n ≤ 8) (h : i < 8) (e : v ≡ value_of (take 2 (drop (p + 2 * i) s))) (small : v < 65536) where
  step : (a b : ℕ) (ok : Bool) → a ≡ b → (ok && from is_zero s p a) ≡ (ok && from is_zero s p b)
  step a b ok q = ap (λ (j : ℕ). ok && from is_zero s p j) q

  place-there : i < n → get_or bits_allowed (8 - n + i) 0 ≡ 65535
  place-there l = there (8 - n + i) (omega arith)

  place-absent : n ≤ i → get_or bits_allowed (8 - n + i) 0 ≡ 0
  place-absent l = let e : 8 - n + i ≡ 8 + (i - n) = omega arith in ap (λ (k : ℕ). get_or bits_allowed k 0) e ∙ none (i - n) (omega arith)

  -- an absent place is looked at as 0 or not, any other not at all
  pub looked-absent : (ok : Bool) → ((ok && leb v (get_or bits_allowed (8 - n + i) 0)) && from is_zero s p (later n (i + 1))) ≡ (ok && from is_zero s p (later n i))
  looked-absent ok =
      ⊎_elim (λ a. let z = place-there a in
      ap (λ (b : Bool). (ok && b) && from is_zero s p (later n (i + 1))) (le-leb v _ (omega arith)) ∙ ap (λ (b : Bool). b && from is_zero s p (later n (i + 1))) (and-true ok) ∙ step (later n (i + 1)) (later n i) ok (omega arith))
      (λ b. step (later n (i + 1)) (i + 1) _ (omega arith)
      ∙ looked is_zero s p i v h e ok _ (ap (leb v) (place-absent b) ∙ zero-is v small) ∙ step i (later n i) ok (omega arith))
      (lt-or-le i n)
