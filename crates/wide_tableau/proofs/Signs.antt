-- The tests of a sign and a size. Assumes nothing.
use mathlib.Core.Path.{◌≡◌, refl, sym, ap, ◌∙◌, subst}
use mathlib.Core.Bool.{Bool, true, false}
use mathlib.Core.List.{List, []}
use Prim.Native.Nat.{ℕ, zero, suc, ◌+◌, ◌≤◌, zero-le}
use native.Mathlib.Omega.{arith}
use borrow.Author.Tests.{lt-ltb, le-ltb}
use lib.Dec.{T, eqb, eqb-suc-zero}
use lib.ListN.{get_or, set}
use lib.Seq.{get_or-set_other}
use lib.IntN.{ℤ, pos, negsuc, neg_ℤ}
use lib.Signed.{lt_z}
use Rattle.model.specs.Sets.{is_zero}
use Rattle.wide.specs.Wide.{signed}

pub zero_is : (s : Bool) (n : ℕ) → eqb n 0 ≡ is_zero (signed s n)
zero_is false n = refl
zero_is true zero = refl
zero_is true (suc n) = eqb-suc-zero n

pub neg-lt : (z : ℤ) → lt_z (neg_ℤ z) (pos 0) ≡ lt_z (pos 0) z
neg-lt (pos zero) = refl
neg-lt (pos (suc n)) = sym (lt-ltb 0 (suc n) (omega arith))
neg-lt (negsuc n) = le-ltb (suc n) 0 zero-le

pub zero-no : (z : ℤ) → is_zero z ≡ false → z ≡ pos 0 → ⊥
zero-no z e h = let t : true ≡ false = sym (ap is_zero h) ∙ e in absurd (subst T t tt)

-- ---- a table whose rows from k on are as they were
pub record Rest (k : ℕ) (t₀ t : List (List ℕ)) : Type 0 where
  pub at : (i : ℕ) → k ≤ i → get_or t i [] ≡ get_or t₀ i []

pub rest-none : (t : List (List ℕ)) → Rest 0 t t
rest-none t = record { at = λ i h. refl }

pub rest-next : (k : ℕ) (t₀ t : List (List ℕ)) (r : List ℕ) → Rest k t₀ t → Rest (k + 1) t₀ (set t k r)
rest-next k t₀ t r h = record { at = λ i g. get_or-set_other t k i r [] (λ e. absurd (past i g e)) ∙ h.at i (less i g) }
  where
    past : (i : ℕ) → k + 1 ≤ i → i ≡ k → ⊥
    past i h e = omega arith

    less : (i : ℕ) → k + 1 ≤ i → k ≤ i
    less i h = omega arith
