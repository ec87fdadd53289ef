-- The test of one basic set of a set's bytes. Assumes nothing.
use mathlib.Core.Path.{◌≡◌, refl, sym, ap, ap₂, ◌∙◌}
use mathlib.Core.List.{List}
use mathlib.Core.Option.{none, some}
use Prim.Native.Nat.{ℕ, zero, suc, ◌+◌, ◌-◌, ◌≤◌, ◌<◌}
use native.Mathlib.Omega.{arith}
use lib.ListN.{length}
use Rattle.model.specs.Sets.{Set}
use Rattle.model.specs.Values.{basic_set_of}
use Rattle.model.specs.declared.BasicSet.{BasicSet}
use Rattle.codec.specs.Bytes.{Answer, refused, gives, decode, number}
use Rattle.codec.specs.Places.{set_from, Accepted, Opened, Decoded}
use Rattle.codec.specs.Parts.{Started}
use Rattle.feasibility.specs.Tableau.{rows_built}
use Rattle.codec.proofs.Boundaries.{decode_is, boundary_end, boundary-opened, turn}
use Rattle.simplex.specs.declared.Ended.{Ended}
use Rattle.std.proofs.Common.{Ok, Err, Some, None}
use Rattle.model.specs.declared.refusal.Refusal.{Refusal}
use Rattle.model.specs.Refused.{number_of}
use Rattle.codec.proofs.Refusing.{refused-by}
use Rattle.carrying.specs.Answers.{Tests, foremost, numbered, tested, test_in, test_bytes, tested_of, built_of, built_for, built_bytes}

pub asked-refused : (n : ℕ) (s : List ℕ) (k : ℕ) (r : Refusal) → number_of r ≡ number (decode n s) → tested_of (Err r) ≡ test_bytes n s k
unfolding test_bytes
asked-refused n s k r e = sym (ap (λ a. test_in a k) (refused-by r (decode n s) e))

-- and the rows built for it, with each of these laws
pub built-refused : (n : ℕ) (s : List ℕ) (k : ℕ) → (number (decode n s) ≡ 0 → ⊥) → 0 ≡ built_bytes n s k
unfolding built_bytes
built-refused n s k z = at (decode n s) z
  where
    at : (a : Answer Set) → (number a ≡ 0 → ⊥) → 0 ≡ built_for a k
    at (refused m) z = refl
    at (gives a) z = absurd (z refl)

module _ (n : ℕ) (s : List ℕ) (z : number (decode n s) ≡ 0) where
  pub accepted : Accepted s
  accepted = record { n = n; accepted = z }

  asked_is : (k : ℕ) → test_bytes n s k ≡ gives (tested (numbered (set_from s 0) k))
  unfolding test_bytes
  asked_is k = ap (λ a. test_in a k) (decode_is n s z)

  built_is : (k : ℕ) → built_bytes n s k ≡ built_of (numbered (set_from s 0) k)
  unfolding built_bytes
  built_is k = ap (λ a. built_for a k) (decode_is n s z)

  pub built-zero : 0 ≡ built_bytes n s 0
  built-zero = sym (built_is 0)

  pub asked-zero : tested_of (Ok None) ≡ test_bytes n s 0
  asked-zero = sym (asked_is 0)

  positive : (k : ℕ) → (k ≡ 0 → ⊥) → k ≡ suc (k - 1)
  positive zero h = absurd (h refl)
  positive (suc k) h = omega arith

  module _ (k : ℕ) (h : k ≡ 0 → ⊥) (at : ℕ) (st : Started s (k - 1) at) where
    numbered_is : numbered (set_from s 0) k ≡ foremost (set_from s at)
    numbered_is = ap (numbered (set_from s 0)) (positive k h) ∙ ap foremost (sym st.set)

    -- none is that far on, or it is the one decoded there
    pub numbered-none : length s ≤ at → numbered (set_from s 0) k ≡ none
    numbered-none l = numbered_is ∙ ap foremost (boundary_end s at l)

    pub asked-none : length s ≤ at → tested_of (Ok None) ≡ test_bytes n s k
    asked-none l = sym (asked_is k ∙ ap (λ o. gives (tested o)) (numbered-none l))

    pub built-none : length s ≤ at → 0 ≡ built_bytes n s k
    built-none l = sym (built_is k ∙ ap built_of (numbered-none l))

    module _ (l : at < length s) where
      pub asked-opened : Opened s (at + 1)
      asked-opened = boundary-opened st.n s at st.there l

      pub numbered-some : (b : BasicSet) → Decoded s (at + 1) b → numbered (set_from s 0) k ≡ some (basic_set_of b)
      numbered-some b d = numbered_is ∙ ap foremost (turn st.n s at st.there l b d).set

      pub asked-some : (b : BasicSet) → Decoded s (at + 1) b → (x : Ended) → Tests (basic_set_of b) x → tested_of (Ok (Some x)) ≡ test_bytes n s k
      asked-some b d x t = ap₂ (λ v m. gives (some (v, m))) t.verdict_is t.pivots_are ∙ sym (asked_is k ∙ ap (λ o. gives (tested o)) (numbered-some b d))

      pub built-some : (b : BasicSet) → Decoded s (at + 1) b → rows_built (basic_set_of b) ≡ built_bytes n s k
      built-some b d = sym (built_is k ∙ ap built_of (numbered-some b d))
