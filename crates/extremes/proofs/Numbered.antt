-- The extreme value over one basic set of a set's bytes. Assumes nothing.
use mathlib.Core.Path.{◌≡◌, refl, sym, ap, ◌∙◌}
use mathlib.Core.List.{List}
use mathlib.Core.Option.{none}
use Prim.Native.Nat.{ℕ, zero, suc, ◌+◌, ◌-◌, ◌≤◌, ◌<◌}
use lib.IntN.{ℤ}
use lib.ListN.{length}
use Rattle.model.specs.Sets as S
use Rattle.model.specs.Sets.{Set}
use Rattle.model.specs.Values.{basic_set_of}
use Rattle.model.specs.declared.BasicSet.{BasicSet}
use Rattle.codec.specs.Bytes.{Answer, refused, gives, decode, number}
use Rattle.codec.specs.Places.{set_from, Decoded}
use Rattle.codec.specs.Parts.{Started}
use Rattle.codec.proofs.Boundaries.{decode_is}
use Rattle.simplex.specs.Table.{Valid}
use Rattle.simplex.proofs.Filled.{divisions-long}
use Rattle.carrying.specs.Answers.{numbered}
use Rattle.carrying.proofs.Asked.{numbered-none, numbered-some}
use Rattle.optimum.specs.Value.{Extreme, empty, extreme_of}
use Rattle.rules.specs.Expressions.{numbers_refusal}
use Rattle.extremes.specs.Answers.{extreme_numbered, extreme_decoded, extreme_bytes}

-- ---- the expression's own numbers

-- the answer x, unless one of them is refused
abbrev unless : Answer Extreme → ℕ → Answer Extreme
unless x m = elim m [ zero ↦ x | suc m ↦ refused (suc m) ]

own-refused : (x : Answer Extreme) (m : ℕ) → (m ≡ 0 → ⊥) → refused m ≡ unless x m
own-refused x zero h = absurd (h refl)
own-refused x (suc m) h = refl

-- none such: the expression is not read
pub none-empty : (z : ℤ) (n : ℕ) (e : S.Constraint) → extreme_numbered z n none e ≡ gives empty
none-empty z n e = refl

module _ (z : ℤ) (n : ℕ) (s : List ℕ) (e : S.Constraint) where
  pub asked-refused : (k r : ℕ) → r ≡ number (decode n s) → (r ≡ 0 → ⊥) → refused r ≡ extreme_bytes z n s k e
  unfolding extreme_bytes
  asked-refused k r q h = at (decode n s) q
    where
      at : (a : Answer Set) → r ≡ number a → refused r ≡ extreme_decoded z n a k e
      at (refused m) q = ap refused q
      at (gives a) q = absurd (h q)

  module _ (a : number (decode n s) ≡ 0) where
    asked_is : (k : ℕ) → extreme_bytes z n s k e ≡ extreme_numbered z n (numbered (set_from s 0) k) e
    unfolding extreme_bytes
    asked_is k = ap (λ d. extreme_decoded z n d k e) (decode_is n s a)

    pub asked-zero : gives empty ≡ extreme_bytes z n s 0 e
    asked-zero = sym (asked_is 0 ∙ none-empty z n e)

    module _ (k : ℕ) (h : k ≡ 0 → ⊥) (at : ℕ) (st : Started s (k - 1) at) where
      pub asked-none : length s ≤ at → gives empty ≡ extreme_bytes z n s k e
      asked-none l = sym (asked_is k ∙ ap (λ o. extreme_numbered z n o e) (numbered-none n s a k h at st l) ∙ none-empty z n e)

      module _ (l : at < length s) (b : BasicSet) (d : Decoded s (at + 1) b) where
        abbrev value : Answer Extreme
        value = gives (extreme_of z (basic_set_of b) e)

        valid : Valid b
        valid = record { divs = d.divs; cons = d.cons; divisions = d.divisions; constraints = d.constraints }

        asked-some : extreme_bytes z n s k e ≡ unless value (numbers_refusal n b.divs e)
        asked-some =
            asked_is k ∙ ap (λ o. extreme_numbered z n o e) (numbered-some n s a k h at st l b d)
            ∙ ap (λ j. unless value (numbers_refusal n j e)) (divisions-long b valid)

        pub asked-own : (r : ℕ) → r ≡ numbers_refusal n b.divs e → (r ≡ 0 → ⊥) → refused r ≡ extreme_bytes z n s k e
        asked-own r q u = own-refused value r u ∙ ap (unless value) q ∙ sym asked-some

        pub asked-value : numbers_refusal n b.divs e ≡ 0 → gives (extreme_of z (basic_set_of b) e) ≡ extreme_bytes z n s k e
        asked-value q = ap (unless value) (sym q) ∙ sym asked-some
