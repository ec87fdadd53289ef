-- The pivots of the test of the first basic set of a set's bytes.
use Rattle.std.proofs.Common.{◌≡◌, ℕ, ◌+◌, ◌<◌, ◌≤◌, List, length, refl, sym, ap, ◌∙◌, arith}
use Rattle.model.specs.Sets.{Set}
use Rattle.model.specs.Values.{basic_set_of}
use Rattle.model.specs.declared.BasicSet.{BasicSet}
use Rattle.codec.specs.Bytes.{Answer, refused, gives, decode, number}
use Rattle.codec.specs.Places.{Decoded}
use Rattle.codec.specs.Parts.{Started}
use Rattle.codec.proofs.Boundaries.{decode_is, turn}
use Rattle.feasibility.specs.Tableau.{pivots_made}
use Rattle.carrying.specs.Answers.{foremost, tested, test_in, test_bytes}
use Rattle.carrying.proofs.Asked.{asked-none}
use Rattle.probe.specs.Numbers.{pivots_number}

-- none of bytes that are refused, or that have no basic set
pub refused-pivots : (n : ℕ) (s : List ℕ) → (number (decode n s) ≡ 0 → ⊥) → pivots_number (test_bytes n s 1) ≡ 0
unfolding test_bytes
refused-pivots n s z = at (decode n s) z
  where
    at : (a : Answer Set) → (number a ≡ 0 → ⊥) → pivots_number (test_in a 1) ≡ 0
    at (refused m) z = refl
    at (gives a) z = absurd (z refl)

pub none-pivots : (n : ℕ) (s : List ℕ) → number (decode n s) ≡ 0 → (at : ℕ) → Started s 0 at → length s ≤ at → pivots_number (test_bytes n s 1) ≡ 0
none-pivots n s z at st l = sym (ap pivots_number (asked-none n s z 1 (λ e. omega arith) at st l))

pub first-pivots : (n : ℕ) (s : List ℕ) → number (decode n s) ≡ 0 → (at : ℕ) → Started s 0 at → at < length s
    → (b : BasicSet) → Decoded s (at + 1) b → pivots_made (basic_set_of b) ≡ pivots_number (test_bytes n s 1)
unfolding test_bytes
first-pivots n s z at st l b d =
    ap (λ (t : Set). pivots_number (gives (tested (foremost t))))
    (sym (turn st.n s at st.there l b d).set ∙ st.set)
    ∙ ap (λ (a : Answer Set). pivots_number (test_in a 1)) (sym (decode_is n s z))
