-- The prefixes that a count tests, one by one (document 02, 12: "under the search's prefix rule .., going on past each member to the end").
-- `members` of specs/Counting counts them; proofs/Count_tallied has that its tally is their number.
use Rattle.std.specs.Prelude.{Bool, true, false, cond, List, [], ◌∷◌, ◌++◌, ℕ, zero, suc, ℤ, pos, ◌+ℤ◌}
use Rattle.model.specs.Sets.{Set}
use Rattle.enumeration.specs.Search.{Interval, passes, width, upright}

-- p with each of k values upward from x, and below each that passes its own
abbrev pub tests_upward : (ℤ → Bool) → (ℤ → List (List ℤ)) → List ℤ → ℕ → ℤ → List (List ℤ)
tests_upward ok below p zero x = []
tests_upward ok below p (suc k) x =
    (p ++ (x ∷ []))
    ∷ elim (ok x) [
      | true ↦ below x ++ tests_upward ok below p k (x +ℤ pos 1)
      | false ↦ tests_upward ok below p k (x +ℤ pos 1)
    ]

-- below p, with the sides that are open
unfoldable pub tests : Set → List ℤ → List Interval → List (List ℤ)
tests s p [] = []
tests s p (b ∷ bs) = tests_upward (λ (x : ℤ). passes s (p ++ (x ∷ [])) bs) (λ (x : ℤ). tests s (p ++ (x ∷ [])) bs) p (width b) b.low

-- those of a count; none where the box is upside down
abbrev pub tested_in : Set → List Interval → List (List ℤ)
tested_in s box = cond (upright box) (tests s [] box) []
