-- The prefixes that a first-point search tests, one by one (document 01, "Asking": "Prefixes x1, x1 x2, .. are walked in dictionary order,
-- each axis upward .. The search goes below passing prefixes only", and no further than the first point).
-- `walk` of specs/Search counts them; proofs/Search_tallied has that its tally is their number.
use Rattle.std.specs.Prelude.{Bool, true, false, cond, List, [], ◌∷◌, ◌++◌, ℕ, zero, suc, ℤ, pos, ◌+ℤ◌}
use Rattle.std.proofs.Math.Option.{Option, none, some}
use Rattle.model.specs.Sets.{Set}
use Rattle.enumeration.specs.Search.{Interval, passes, width, walk, upright}

-- p with each of k values upward from x; below one that passes its own, and nothing more once a point is found
abbrev pub tests_from : (ℤ → Bool) → (ℤ → Option (List ℤ)) → (ℤ → List (List ℤ)) → List ℤ → ℕ → ℤ → List (List ℤ)
tests_from ok found below p zero x = []
tests_from ok found below p (suc k) x =
    (p ++ (x ∷ []))
    ∷ elim (ok x) [
      | false ↦ tests_from ok found below p k (x +ℤ pos 1)
      | true ↦ below x ++ elim (found x) [ some q ↦ [] | none ↦ tests_from ok found below p k (x +ℤ pos 1) ]
    ]

-- the prefixes tested below p, with the sides that are open
unfoldable pub tests : Set → List ℤ → List Interval → List (List ℤ)
tests s p [] = []
tests s p (b ∷ bs) =
    tests_from (λ (x : ℤ). passes s (p ++ (x ∷ [])) bs) (λ (x : ℤ). (walk s (p ++ (x ∷ [])) bs).found) (λ (x : ℤ). tests s (p ++ (x ∷ [])) bs) p (width b) b.low

-- those of a search; none where a low is over its high (02, request 7)
abbrev pub tested_in : Set → List Interval → List (List ℤ)
tested_in s box = cond (upright box) (tests s [] box) []
