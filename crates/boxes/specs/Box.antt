-- A box as a set, and its points that are not in a set (document 02, 5: "the points outside it are found by searching the difference of
-- the box and the set. The box is axis − low ≥ 0, high − axis ≥ 0, axis by axis").
use Rattle.std.specs.Prelude.{Bool, cond, List, [], ◌∷◌, ℕ, suc, ℤ, pos, negsuc, neg_ℤ, take, replicate, set}
use Rattle.model.specs.Limits.{most_axes, most_divisions}
use Rattle.model.specs.Refusals.{bad_point}
use Rattle.model.specs.Sets.{inequality, Constraint, BasicSet, Set}
use Rattle.codec.specs.Bytes.{Answer, refused, decode}
use Rattle.algebra.specs.Cut.{keeps, difference, difference_fits}
use Rattle.algebra.specs.Operations.{result, on_one}
use Rattle.enumeration.specs.Search.{box_fits}

-- k + c·(axis i) ≥ 0, axes from 0; no rule of the mine's rulebook, so its number is 0
abbrev pub side_rule : ℕ → ℤ → ℤ → Constraint
side_rule i c k = record { kind = inequality; number = 0; constant = k; axes = set (replicate most_axes (pos 0)) i c; divisions = replicate most_divisions (pos 0) }

-- "axis − low ≥ 0, high − axis ≥ 0"
abbrev pub low_rule : ℕ → ℤ → Constraint
low_rule i l = side_rule i (pos 1) (neg_ℤ l)

abbrev pub high_rule : ℕ → ℤ → Constraint
high_rule i h = side_rule i (negsuc 0) h

-- "axis by axis", from axis i on
abbrev pub box_rules : ℕ → List ℤ → List ℤ → List Constraint
box_rules i [] hs = []
box_rules i (l ∷ ls) [] = []
box_rules i (l ∷ ls) (h ∷ hs) = low_rule i l ∷ high_rule i h ∷ box_rules (suc i) ls hs

-- the box of n axes as a basic set
abbrev pub box_basic : ℕ → List ℤ → List ℤ → BasicSet
box_basic n ls hs = record { divisions = []; constraints = box_rules 0 (take n ls) (take n hs) }

-- "the difference of the box and the set", and its limits (refusal 10)
unfoldable pub outside : ℕ → List ℤ → List ℤ → Set → Set
outside n ls hs s = difference keeps (box_basic n ls hs ∷ []) s

abbrev pub outside_fits : ℕ → List ℤ → List ℤ → Set → Bool
outside_fits n ls hs s = difference_fits keeps (box_basic n ls hs ∷ []) s

-- its bytes, or 10, or 11
abbrev pub outside_result : ℕ → ℕ → List ℤ → List ℤ → Set → Answer (List ℕ)
outside_result n room ls hs s = result (outside_fits n ls hs s) room (outside n ls hs s)

-- on the bytes of the set: its own numbers, 12 of the box, 10, 11
unfoldable pub outside_bytes : ℕ → ℕ → List ℕ → List ℤ → List ℤ → Answer (List ℕ)
outside_bytes n room a ls hs = on_one (λ s. cond (box_fits n ls hs) (outside_result n room ls hs s) (refused bad_point)) (decode n a)
