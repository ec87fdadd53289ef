-- The test at the number bound, by computation (document 01, "Worked on the board": {x − 2147483647 ≥ 0} with {−x ≥ 0} is dropped, with
-- 2147483648 it is wide at 64 bits, and dropped once carried), and a basic set that one pivot settles: the test pivots, and answers wide or long only where the steps say so.
use mathlib.Core.Path.{◌≡◌, refl}
use mathlib.Core.List.{List, [], ◌∷◌}
use lib.IntN.{ℤ, pos, negsuc}
use Rattle.model.specs.Sets.{inequality, Constraint, BasicSet}
use Rattle.feasibility.specs.Tableau.{point, dropped, wide, bound, test_at, test, look, exchange, reach, ends_at, test_ends, pivots_made, narrow, sorts, begin, built, rows_built}

-- c + a·x ≥ 0
abbrev ge : ℤ → ℤ → Constraint
ge c a = record { kind = inequality; number = 0; constant = c; axes = a ∷ []; divisions = [] }

abbrev pub over : List Constraint → BasicSet
over rs = record { divisions = []; constraints = rs }

pub bound_64 : bound 64 ≡ 2147483647
bound_64 = refl

pub far-dropped : test (over (ge (negsuc 2147483646) (pos 1) ∷ ge (pos 0) (negsuc 0) ∷ [])) ≡ dropped
unfolding test_ends ends_at reach look exchange
far-dropped = refl

pub far-wide : test_at 64 (over (ge (negsuc 2147483647) (pos 1) ∷ ge (pos 0) (negsuc 0) ∷ [])) ≡ wide
unfolding ends_at reach look exchange
far-wide = refl

-- x − 1 ≥ 0 and −x + 2 ≥ 0
pub pivoted-point : test (over (ge (negsuc 0) (pos 1) ∷ ge (pos 2) (negsuc 0) ∷ [])) ≡ point
unfolding test_ends ends_at reach look exchange
pivoted-point = refl

-- −x − 1 ≥ 0: the free column helps by falling
pub free-falls : test (over (ge (negsuc 0) (negsuc 0) ∷ [])) ≡ point
unfolding test_ends ends_at reach look exchange
free-falls = refl

pub bound-128 : bound 128 ≡ 9223372036854775807
bound-128 = refl

-- with 2147483648, wide at 64 bits, the tableau is carried, and one pivot later the intersection is dropped
pub far-carried : test (over (ge (negsuc 2147483647) (pos 1) ∷ ge (pos 0) (negsuc 0) ∷ [])) ≡ dropped
unfolding test_ends ends_at reach look exchange
far-carried = refl

pub far-carried-pivots : pivots_made (over (ge (negsuc 2147483647) (pos 1) ∷ ge (pos 0) (negsuc 0) ∷ [])) ≡ 1
unfolding test_ends ends_at reach look exchange
far-carried-pivots = refl

-- 32,767·x₁ ≥ 1, and each next axis 32,767·xₖ₊₁ ≥ 32,766·xₖ + 1: after four pivots the fifth row has 32,767⁵, wide at 128 bits too
abbrev steep : BasicSet
steep =
    over (
    rule (pos 32767 ∷ [])
    ∷ rule (negsuc 32765 ∷ pos 32767 ∷ [])
    ∷ rule (pos 0 ∷ negsuc 32765 ∷ pos 32767 ∷ [])
    ∷ rule (pos 0 ∷ pos 0 ∷ negsuc 32765 ∷ pos 32767 ∷ [])
    ∷ rule (pos 0 ∷ pos 0 ∷ pos 0 ∷ negsuc 32765 ∷ pos 32767 ∷ [])
    ∷ []
    )
  where
    rule : List ℤ → Constraint
    rule axes = record { kind = inequality; number = 0; constant = negsuc 0; axes = axes; divisions = [] }

pub far-wide-128 : (test_at 64 steep ≡ wide) × (test steep ≡ wide) × (pivots_made steep ≡ 4)
unfolding test_ends ends_at reach look exchange
far-wide-128 = (refl, refl, refl)

-- each of its exchanges, two at 64 bits and two at 128, builds its own row and the next
pub steep-built : (built (narrow (bound 64)) (sorts steep) 200 (begin steep) ≡ 4) × (rows_built steep ≡ 8)
unfolding rows_built built ends_at reach look exchange
steep-built = (refl, refl)
