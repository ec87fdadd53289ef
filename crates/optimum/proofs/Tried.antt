-- Greatest and least on small basic sets, by computation.
use mathlib.Core.Path.{◌≡◌, refl}
use mathlib.Core.List.{List, [], ◌∷◌}
use lib.IntN.{ℤ, pos, negsuc}
use Rattle.model.specs.Sets.{Kind, equality, inequality, Constraint, BasicSet}
use Rattle.feasibility.specs.Tableau.{look, exchange, reach, narrow, bound, sorts}
use Rattle.optimum.specs.Value.{empty, unbounded, too_wide, too_long, attained, turn, aim, climb, climb_on, with_expression, extreme_of}

abbrev greatest : ℤ
greatest = negsuc 0

abbrev least : ℤ
least = pos 1

abbrev rule : Kind → ℤ → List ℤ → Constraint
rule k c a = record { kind = k; number = 0; constant = c; axes = a; divisions = [] }

abbrev ge : ℤ → List ℤ → Constraint
ge c a = rule inequality c a

abbrev same : ℤ → List ℤ → Constraint
same c a = rule equality c a

abbrev over : List Constraint → BasicSet
over rs = record { divisions = []; constraints = rs }

-- 7 − 2x ≥ 0: x is at most 7/2, and of any size below
half : (extreme_of greatest (over (ge (pos 7) (negsuc 1 ∷ []) ∷ [])) (ge (pos 0) (pos 1 ∷ [])) ≡ attained (pos 7) 2)
    × (extreme_of least (over (ge (pos 7) (negsuc 1 ∷ []) ∷ [])) (ge (pos 0) (pos 1 ∷ [])) ≡ unbounded)
unfolding extreme_of climb climb_on aim reach look exchange
half = (refl, refl)

-- 5 − x, 7 − x − 2y and y are ≥ 0: the last row says 12 over 2
six : extreme_of greatest (over (ge (pos 5) (negsuc 0 ∷ []) ∷ ge (pos 7) (negsuc 0 ∷ negsuc 1 ∷ []) ∷ ge (pos 0) (pos 0 ∷ pos 1 ∷ []) ∷ [])) (ge (pos 0) (pos 1 ∷ pos 1 ∷ [])) ≡ attained (pos 6) 1
unfolding extreme_of climb climb_on aim reach look exchange
six = refl

-- the last row says −21 over 9, with entries −9, −1 and −3
unreduced : extreme_of greatest
    (over
    (same (negsuc 3) (negsuc 2 ∷ negsuc 0 ∷ pos 2 ∷ [])
    ∷ ge (pos 0) (pos 3 ∷ [])
    ∷ ge (pos 0) (pos 3 ∷ negsuc 1 ∷ negsuc 0 ∷ [])
    ∷ ge (pos 2) (pos 2 ∷ negsuc 2 ∷ negsuc 2 ∷ [])
    ∷ ge (negsuc 0) (negsuc 2 ∷ negsuc 1 ∷ pos 2 ∷ [])
    ∷ []))
    (ge (pos 1) (pos 2 ∷ pos 2 ∷ negsuc 0 ∷ []))
    ≡ attained (negsuc 6) 3
unfolding extreme_of climb climb_on aim reach look exchange
unreduced = refl

-- no rules: a free column grows or falls without end, and an expression without variables has its constant
free : (extreme_of greatest (over []) (ge (pos 0) (pos 1 ∷ [])) ≡ unbounded) × (extreme_of least (over []) (ge (pos 0) (pos 1 ∷ [])) ≡ unbounded) × (extreme_of least (over []) (ge (negsuc 3) []) ≡ attained (negsuc 3) 1)
unfolding extreme_of climb climb_on aim reach look exchange
free = (refl, refl, refl)

-- three rows stop x after the same move
ties : extreme_of greatest
    (over
    (ge (pos 4) (negsuc 0 ∷ negsuc 0 ∷ [])
    ∷ ge (pos 4) (negsuc 1 ∷ negsuc 0 ∷ [])
    ∷ ge (pos 4) (negsuc 0 ∷ [])
    ∷ ge (pos 0) (pos 1 ∷ [])
    ∷ ge (pos 0) (pos 0 ∷ pos 1 ∷ [])
    ∷ []))
    (ge (pos 3) (pos 1 ∷ pos 1 ∷ []))
    ≡ attained (pos 7) 1
unfolding extreme_of climb climb_on aim reach look exchange
ties = refl

-- 4 − x ≥ 0 twice: both rows stop x after 4, and the lower-numbered leaves
tied : aim (sorts (over (ge (pos 4) (negsuc 0 ∷ []) ∷ ge (pos 4) (negsuc 0 ∷ []) ∷ []))) greatest 2
    (with_expression (over (ge (pos 4) (negsuc 0 ∷ []) ∷ ge (pos 4) (negsuc 0 ∷ []) ∷ [])) (ge (pos 0) (pos 1 ∷ [])))
    ≡ turn 0 0
unfolding aim
tied = refl

-- x − y = 0 stands at 0 and stops x at once, though it would grow; then y goes on until 5 − y ≥ 0 stops it
equalities : (extreme_of greatest (over (same (pos 0) (pos 1 ∷ negsuc 0 ∷ []) ∷ ge (pos 5) (pos 0 ∷ negsuc 0 ∷ []) ∷ [])) (ge (pos 0) (pos 1 ∷ [])) ≡ attained (pos 5) 1)
    × (extreme_of greatest (over (same (negsuc 11) (pos 2 ∷ pos 3 ∷ []) ∷ ge (pos 0) (pos 0 ∷ pos 1 ∷ []) ∷ [])) (ge (pos 1) (pos 1 ∷ [])) ≡ attained (pos 7) 1)
unfolding extreme_of climb climb_on aim reach look exchange
equalities = (refl, refl)

none_at_all : extreme_of greatest (over (ge (negsuc 0) (pos 1 ∷ []) ∷ ge (pos 0) (negsuc 0 ∷ []) ∷ [])) (ge (pos 0) (pos 1 ∷ [])) ≡ empty
unfolding extreme_of climb climb_on aim reach look exchange
none_at_all = refl

-- q = floor(x / 10) and 15 − x ≥ 0: with fractions q may be x / 10
divided : extreme_of greatest (record { divisions = record { divisor = 10; constant = pos 0; axes = pos 1 ∷ [] } ∷ []; constraints = ge (pos 15) (negsuc 0 ∷ []) ∷ [] }) (record { kind = inequality; number = 0; constant = pos 0; axes = []; divisions = pos 1 ∷ [] })
    ≡ attained (pos 3) 2
unfolding extreme_of climb climb_on aim reach look exchange
divided = refl

-- a bound of 2 ^ 63 is wide, though unbounded is said before wide; one below it the tableau is carried and has its value
far : (extreme_of greatest (over (ge (pos 9223372036854775808) (negsuc 0 ∷ []) ∷ [])) (ge (pos 0) (pos 1 ∷ [])) ≡ too_wide)
    × (extreme_of least (over (ge (pos 9223372036854775808) (negsuc 0 ∷ []) ∷ [])) (ge (pos 0) (pos 1 ∷ [])) ≡ unbounded)
    × (extreme_of greatest (over (ge (pos 9223372036854775807) (negsuc 0 ∷ []) ∷ [])) (ge (pos 0) (pos 1 ∷ [])) ≡ attained (pos 9223372036854775807) 1)
unfolding extreme_of climb climb_on aim reach look exchange
far = (refl, refl, refl)

-- with no pivot left: unbounded is said before long
last : (climb (narrow (bound 64)) (sorts (over [])) greatest 0 0 (with_expression (over []) (ge (pos 0) (pos 1 ∷ []))) ≡ unbounded)
    × (climb (narrow (bound 64)) (sorts (over (ge (pos 4) (negsuc 0 ∷ []) ∷ []))) greatest 1 0 (with_expression (over (ge (pos 4) (negsuc 0 ∷ []) ∷ [])) (ge (pos 0) (pos 1 ∷ []))) ≡ too_long)
unfolding climb aim
last = (refl, refl)

-- Beale's circle of the largest-coefficient rule, times 100: it ends
beale : extreme_of least
    (over
    (ge (pos 0) (negsuc 24 ∷ pos 6000 ∷ pos 4 ∷ negsuc 899 ∷ [])
    ∷ ge (pos 0) (negsuc 49 ∷ pos 9000 ∷ pos 2 ∷ negsuc 299 ∷ [])
    ∷ ge (pos 1) (pos 0 ∷ pos 0 ∷ negsuc 0 ∷ [])
    ∷ ge (pos 0) (pos 1 ∷ [])
    ∷ ge (pos 0) (pos 0 ∷ pos 1 ∷ [])
    ∷ ge (pos 0) (pos 0 ∷ pos 0 ∷ pos 1 ∷ [])
    ∷ ge (pos 0) (pos 0 ∷ pos 0 ∷ pos 0 ∷ pos 1 ∷ [])
    ∷ []))
    (ge (pos 0) (negsuc 74 ∷ pos 15000 ∷ negsuc 1 ∷ pos 600 ∷ []))
    ≡ attained (negsuc 4) 1
unfolding extreme_of climb climb_on aim reach look exchange
beale = refl
