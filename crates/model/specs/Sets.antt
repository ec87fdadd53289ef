-- Points, divisions, constraints, basic sets and sets (document 01, "Points, rules, sets").
-- Coefficients have 8 places, a point has as many coordinates as there are axes; what a list lacks counts as 0.
use Rattle.std.specs.Prelude.{Bool, false, ◌&&◌, List, [], ◌∷◌, ◌++◌, map, ℕ, zero, suc, ◌/◌, ◌<◌, ℤ, pos, negsuc, neg_ℤ, ◌+ℤ◌, ◌-ℤ◌, ◌*ℤ◌, eqb, ltb, length, drop}
use Rattle.std.specs.Int.Signed.{non_neg}
use Rattle.std.proofs.Common.{lit<}
use Rattle.model.specs.Lists.{all, any}

-- a₁·x₁ + a₂·x₂ + .., as far as both lists go
abbrev pub dot : List ℤ → List ℤ → ℤ
dot [] xs = pos 0
dot (a ∷ us) [] = pos 0
dot (a ∷ us) (x ∷ xs) = a *ℤ x +ℤ dot us xs

-- floor(z / d), rounded towards minus infinity: of −(a + 1) it is −(a / d + 1)
abbrev pub floor_div : ℤ → ℕ → ℤ
floor_div (pos a) d = pos (a / d)
floor_div (negsuc a) d = negsuc (a / d)

-- "A division is q = floor((b₁·x₁ + .. + bₙ·xₙ + c) / d)"
pub record Division : Type 0 where
  pub divisor : ℕ
  pub constant : ℤ
  pub axes : List ℤ

pub data Kind : Type 0 where
  equality inequality : Kind

-- a rule: "an expression, constant plus coefficients times axes and divisions, that is = 0 (equality) or ≥ 0 (inequality)"
pub record Constraint : Type 0 where
  pub kind : Kind
  -- "the number in the mine's rulebook", 0 for none (document 02, request 6)
  pub number : ℕ
  pub constant : ℤ
  pub axes : List ℤ
  pub divisions : List ℤ

pub record BasicSet : Type 0 where
  pub divisions : List Division
  pub constraints : List Constraint

-- "A set is a list of .. basic sets"
abbrev pub Set : Type 0
Set = List BasicSet

-- ---- integer points

abbrev pub quotient : List ℤ → Division → ℤ
quotient x e = floor_div (e.constant +ℤ dot e.axes x) e.divisor

abbrev pub quotients : List Division → List ℤ → List ℤ
quotients ds x = map (quotient x) ds

abbrev pub is_zero : ℤ → Bool
is_zero (pos n) = eqb n 0
is_zero (negsuc n) = false

-- a value is = 0, or ≥ 0
abbrev pub meets : Kind → ℤ → Bool
meets equality z = is_zero z
meets inequality z = non_neg z

-- the value of a constraint, times D, at numerators x and q over the denominator D; over 1: at the whole numbers x and q
abbrev pub value : ℤ → List ℤ → List ℤ → Constraint → ℤ
value D x q r = r.constant *ℤ D +ℤ (dot r.axes x +ℤ dot r.divisions q)

abbrev pub holds : ℤ → List ℤ → List ℤ → Constraint → Bool
holds D x q r = meets r.kind (value D x q r)

-- "all rules hold with the divisions worked out from the point"
abbrev pub in_constraints : List ℤ → List Division → List Constraint → Bool
in_constraints x ds rs = all (holds (pos 1) x (quotients ds x)) rs

abbrev pub in_basic : List ℤ → BasicSet → Bool
in_basic x b = in_constraints x b.divisions b.constraints

-- "a point is in it when it is in one of them"
abbrev pub in_set : List ℤ → Set → Bool
in_set x s = any (in_basic x) s

-- the coefficients past the first n are 0
abbrev pub absent : ℕ → List ℤ → Bool
absent n cs = all is_zero (drop n cs)

-- what each decoded basic set has: positive divisors, and no coefficient for a division that it does not have
abbrev pub well_formed : BasicSet → Bool
well_formed b =
    all (λ (e : Division). ltb 0 e.divisor) b.divisions && all (λ (r : Constraint). absent (length b.divisions) r.divisions) b.constraints

-- and, of n axes, no coefficient for an axis past the n-th
abbrev pub over_axes : ℕ → BasicSet → Bool
over_axes n b = all (λ (e : Division). absent n e.axes) b.divisions && all (λ (r : Constraint). absent n r.axes) b.constraints

-- ---- rational points ("points with fractions")

-- z at place i
abbrev pub unit : ℕ → ℤ → List ℤ
unit zero z = z ∷ []
unit (suc i) z = pos 0 ∷ unit i z

-- the two bounds of the division at place i, as constraints: numerator − d·q ≥ 0, then d·q − numerator + d − 1 ≥ 0
abbrev pub lower : ℕ → Division → Constraint
lower i e = record { kind = inequality; number = 0; constant = e.constant; axes = e.axes; divisions = unit i (neg_ℤ (pos e.divisor)) }

abbrev pub upper : ℕ → Division → Constraint
upper i e = record { kind = inequality; number = 0; constant = pos e.divisor -ℤ pos 1 -ℤ e.constant; axes = map neg_ℤ e.axes; divisions = unit i (pos e.divisor) }

abbrev pub bounds : ℕ → List Division → List Constraint
bounds i [] = []
bounds i (e ∷ es) = lower i e ∷ upper i e ∷ bounds (suc i) es

-- what a rational point has to meet, in the order of "The test for fractions": the divisions' bounds, then the constraints
abbrev pub conditions : BasicSet → List Constraint
conditions b = bounds 0 b.divisions ++ b.constraints

-- "one whole numerator for each axis and division over one positive denominator": x for the axes, q for the divisions
pub record RationalPoint : Type 0 where
  pub denominator : ℕ
  pub positive : 0 < denominator
  pub x : List ℤ
  pub q : List ℤ

-- whole numbers x and q are the numerators over 1
abbrev pub whole : List ℤ → List ℤ → RationalPoint
whole x q = record { denominator = 1; positive = lit< tt; x = x; q = q }

-- "its rules hold and each division lies between its two bounds"
abbrev pub meets_basic : RationalPoint → BasicSet → Bool
meets_basic p b = all (holds (pos p.denominator) p.x p.q) (conditions b)
