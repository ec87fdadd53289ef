-- Rules tightened (document 02, request 3): "With g the common divisor of its coefficients, if g is over 1, an inequality is divided by g
-- with its constant rounded down; an equality is divided if g divides its constant, else its candidate is dropped, its basic set
-- contributes nothing, or, joining working rules, it ends the cut with the pieces so far." An equality of that 'else' is void here.
use Rattle.std.specs.Prelude.{Bool, false, not, cond, List, [], ◌∷◌, ◌++◌, map, ℕ, ◌%◌, ℤ, nat_abs, ltb, eqb}
use Rattle.model.specs.Lists.{any}
use Rattle.model.specs.Sets.{floor_div, Kind, equality, inequality, Constraint, BasicSet}
use Rattle.feasibility.specs.Tableau.{common_divisor}

-- "the common divisor of its coefficients", those of axes and those of divisions; 0 where all are 0
abbrev pub content : Constraint → ℕ
content r = common_divisor (r.axes ++ r.divisions)

-- "if g is over 1"
abbrev pub divisible : Constraint → Bool
divisible r = ltb 1 (content r)

abbrev pub undivided : Kind → ℕ → ℤ → Bool
undivided equality g z = not (eqb (nat_abs z % g) 0)
undivided inequality g z = false

-- "else": an equality whose constant g does not divide
abbrev pub void : Constraint → Bool
void r = cond (divisible r) (undivided r.kind (content r) r.constant) false

-- coefficients divided, which comes out even where g divides them; the constant rounded down
abbrev pub divided_down : ℕ → Constraint → Constraint
divided_down g r = record { kind = r.kind; number = r.number; constant = floor_div r.constant g; axes = map (λ (z : ℤ). floor_div z g) r.axes; divisions = map (λ (z : ℤ). floor_div z g) r.divisions }

-- "Rules with all coefficients 0 remain": their g is 0. What a void rule would be is used nowhere
abbrev pub tight : Constraint → Constraint
tight r = cond (divisible r) (divided_down (content r) r) r

-- "The bounds of divisions are not tightened."
abbrev pub tightened : BasicSet → BasicSet
tightened b = record { divisions = b.divisions; constraints = map tight b.constraints }

-- the basic set tightened, or "its basic set contributes nothing"
abbrev pub solvable : BasicSet → List BasicSet
solvable b = cond (any void b.constraints) [] (tightened b ∷ [])
