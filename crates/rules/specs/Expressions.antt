-- An expression's numbers as the calls take them (document 02, request 11).
use Rattle.std.specs.Prelude.{◌&&◌, List, [], ◌∷◌, ℕ, ℤ}
use Rattle.model.specs.Lists.{all}
use Rattle.model.specs.Refusals.{out_of_range, not_absent}
use Rattle.model.specs.Sets.{inequality, Constraint, absent}
use Rattle.codec.specs.Bytes.{coefficient, first_failing}
use Rattle.rules.specs.declared.Expression.{Expression}

-- "one expression written as an inequality's numbers"
abbrev pub expression_by : ℤ → List ℤ → List ℤ → Constraint
expression_by z a d = record { kind = inequality; number = 0; constant = z; axes = a; divisions = d }

abbrev pub expression_of : Expression → Constraint
expression_of e = expression_by e.constant e.axes e.divisions

-- "its own 7 and 8", over n axes and m divisions
abbrev pub numbers_refusal : ℕ → ℕ → Constraint → ℕ
numbers_refusal n m e =
    first_failing ((all coefficient e.axes && all coefficient e.divisions, out_of_range) ∷ (absent n e.axes && absent m e.divisions, not_absent) ∷ [])
