-- A rule's numbers as the calls on a state take them (document 02, request 8).
use Rattle.std.specs.Prelude.{ℕ}
use Rattle.model.specs.Sets.{Constraint}
use Rattle.model.specs.Values.{kind_is}
use Rattle.codec.specs.Bytes.{first_failing}
use Rattle.planning.specs.State.{rule_tests}
use Rattle.rules.specs.declared.Rule.{Rule}

-- a rule "as given"; a state has no use for its number
abbrev pub rule_of : Rule → Constraint
rule_of r = record { kind = kind_is r.equality; number = 0; constant = r.constant; axes = r.axes; divisions = r.divisions }

-- over n axes and k divisions, with so many rules; 0 for none
abbrev pub rule_number : ℕ → ℕ → ℕ → Constraint → ℕ
rule_number n k rules r = first_failing (rule_tests n k rules r)
