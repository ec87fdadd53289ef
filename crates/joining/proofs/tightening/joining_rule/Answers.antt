use Rattle.std.proofs.Common.{◌≡◌, ◌∙◌, sym, ap, Option, Some, None}
use Rattle.std.specs.Option.{unwrap_or}
use Rattle.model.specs.Values.{constraint_of}
use Rattle.model.specs.declared.Constraint.{Constraint as Stored}
use Rattle.joining.specs.Joining.{reduced_of, Reduces}
use Rattle.joining.proofs.Dividing.{reduced-some, reduced_none, unit-reduced}
use Rattle.joining.proofs.tightening.joining_rule.Goals as goal

-- moving leaves the axes' coefficients
pub returns-then-unit_in : goal.returns-then-unit_in
returns-then-unit_in c = c.moved-rule.ensures ∙ unit-reduced _ (sym c.unit_in.ensures ∙ c.if-unit_in.true)

pub returns : goal.returns
returns c = rw c.unwrap_or.ensures (at c.moved-rule.result _ c.reduce.ensures ∙ ap reduced_of c.moved-rule.ensures)
  where
    -- as it is where it is void, else tightened
    at : (r : Stored) (d : Option Stored) → Reduces (constraint_of r) d
        → constraint_of (unwrap_or d r) ≡ reduced_of (constraint_of r)
    at r None e = reduced_none (constraint_of r) (sym e.void)
    at r (Some t) e = reduced-some (constraint_of r) (constraint_of t) (sym e.void) e.rule
