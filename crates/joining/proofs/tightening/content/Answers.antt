use Rattle.std.proofs.Common.{ℕ, ap, ◌∙◌, sym, lit≤}
use Rattle.joining.specs.Joining.{common_from}
use Rattle.joining.proofs.Dividing.{unit-first, unit-last, common-parts, common-zero}
use Rattle.joining.proofs.tightening.content.Goals as goal
use Rattle.joining.proofs.tightening.content.Goals.{then-unit_in-via-then-unit_in, then-unit_in-via-else-unit_in+then-unit_in-2}

pub returns-then-unit_in : goal.returns-then-unit_in
returns-then-unit_in c =
    elim c.then-unit_in.branch [
      | then-unit_in-via-then-unit_in w ↦ record { is = unit-first c.args.a c.args.d (sym c.unit_in.ensures ∙ w.if-unit_in.true); few = lit≤ tt }
      | then-unit_in-via-else-unit_in+then-unit_in-2 w ↦ record { is = unit-last c.args.a c.args.d (sym w.unit_in-else-unit_in.ensures ∙ w.if-unit_in-2.true); few = lit≤ tt }
    ]

pub returns : goal.returns
returns c =
    record {
      is = c.common-2.ensures.0 ∙ ap (λ (g : ℕ). common_from g c.args.a) (c.common.ensures.0 ∙ common-zero c.args.d) ∙ common-parts c.args.a c.args.d;
      few = c.common-2.ensures.1;
    }
