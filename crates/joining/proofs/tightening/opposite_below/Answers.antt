use Rattle.std.proofs.Common.{◌∙◌, ap, sym}
use Rattle.model.specs.Values.{constraint_of}
use Rattle.algebra.specs.Cut.{below}
use Rattle.algebra.proofs.Tightened.{tight-below}
use Rattle.joining.proofs.tightening.opposite_below.Goals as goal

-- the rule is tight, and so is its opposite
pub returns-else-void : goal.returns-else-void
returns-else-void c = c.below.ensures ∙ sym (tight-below (constraint_of c.args.c) ∙ ap below (c.requires.1.tight c.if-void.false))
