use Rattle.std.proofs.Common.{◌∙◌, ap, sym}
use Rattle.model.specs.Values.{kind_is, constraint_of}
use Rattle.algebra.specs.Cut.{above}
use Rattle.algebra.proofs.Tightened.{tight-above}
use Rattle.joining.proofs.tightening.opposite_above.Goals as goal

-- the rule is tight, and so is its opposite
pub returns-else-void : goal.returns-else-void
returns-else-void c =
    let s = c.requires.2 in
    c.above.ensures ∙ sym (tight-above (constraint_of c.args.c) (ap kind_is c.requires.0) (sym s.void ∙ c.if-void.false) ∙ ap above (s.tight c.if-void.false))
