use Rattle.std.proofs.Common.{ap, ◌∙◌, pos}
use Rattle.std.specs.Prelude.{ℤ}
use Rattle.wide.specs.Wide.{value_of}
use Rattle.std.specs.Int.Signed.{lt_z}
use Rattle.wide_tableau.proofs.Signs.{neg-lt}
use Rattle.wide_tableau.proofs.search.is_positive.Goals as goal

pub returns : goal.returns
returns c = c.is_negative.ensures ∙ ap (λ (z : ℤ). lt_z z (pos 0)) c.negate.ensures.0 ∙ neg-lt (value_of c.args.x)
