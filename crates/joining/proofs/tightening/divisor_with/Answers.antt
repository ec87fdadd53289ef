use Rattle.std.proofs.Common.{ℕ, ◌∙◌, ap, nat_abs, w16}
use Rattle.std.proofs.lemmas.Int.{to_z-of_z}
use Rattle.feasibility.specs.Tableau.{gcd}
use Rattle.joining.proofs.Dividing.{same-gcd}
use Rattle.joining.proofs.tightening.divisor_with.Goals as goal

pub returns : goal.returns
returns c = c.gcd.ensures ∙ same-gcd _ _ ∙ ap (λ (n : ℕ). gcd n c.args.g) (c.from.ensures ∙ c.unsigned_abs.ensures.value ∙ ap nat_abs (to_z-of_z w16 c.args.x c.ranges.x))
