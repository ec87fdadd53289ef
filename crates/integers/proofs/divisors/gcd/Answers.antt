use Rattle.std.proofs.Common.{◌∙◌, sym, ap}
use Rattle.integers.specs.Gcd.{gcd, gcd-step, gcd-zero}
use Rattle.integers.proofs.divisors.gcd.Goals as goal

pub loop-b-preserved : goal.loop-b-preserved
loop-b-preserved c = sym (gcd-step _ _) ∙ c.loop-b.invariant

pub returns : goal.returns
returns c = sym (gcd-zero _) ∙ ap (gcd c.loop-b.a) (sym c.loop-b-test.false) ∙ c.loop-b.invariant
