use Rattle.std.proofs.Common.{arith, pos}
use Rattle.std.proofs.lemmas.List.{ext_get_or}
use Rattle.rules.proofs.coefficients.narrowed.Goals as goal

pub returns : goal.returns
returns c =
    ext_get_or (pos 0) c.loop-i.r c.args.a (omega arith) (λ k h. c.loop-i.invariant.written k (omega arith))
