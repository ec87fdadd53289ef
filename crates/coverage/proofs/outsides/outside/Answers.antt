use Rattle.std.proofs.Common.{ℕ, List, length, sym, subst}
use Rattle.codec.specs.Bytes.{Answer}
use Rattle.algebra.specs.Result.{Result}
use Rattle.results.specs.Outcome.{outcome_is}
use Rattle.coverage.proofs.Calling.{outside-checked}
use Rattle.coverage.proofs.outsides.outside.Goals as goal

pub returns-in-Ok : goal.returns-in-Ok
returns-in-Ok c =
    let a = c.args in
    subst (λ (y : Answer (List ℕ)). Result (length a.out.now) y (outcome_is c.taken.result) c.taken.new.out)
    (sym (outside-checked a.n a.set.now a.lows a.highs c.in-Ok.ensures (length a.out.now))) c.taken.ensures

pub returns-in-Err : goal.returns-in-Err
returns-in-Err c =
    let a = c.args in
    subst (λ (y : Answer (List ℕ)). Result (length a.out.now) y (outcome_is c.refuse.result) c.refuse.new.out) (sym (c.in-Err.ensures.outsides (length a.out.now))) c.refuse.ensures
