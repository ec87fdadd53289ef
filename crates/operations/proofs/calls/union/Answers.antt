use Rattle.std.proofs.Common.{refl, length}
use Rattle.model.proofs.Refused.{number-some}
use Rattle.algebra.specs.Cut as C
use Rattle.algebra.specs.Cut.{keeps, union_fits}
use Rattle.algebra.specs.Operations.{result, union_bytes}
use Rattle.results.specs.Outcome.{outcome_is}
use Rattle.operations.proofs.Answering.{two-refused, two-given}
use Rattle.operations.proofs.calls.union.Goals as goal

pub returns-in-Ok : goal.returns-in-Ok
unfolding union_bytes
returns-in-Ok c =
    two-given c.args.n c.args.a.now c.args.b.now 0 (union_fits keeps) (C.union) c.args.out.now _ c.finish.new.out c.append-d.result c.finish.result c.in-Ok.ensures.checks refl
    c.append-d.auto.out c.append-d.ensures c.finish.ensures

pub returns-in-Err : goal.returns-in-Err
unfolding union_bytes
returns-in-Err c =
    two-refused c.args.n c.args.a.now c.args.b.now (λ s t. result (union_fits keeps s t) (length c.args.out.now) (C.union s t)) _ (length c.args.out.now) (outcome_is c.refuse.result) c.refuse.new.out
    c.in-Err.ensures.checks (number-some _) c.refuse.ensures
