use Rattle.std.proofs.Common.{refl, length}
use Rattle.model.proofs.Refused.{number-some}
use Rattle.algebra.specs.Cut as C
use Rattle.algebra.specs.Cut.{keeps, difference_fits}
use Rattle.algebra.specs.Operations.{result, difference_bytes}
use Rattle.results.specs.Outcome.{outcome_is}
use Rattle.operations.proofs.Answering.{sets_of, two-refused, two-given}
use Rattle.operations.proofs.calls.difference.Goals as goal

pub subtract-d-requires : goal.subtract-d-requires
subtract-d-requires c = sets_of c.args.n c.args.a.now c.args.b.now 0 c.in-Ok.ensures refl

pub returns-in-Ok : goal.returns-in-Ok
unfolding difference_bytes
returns-in-Ok c =
    two-given c.args.n c.args.a.now c.args.b.now 0 (difference_fits keeps) (C.difference keeps) c.args.out.now _ c.finish.new.out c.subtract-d.result c.finish.result c.in-Ok.ensures refl
    c.subtract-d.auto.out c.subtract-d.ensures c.finish.ensures

pub returns-in-Err : goal.returns-in-Err
unfolding difference_bytes
returns-in-Err c =
    two-refused c.args.n c.args.a.now c.args.b.now (λ s t. result (difference_fits keeps s t) (length c.args.out.now) (C.difference keeps s t)) _ (length c.args.out.now) (outcome_is c.refuse.result) c.refuse.new.out
    c.in-Err.ensures (number-some _) c.refuse.ensures
