use Rattle.std.proofs.Common.{sym, length}
use Rattle.model.proofs.Refused.{number-some}
use Rattle.algebra.specs.Cut as C
use Rattle.algebra.specs.Cut.{keeps, complement_fits}
use Rattle.algebra.specs.Operations.{result, complement_bytes}
use Rattle.results.specs.Outcome.{outcome_is}
use Rattle.operations.proofs.Answering.{one-refused, whole-sets, whole-given}
use Rattle.operations.proofs.calls.complement.Goals as goal

pub subtract-d-requires : goal.subtract-d-requires
subtract-d-requires c = whole-sets c.args.n c.args.a.now (sym c.in-Ok.ensures)

pub returns-in-Ok : goal.returns-in-Ok
unfolding complement_bytes
returns-in-Ok c =
    whole-given c.args.n c.args.a.now c.args.out.now _ c.finish.new.out c.subtract-d.result c.finish.result (sym c.in-Ok.ensures) c.subtract-d.auto.out c.subtract-d.ensures c.finish.ensures

pub returns-in-Err : goal.returns-in-Err
unfolding complement_bytes
returns-in-Err c =
    one-refused c.args.n c.args.a.now (λ s. result (complement_fits keeps s) (length c.args.out.now) (C.complement keeps s)) _ (length c.args.out.now) (outcome_is c.refuse.result) c.refuse.new.out
    c.in-Err.ensures (number-some _) c.refuse.ensures
