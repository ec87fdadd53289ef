use Rattle.std.proofs.Common.{sym}
use Rattle.std.proofs.lemmas.Result.{err_from_is_err_and}
use Rattle.model.specs.Refused.{number_in}
use Rattle.model.proofs.Refused.{number-some}
use Rattle.operations.proofs.Answering.{checks-first, checks-second}
use Rattle.operations.proofs.calls.check_two.Goals as goal

pub returns-in_err-check : goal.returns-in_err-check
returns-in_err-check c =
    let p = err_from_is_err_and c.from_residual.result c.from_residual.ensures.1 in
    rw (p.1, p.2) (checks-first c.args.n c.args.a.now c.args.b.now _ c.in_err-check.ensures (number-some _))

pub returns : goal.returns
returns c = checks-second c.args.n c.args.a.now c.args.b.now (number_in c.check-2.result) (sym c.in_ok-check.ensures) c.check-2.ensures
