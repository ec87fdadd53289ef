use Rattle.std.proofs.Common.{sym}
use Rattle.std.proofs.lemmas.Result.{err_from_is_err_and}
use Rattle.counting.proofs.Calling.{fitting-set, fitting-corners}
use Rattle.counting.proofs.calls.check.Goals as goal

pub returns-in_err-check : goal.returns-in_err-check
returns-in_err-check c =
    let a = c.args in let p = err_from_is_err_and c.from_residual.result c.from_residual.ensures.1 in
    rw (p.1, p.2) (fitting-set a.n a.set.now a.low a.high _ c.in_err-check.ensures)

pub returns-then-not-corners_fit : goal.returns-then-not-corners_fit
returns-then-not-corners_fit c = let a = c.args in fitting-corners a.n a.set.now a.low a.high (sym c.in_ok-check.ensures) (sym c.if-not-corners_fit.ensures)
