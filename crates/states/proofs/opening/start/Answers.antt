-- Each way out of a start, by the definition's cases.
use Rattle.std.proofs.Common.{refl, sym, arith}
use Rattle.std.proofs.lemmas.Result.{err_from_is_err_and}
use Rattle.model.proofs.Refused.{number-some}
use Rattle.memory.proofs.Copies.{fitting-fits}
use Rattle.rules.proofs.Quotients.{listed}
use Rattle.states.proofs.Stepping.{start-unfit, start-broken, start-refused, start-done}
use Rattle.states.proofs.opening.start.Goals as goal

pub returns-then-not-fits : goal.returns-then-not-fits
returns-then-not-fits c = start-unfit _ _ _ (sym c.if-not-fits.ensures)

pub returns-then-divisions-ne0 : goal.returns-then-divisions-ne0
returns-then-divisions-ne0 c = start-broken _ _ _ (sym c.if-not-fits.ensures) c.if-divisions-ne0.true

pub returns-in_err-check_start : goal.returns-in_err-check_start
returns-in_err-check_start c =
    let p = err_from_is_err_and c.from_residual.result c.from_residual.ensures.1 in
    rw (p.1, p.2) (start-refused _ _ _ (sym c.if-not-fits.ensures) c.if-divisions-ne0.false _ c.in_err-check_start.ensures (number-some _))

pub set_up-requires : goal.set_up-requires
set_up-requires c = (fitting-fits _ (sym c.if-not-fits.ensures), listed c.args.n _ c.args.divisions.now (omega arith) (sym c.in_ok-check_start.ensures))

pub returns : goal.returns
returns c = start-done _ _ _ (sym c.if-not-fits.ensures) c.if-divisions-ne0.false _ c.in_ok-check_start.ensures refl c.set_up.ensures
