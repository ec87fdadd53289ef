use Rattle.std.proofs.Common.{sym}
use Rattle.std.proofs.lemmas.Result.{err_from_is_err_and}
use Rattle.coverage.proofs.Calling.{fitting-set, fitting-box}
use Rattle.coverage.proofs.outsides.check_box.Goals as goal

pub returns-in_err-check : goal.returns-in_err-check
returns-in_err-check c =
    let a = c.args in let p = err_from_is_err_and c.from_residual.result c.from_residual.ensures.1 in
    rw (p.1, p.2) (fitting-set a.n a.set.now a.lows a.highs _ c.in_err-check.ensures)

pub returns-then-not-box_fits : goal.returns-then-not-box_fits
returns-then-not-box_fits c = let a = c.args in fitting-box a.n a.set.now a.lows a.highs (sym c.in_ok-check.ensures) (sym c.if-not-box_fits.ensures)
