use Rattle.std.proofs.Common.{arith, sym, ap, ◌∙◌}
use Rattle.std.proofs.lemmas.Result.{err_from_is_err_and}
use Rattle.model.specs.Refused.{number_of}
use Rattle.model.proofs.Refused.{number-some}
use Rattle.codec.specs.Bytes.{refusal, division}
use Rattle.rules.proofs.Quotients.{rest-next, rest-stop, rest_end}
use Rattle.rules.proofs.divisions.check_start.Goals as goal

pub returns-in_err-check_division : goal.returns-in_err-check_division
returns-in_err-check_division c =
    let n = c.args.n in let i = c.loop-i.i in let r = c.in_err-check_division.field-0.0 in
    let p = err_from_is_err_and c.from_residual.result c.from_residual.ensures.1 in
    let e = c.in_err-check_division.ensures ∙ ap (λ q. refusal n (record { basics = 1; divisions = i; constraints = 0 }) (division q)) c.quotient_at.ensures in
    rw (p.1, p.2) (rest-stop n c.args.count i c.args.xs.now _ (number_of r) c.loop-i-test.true c.loop-i.invariant e (number-some r))

pub loop-i-preserved : goal.loop-i-preserved
loop-i-preserved c =
    let n = c.args.n in let i = c.loop-i.i in
    let e = c.in_ok-check_division.ensures ∙ ap (λ q. refusal n (record { basics = 1; divisions = i; constraints = 0 }) (division q)) c.quotient_at.ensures in
    rest-next n c.args.count i c.args.xs.now _ c.loop-i-test.true c.loop-i.invariant (sym e)

pub returns : goal.returns
returns c = rest_end c.args.n c.args.count c.loop-i.i c.args.xs.now _ (omega arith) c.loop-i.invariant
