use Rattle.std.proofs.Common.{sym, ◌∙◌, ◌+◌, get_or, drop, arith}
use Rattle.std.proofs.lemmas.Result.{err_from_is_err_and}
use Rattle.model.specs.Refused.{number_of}
use Rattle.model.proofs.Refused.{number-some}
use Rattle.codec.specs.Checking.{counts_of}
use Rattle.codec.proofs.Parsing.{accepted, axes-in, left-start, left-next, left-same, left-stop, left_end, decode-good}
use Rattle.codec.proofs.checking.scan.Goals as goal

pub loop-at-init : goal.loop-at-init
loop-at-init c = left-start c.args.n c.args.s.now

pub returns-in_err-check_command : goal.returns-in_err-check_command
returns-in_err-check_command c =
    let n = c.args.n in let s = c.args.s.now in let r = c.in_err-check_command.field-0.0 in
    let p = err_from_is_err_and c.from_residual.result c.from_residual.ensures.1 in
    let e = c.in_err-check_command.ensures in
    rw (p.1, p.2) (sym (decode-good n s (axes-in n (λ z. omega (arith, c.requires.0)) c.requires.1)
    ∙ left-stop n s c.loop-at.at _ (number_of r) c.loop-at.invariant c.loop-at-test.true (sym e) (number-some r)))

pub loop-at-smaller : goal.loop-at-smaller
loop-at-smaller c =
    let s = c.args.s.now in let at = c.loop-at.at in
    let w = (accepted c.args.n (counts_of c.loop-at.k) (get_or s at 0) (drop (at + 1) s) (sym c.in_ok-check_command.ensures)).wide in
    omega (arith, w, c.width-at.ensures, c.loop-at-test.true)

pub loop-at-preserved : goal.loop-at-preserved
loop-at-preserved c =
    let n = c.args.n in let s = c.args.s.now in let at = c.loop-at.at in
    left-same n s at _ _ _ _ c.width-at.ensures (c.counted-k.ensures (drop (at + 1) s))
    (left-next n s at (counts_of c.loop-at.k) c.loop-at.invariant c.loop-at-test.true (sym c.in_ok-check_command.ensures))

pub returns : goal.returns
returns c =
    let n = c.args.n in let s = c.args.s.now in
    sym (decode-good n s (axes-in n (λ z. omega (arith, c.requires.0)) c.requires.1)
    ∙ left_end n s c.loop-at.at _ c.loop-at.invariant c.loop-at-test.false)
