-- What is refused, what is not there and what is asked of its basic set, as the set's bytes say.
use Rattle.std.proofs.Common.{sym, ap, ◌∙◌}
use Rattle.std.proofs.lemmas.Result.{err_from_is_err_and}
use Rattle.model.specs.Values.{basic_set_of}
use Rattle.model.proofs.Refused.{number-some}
use Rattle.codec.specs.Bytes.{gives}
use Rattle.carrying.proofs.Asked.{accepted, asked-opened}
use Rattle.optimum.specs.Value.{extreme_of}
use Rattle.climbing.specs.Steps.{aim_of}
use Rattle.rules.specs.Expressions.{expression_of}
use Rattle.rules.proofs.Numbers.{both-coefficients}
use Rattle.extremes.specs.Answers.{extreme_bytes}
use Rattle.extremes.proofs.Numbered.{asked-refused, asked-zero, asked-none, asked-own, asked-value}
use Rattle.extremes.proofs.asking.extreme.Goals as goal

pub returns-in_err-check : goal.returns-in_err-check
returns-in_err-check c =
    let p = err_from_is_err_and c.from_residual.result c.from_residual.ensures.1 in
    rw (p.1, p.2) (asked-refused (aim_of c.args.greatest) c.args.n c.args.set.now (expression_of c.args.e) c.args.k _ c.in_err-check.ensures (number-some _))

pub returns-then-k-eq0 : goal.returns-then-k-eq0
returns-then-k-eq0 c =
    let z = aim_of c.args.greatest in
    let e = expression_of c.args.e in
    asked-zero z c.args.n c.args.set.now e (sym c.in_ok-check.ensures) ∙ ap (λ k. extreme_bytes z c.args.n c.args.set.now k e) (sym c.if-k-eq0.true)

pub start_of-at-requires : goal.start_of-at-requires
start_of-at-requires c = accepted c.args.n c.args.set.now (sym c.in_ok-check.ensures)

pub returns-then-set-at : goal.returns-then-set-at
returns-then-set-at c =
    asked-none (aim_of c.args.greatest) c.args.n c.args.set.now (expression_of c.args.e) (sym c.in_ok-check.ensures) c.args.k c.if-k-eq0.false c.start_of-at.result c.start_of-at.ensures c.if-set-at.true

pub decode_basic-basic-requires : goal.decode_basic-basic-requires
decode_basic-basic-requires c =
    asked-opened c.args.n c.args.set.now (sym c.in_ok-check.ensures) c.args.k c.if-k-eq0.false c.start_of-at.result c.start_of-at.ensures c.if-set-at.false

pub inequality_of-requires : goal.inequality_of-requires
inequality_of-requires c =
    both-coefficients c.args.n c.decode_basic-basic.result.divs (expression_of c.args.e) (sym c.in_ok-check_expression.ensures)

pub returns-in_err-check_expression : goal.returns-in_err-check_expression
returns-in_err-check_expression c =
    let q = c.from_residual-in_err-check_expression in
    let p = err_from_is_err_and q.result q.ensures.1 in
    rw (p.1, p.2)
    (asked-own (aim_of c.args.greatest) c.args.n c.args.set.now (expression_of c.args.e) (sym c.in_ok-check.ensures) c.args.k c.if-k-eq0.false c.start_of-at.result c.start_of-at.ensures c.if-set-at.false
    c.decode_basic-basic.result c.decode_basic-basic.ensures _ c.in_err-check_expression.ensures (number-some _))

pub returns : goal.returns
returns c =
    let z = aim_of c.args.greatest in
    ap gives (c.of_basic.ensures ∙ ap (λ e. extreme_of z (basic_set_of c.decode_basic-basic.result) e) c.inequality_of.ensures)
    ∙ asked-value z c.args.n c.args.set.now (expression_of c.args.e) (sym c.in_ok-check.ensures) c.args.k c.if-k-eq0.false c.start_of-at.result c.start_of-at.ensures c.if-set-at.false
    c.decode_basic-basic.result c.decode_basic-basic.ensures (sym c.in_ok-check_expression.ensures)
