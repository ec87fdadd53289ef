-- What is refused, what is not there and what is tested, as the set's bytes say.
use Rattle.std.proofs.Common.{sym, ap, ◌∙◌}
use Rattle.std.proofs.lemmas.Result.{err_from_is_err_and}
use Rattle.carrying.specs.Answers.{test_bytes}
use Rattle.carrying.proofs.Asked.{asked-refused, asked-zero, accepted, asked-none, asked-opened, asked-some}
use Rattle.carrying.proofs.testing.test.Goals as goal

pub returns-in_err-check : goal.returns-in_err-check
returns-in_err-check c =
    let p = err_from_is_err_and c.from_residual.result c.from_residual.ensures.1 in
    rw (p.1, p.2) (asked-refused c.args.n c.args.set.now c.args.k _ c.in_err-check.ensures)

pub returns-then-k-eq0 : goal.returns-then-k-eq0
returns-then-k-eq0 c = asked-zero c.args.n c.args.set.now (sym c.in_ok-check.ensures) ∙ ap (test_bytes c.args.n c.args.set.now) (sym c.if-k-eq0.true)

pub start_of-at-requires : goal.start_of-at-requires
start_of-at-requires c = accepted c.args.n c.args.set.now (sym c.in_ok-check.ensures)

pub returns-then-set-at : goal.returns-then-set-at
returns-then-set-at c =
    asked-none c.args.n c.args.set.now (sym c.in_ok-check.ensures) c.args.k c.if-k-eq0.false c.start_of-at.result c.start_of-at.ensures c.if-set-at.true

pub decode_basic-basic-requires : goal.decode_basic-basic-requires
decode_basic-basic-requires c =
    asked-opened c.args.n c.args.set.now (sym c.in_ok-check.ensures) c.args.k c.if-k-eq0.false c.start_of-at.result c.start_of-at.ensures c.if-set-at.false

pub returns : goal.returns
returns c =
    asked-some c.args.n c.args.set.now (sym c.in_ok-check.ensures) c.args.k c.if-k-eq0.false c.start_of-at.result c.start_of-at.ensures c.if-set-at.false
    c.decode_basic-basic.result c.decode_basic-basic.ensures c.test_alone.result c.test_alone.ensures
