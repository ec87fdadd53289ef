-- By the laws of what the tests of a set's bytes build (carrying, proofs/Asked).
use Rattle.std.proofs.Common.{◌≡◌, true, false, sym, ap, ◌∙◌}
use Rattle.std.specs.Result.{is_err}
use Rattle.model.proofs.Refused.{number-err, number-ok}
use Rattle.carrying.specs.Answers.{built_bytes}
use Rattle.carrying.proofs.Asked.{accepted, asked-opened, built-refused, built-zero, built-none, built-some}
use Rattle.probe.proofs.testing.probe_built.Goals as goal

pub returns-then-is_err : goal.returns-then-is_err
returns-then-is_err c =
    let t : is_err c.check.result ≡ true = cc in
    built-refused c.args.n c.args.set.now c.args.k (λ e. number-err c.check.result t (c.check.ensures ∙ e))

pub returns-then-k-eq0 : goal.returns-then-k-eq0
returns-then-k-eq0 c =
    let t : is_err c.check.result ≡ false = cc in
    let z = sym c.check.ensures ∙ number-ok c.check.result t in
    built-zero c.args.n c.args.set.now z ∙ ap (built_bytes c.args.n c.args.set.now) (sym c.if-k-eq0.true)

pub start_of-at-requires : goal.start_of-at-requires
start_of-at-requires c =
    let t : is_err c.check.result ≡ false = cc in
    accepted c.args.n c.args.set.now (sym c.check.ensures ∙ number-ok c.check.result t)

pub returns-then-set-at : goal.returns-then-set-at
returns-then-set-at c =
    let t : is_err c.check.result ≡ false = cc in
    let z = sym c.check.ensures ∙ number-ok c.check.result t in
    built-none c.args.n c.args.set.now z c.args.k c.if-k-eq0.false c.start_of-at.result c.start_of-at.ensures c.if-set-at.true

pub decode_basic-requires : goal.decode_basic-requires
decode_basic-requires c =
    let t : is_err c.check.result ≡ false = cc in
    let z = sym c.check.ensures ∙ number-ok c.check.result t in
    asked-opened c.args.n c.args.set.now z c.args.k c.if-k-eq0.false c.start_of-at.result c.start_of-at.ensures c.if-set-at.false

pub returns : goal.returns
returns c =
    let t : is_err c.check.result ≡ false = cc in
    let z = sym c.check.ensures ∙ number-ok c.check.result t in
    c.built_alone.ensures
    ∙ built-some c.args.n c.args.set.now z c.args.k c.if-k-eq0.false c.start_of-at.result c.start_of-at.ensures c.if-set-at.false
    c.decode_basic.result c.decode_basic.ensures
