-- By the laws of the tests of a set's bytes (carrying, proofs/Asked), and what many tests of one basic set give.
use Rattle.std.proofs.Common.{◌≡◌, ℕ, ◌*◌, ◌%◌, ◌^◌, true, false, sym, ap, ◌∙◌, arith}
use Rattle.std.specs.Result.{is_err}
use Rattle.model.proofs.Refused.{number-err, number-ok}
use Rattle.carrying.proofs.Asked.{accepted, asked-opened}
use Rattle.probe.proofs.Laws.{unmade}
use Rattle.probe.proofs.Firsts.{refused-pivots, none-pivots, first-pivots}
use Rattle.probe.proofs.testing.probe_tests.Goals as goal

pub returns-then-is_err : goal.returns-then-is_err
returns-then-is_err c =
    let t : is_err c.check.result ≡ true = cc in
    unmade c.args.times (refused-pivots c.args.n c.args.set.now (λ e. number-err c.check.result t (c.check.ensures ∙ e)))

pub start_of-at-requires : goal.start_of-at-requires
start_of-at-requires c =
    let t : is_err c.check.result ≡ false = cc in
    accepted c.args.n c.args.set.now (sym c.check.ensures ∙ number-ok c.check.result t)

pub returns-then-set-at : goal.returns-then-set-at
returns-then-set-at c =
    let t : is_err c.check.result ≡ false = cc in
    let z = sym c.check.ensures ∙ number-ok c.check.result t in
    unmade c.args.times (none-pivots c.args.n c.args.set.now z c.start_of-at.result c.start_of-at.ensures c.if-set-at.true)

pub decode_basic-b-requires : goal.decode_basic-b-requires
decode_basic-b-requires c =
    let t : is_err c.check.result ≡ false = cc in
    let z = sym c.check.ensures ∙ number-ok c.check.result t in
    asked-opened c.args.n c.args.set.now z 1 (λ e. omega arith) c.start_of-at.result c.start_of-at.ensures c.if-set-at.false

pub returns : goal.returns
returns c =
    let t : is_err c.check.result ≡ false = cc in
    let z = sym c.check.ensures ∙ number-ok c.check.result t in
    c.tests.ensures
    ∙ ap (λ (p : ℕ). (c.args.times * p) % 2 ^ 64)
    (first-pivots c.args.n c.args.set.now z c.start_of-at.result c.start_of-at.ensures c.if-set-at.false
    c.decode_basic-b.result c.decode_basic-b.ensures)
