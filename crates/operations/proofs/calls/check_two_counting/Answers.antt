use Rattle.std.proofs.Common.{◌≡◌, sym, ap₂, ◌∙◌, ◌+◌, arith}
use Rattle.std.proofs.lemmas.Result.{err_from_is_err_and}
use Rattle.model.proofs.Refused.{number-some}
use Rattle.codec.specs.Places.{set_from}
use Rattle.codec.proofs.Boundaries.{decode_is}
use Rattle.codec.proofs.Valid.{bytes_of, decode-valid}
use Rattle.operations.proofs.Answering.{checks-first, checks-second}
use Rattle.operations.proofs.calls.check_two_counting.Goals as goal

pub returns-in_err-first : goal.returns-in_err-first
returns-in_err-first c =
    let p = err_from_is_err_and c.from_residual.result c.from_residual.ensures.1 in
    rw (p.1, p.2) (record { checks = checks-first c.args.n c.args.a.now c.args.b.now _ c.in_err-first.ensures.refusal (number-some _); counts = tt })

pub returns-in_err-second : goal.returns-in_err-second
returns-in_err-second c =
    let p = err_from_is_err_and c.from_residual-in_err-second.result c.from_residual-in_err-second.ensures.1 in
    rw (p.1, p.2) (record { checks = checks-second c.args.n c.args.a.now c.args.b.now _ (sym c.in_ok-first.ensures.refusal) c.in_err-second.ensures.refusal; counts = tt })

pub overflow_add-result : goal.overflow_add-result
overflow_add-result c =
    let a = c.args.a.now in let b = c.args.b.now in
    let g = (decode-valid c.args.n a (set_from a 0) (bytes_of a (λ i. omega (arith, c.type_inv.a i))) (decode_is c.args.n a (sym c.in_ok-first.ensures.refusal))).1 in
    let h = (decode-valid c.args.n b (set_from b 0) (bytes_of b (λ i. omega (arith, c.type_inv.b i))) (decode_is c.args.n b (sym c.in_ok-second.ensures.refusal))).1 in
    omega (arith, g, h, c.in_ok-first.ensures.basics, c.in_ok-second.ensures.basics)

pub returns : goal.returns
returns c =
    record {
      checks = checks-second c.args.n c.args.a.now c.args.b.now 0 (sym c.in_ok-first.ensures.refusal) c.in_ok-second.ensures.refusal;
      counts = ap₂ ◌+◌ c.in_ok-first.ensures.basics c.in_ok-second.ensures.basics;
    }
