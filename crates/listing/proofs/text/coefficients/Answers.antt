use Rattle.std.proofs.Common.{◌≡◌, ◌*◌, drop, arith, subst, ℕ}
use Rattle.model.specs.Lists.{concat_map}
use Rattle.codec.specs.Bytes.{signed_list}
use Rattle.listing.specs.Text.{number}
use Rattle.listing.specs.Written.{Writes}
use Rattle.listing.proofs.Writing.{writes-none, numbers_more}
use Rattle.listing.proofs.text.coefficients.Goals as goal

pub loop-i-init : goal.loop-i-init
loop-i-init c = writes-none c.args.out.now c.args.at (omega arith)

pub loop-i-preserved : goal.loop-i-preserved
loop-i-preserved c =
    let l = c.loop-i in let n = c.number-end in
    numbers_more c.args.t.now c.args.out.now l.out n.new.out c.args.p l.i c.u16_at.result c.args.at l.end n.result c.u16_at.ensures.is l.invariant n.ensures

pub returns : goal.returns
returns c =
    let l = c.loop-i in
    let e : l.i ≡ c.args.count = omega arith in
    subst (λ (i : ℕ). Writes (22 * i) (concat_map number (signed_list i (drop c.args.p c.args.t.now))) c.args.out.now c.args.at l.end l.out) e l.invariant
