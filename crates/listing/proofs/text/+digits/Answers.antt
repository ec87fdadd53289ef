use Rattle.std.proofs.Common.{◌+◌, ◌%◌, sym, arith}
use Rattle.listing.proofs.Writing.{writes_one, wrote-more, writes-same, digits-next, digits-small, digits-room}
use Rattle.listing.proofs.text.+digits.Goals as goal

pub returns-then-n-lt10 : goal.returns-then-n-lt10
returns-then-n-lt10 t c =
    writes-same (omega arith) (sym (digits-small c.args.n c.if-n-lt10.true)) (writes_one c.args.out.now c.args.at (48 + c.args.n) (omega arith))

pub returns : goal.returns
returns t c =
    let n = c.args.n in let d = c.digits-last in
    let r = digits-room n c.ranges.n.fits in let e = d.ensures.wrote.end_is in let k = d.auto.out in
    let one = writes_one d.new.out d.result (48 + n % 10) (omega arith) in
    record {
      short = omega arith;
      wrote = rw (digits-next n (omega arith) c.ranges.n.fits) (wrote-more d.ensures.wrote one.wrote);
    }
