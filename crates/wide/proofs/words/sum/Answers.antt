-- Without a carry the words add up.
use Rattle.wide.proofs.Digits.{sum_is}
use Rattle.wide.proofs.words.sum.Goals as goal

pub returns-then-a-left : goal.returns-then-a-left
returns-then-a-left c = sum_is 18446744073709551616 c.args.a.hi c.args.a.lo c.args.b.hi c.args.b.lo
