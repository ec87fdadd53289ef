use Rattle.std.proofs.Common.{sym}
use Rattle.joining.proofs.Dividing.{divisible-hit}
use Rattle.joining.proofs.tightening.any_divisible.Goals as goal

pub returns-then-content-gt1 : goal.returns-then-content-gt1
returns-then-content-gt1 c = sym (divisible-hit _ c.loop-c.c-index c.loop-c-test.true c.content.result c.content.ensures.is c.if-content-gt1.true)
