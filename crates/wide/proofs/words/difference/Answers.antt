use Rattle.std.proofs.Common.{arith}
use Rattle.wide.proofs.Digits.{back_in}
use Rattle.wide.proofs.words.difference.Goals as goal

pub overflow_add-result : goal.overflow_add-result
overflow_add-result c =
    record { fits = back_in 18446744073709551615 c.args.a.lo c.args.b.lo c.if-a-b.true (omega (arith, c.well_formed)) }
