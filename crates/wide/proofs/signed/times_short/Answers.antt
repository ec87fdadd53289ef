-- A product of two numbers of half a word takes one.
use Rattle.std.proofs.Common.{arith, lit<}
use Rattle.wide.proofs.Digits.{room}
use Rattle.wide.proofs.signed.times_short.Goals as goal

pub overflow_mul-result : goal.overflow_mul-result
overflow_mul-result c =
    let x = c.args.x.magnitude.lo in
    let y = c.args.y.magnitude.lo in
    omega (arith, room 4294967296 x y 0 0 c.requires.0.low c.requires.1.low (lit< tt) (lit< tt))
