-- The product of two numbers of two digits to the base 2^32.
use Rattle.std.proofs.Common.{arith, lit<}
use Rattle.wide.proofs.Digits.{high_fits, product_is}
use Rattle.wide.proofs.words.product.Goals as goal

pub overflow_add-result : goal.overflow_add-result
overflow_add-result c = omega (arith, high_fits 4294967296 c.args.a c.args.b (lit< tt) c.ranges.a.fits c.ranges.b.fits)

pub returns : goal.returns
returns c = product_is 4294967296 c.args.a c.args.b
