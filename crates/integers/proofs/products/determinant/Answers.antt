-- As it would be at every width.
use Rattle.std.specs.Int.{w64}
use Rattle.integers.proofs.Det.{mul-ask, det-ask, det-is}
use Rattle.integers.proofs.products.determinant.Goals as goal

pub overflow_mul-result : goal.overflow_mul-result
overflow_mul-result c = mul-ask w64 c.requires.within c.requires.within_2

pub overflow_mul-result-2 : goal.overflow_mul-result-2
overflow_mul-result-2 c = mul-ask w64 c.requires.within_3 c.requires.within_4

pub overflow_sub-result : goal.overflow_sub-result
overflow_sub-result c = det-ask w64 c.requires.within c.requires.within_2 c.requires.within_3 c.requires.within_4

pub returns : goal.returns
returns c = det-is w64 c.requires.within c.requires.within_2 c.requires.within_3 c.requires.within_4
