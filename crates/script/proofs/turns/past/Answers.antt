use Rattle.std.proofs.Common.{arith}
use Rattle.codec.proofs.Parsing.{width-most}
use Rattle.script.proofs.turns.past.Goals as goal

pub overflow_add-place : goal.overflow_add-place
overflow_add-place c = let w = width-most c.args.b in let e = c.width.ensures in omega arith
