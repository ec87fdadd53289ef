use Rattle.std.proofs.Common.{◌≡◌, neg_ℤ}
use Rattle.model.proofs.Lists.{up_to, each}
use Rattle.joining.proofs.opposites.negated.Given as goal

abbrev pub invariant-loop-x : goal.invariant-loop-x
invariant-loop-x l = l.x-items ≡ up_to (each neg_ℤ) l.x-index l.fn.xs
