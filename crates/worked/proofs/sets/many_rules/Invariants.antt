use Rattle.std.proofs.Common.{◌≡◌, length}
use Rattle.worked.proofs.sets.many_rules.Given as goal

abbrev pub invariant-loop-i : goal.invariant-loop-i
invariant-loop-i l = 1814 ≡ length l.s
