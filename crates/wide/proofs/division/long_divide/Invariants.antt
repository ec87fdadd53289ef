use Rattle.std.proofs.Common.{◌≡◌, ◌+◌, ◌*◌}
use Rattle.wide.specs.Wide.{size}
use Rattle.wide.proofs.division.long_divide.Given as goal

-- what is taken off and what is left make the whole
abbrev pub invariant-loop-d : goal.invariant-loop-d
invariant-loop-d l = size l.quo * size l.d + size l.rem ≡ size l.fn.x

abbrev pub decreases-loop-d : goal.decreases-loop-d
decreases-loop-d l = size l.rem
