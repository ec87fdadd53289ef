-- The common divisor of 1 and any number is 1.
use Rattle.std.proofs.Common.{arith}
use Rattle.tableau.proofs.Lines.{gcd-one}
use Rattle.tableau.proofs.row.divisor_with.Goals as goal

pub returns-then-g-eq1 : goal.returns-then-g-eq1
returns-then-g-eq1 c = grind (arith, gcd-one)
