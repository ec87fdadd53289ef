use Rattle.std.proofs.Common.{arith}
use Rattle.std.proofs.lemmas.Bool.Decides.{nat_tests}
use Rattle.tableau.specs.Rows.{violated_at}
use Rattle.tableau.proofs.search.row_violated.Goals as goal

pub returns-then-i-lt64 : goal.returns-then-i-lt64
unfolding violated_at
returns-then-i-lt64 c = grind (arith, nat_tests)

pub returns-else-i-lt64 : goal.returns-else-i-lt64
unfolding violated_at
returns-else-i-lt64 c = grind (arith, nat_tests)
