use Rattle.std.proofs.Common.{arith}
use Rattle.std.proofs.lemmas.Bool.Decides.{nat_tests}
use Rattle.tableau.specs.Rows.{helps_at}
use Rattle.tableau.proofs.search.column_helps.Goals as goal

pub returns-then-i-ge64 : goal.returns-then-i-ge64
unfolding helps_at
returns-then-i-ge64 c = grind (arith, nat_tests)

pub returns-else-i-ge64 : goal.returns-else-i-ge64
unfolding helps_at
returns-else-i-ge64 c = grind (arith, nat_tests)
