use Rattle.std.proofs.Common.{◌≡◌}
use Rattle.std.specs.Int.Signed.{quot_z}
use Rattle.tableau.proofs.Lines.{up_to, each}
use Rattle.tableau.proofs.row.divide.Given as goal

abbrev pub invariant-loop-x : goal.invariant-loop-x
invariant-loop-x l = l.x-items ≡ up_to (each (λ x. quot_z x l.d)) l.x-index l.initial.x-items
