use Rattle.std.proofs.Common.{◌≡◌, pos, ◌-ℤ◌}
use Rattle.tableau.proofs.Lines.{up_to, each}
use Rattle.tableau.proofs.row.negate.Given as goal

abbrev pub invariant-loop-x : goal.invariant-loop-x
invariant-loop-x l = l.x-items ≡ up_to (each (λ x. pos 0 -ℤ x)) l.x-index l.initial.x-items
