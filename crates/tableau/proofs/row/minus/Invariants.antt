use Rattle.std.proofs.Common.{◌≡◌, pos}
use Rattle.tableau.proofs.Lines.{up_to, mul_sub}
use Rattle.tableau.proofs.row.minus.Given as goal

abbrev pub invariant-loop-i : goal.invariant-loop-i
invariant-loop-i l = l.r ≡ up_to (mul_sub (pos 1) (pos 1) l.q) l.i l.initial.r
