use Rattle.std.proofs.Common.{◌≡◌, pos, negsuc}
use Rattle.tableau.proofs.Lines.{up_to, mul_sub}
use Rattle.tableau.proofs.row.plus.Given as goal

abbrev pub invariant-loop-i : goal.invariant-loop-i
invariant-loop-i l = l.r ≡ up_to (mul_sub (pos 1) (negsuc 0) l.q) l.i l.initial.r
