use Rattle.std.proofs.Common.{drop}
use Rattle.codec.specs.Places.{set_from}
use Rattle.algebra.specs.Cut.{keeps, cut_all, cut_all_fits}
use Rattle.subtraction.proofs.Onward.{Onward, pieces_of}
use Rattle.subtraction.proofs.levels.+cut_all.Given as goal

abbrev pub decreases-cut_all : goal.decreases-cut_all
decreases-cut_all l = l.left

abbrev pub invariant-loop-i : goal.invariant-loop-i
invariant-loop-i l = Onward (cut_all keeps (set_from l.b l.end)) (cut_all_fits keeps (set_from l.b l.end)) (pieces_of l.c) (drop l.i (pieces_of l.c)) l.initial.out l.initial.t l.out l.t
