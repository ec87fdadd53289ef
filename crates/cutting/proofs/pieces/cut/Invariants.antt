use Rattle.std.proofs.Common.{◌≡◌, ◌<◌, ◌≤◌, ◌+◌, ◌-◌, ◌*◌, length}
use Rattle.candidates.specs.Candidates.{Behind}
use Rattle.cutting.proofs.Turns.{Going}
use Rattle.cutting.proofs.Following.{stepped}
use Rattle.cutting.proofs.pieces.cut.Given as goal

abbrev pub invariant-loop-k : goal.invariant-loop-k
invariant-loop-k l =
    Going l.initial.rows l.initial.place l.initial.kinds l.c l.c.divs l.places (stepped l.initial.w l.initial.steps l.initial.count) l.rows l.place l.kinds (stepped l.w l.steps l.count) l.k
    × Behind l.w l.h l.rows l.place l.kinds l.past l.cols × (l.k < l.c.cons → 2 * l.w.divs + l.w.cons ≤ l.h.rows) × (length l.w.constraints ≡ 48)

abbrev pub decreases-loop-k : goal.decreases-loop-k
decreases-loop-k l = l.c.cons - l.k
