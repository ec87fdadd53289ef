use Rattle.std.proofs.Common.{◌≡◌, ◌+◌, ◌*◌}
use Rattle.candidates.specs.Candidates.{Behind}
use Rattle.candidates.proofs.survivors.start.Given as goal

abbrev pub invariant-loop-c : goal.invariant-loop-c
invariant-loop-c l = Behind l.fn.w l.x l.rows l.place l.kinds l.past l.columns × (l.x.rows ≡ 2 * l.fn.w.divs + l.c-index)
