use Rattle.std.proofs.Common.{sym}
use Rattle.codec.proofs.Parsing.{axes-zero, axes-over, decode-bad}
use Rattle.codec.proofs.checking.scanned.Goals.{then-n-eq0-via-then-n-eq0, then-n-eq0-via-else-n-eq0+then-n-gt-AXES}
use Rattle.codec.proofs.checking.scanned.Goals as goal

pub returns-then-n-eq0 : goal.returns-then-n-eq0
returns-then-n-eq0 c = elim c.then-n-eq0.branch [
  | then-n-eq0-via-then-n-eq0 w ↦ sym (decode-bad _ c.args.s.now (axes-zero _ w.if-n-eq0.true))
  | then-n-eq0-via-else-n-eq0+then-n-gt-AXES w ↦ sym (decode-bad _ c.args.s.now (axes-over _ w.if-n-gt-AXES.true))
]
