use Rattle.codec.proofs.Leading.{walked_start, walked_next, walked_all}
use Rattle.codec.proofs.accepting.accepts.Goals as goal

pub loop-at-init : goal.loop-at-init
loop-at-init c = walked_start _ _

pub loop-at-preserved : goal.loop-at-preserved
loop-at-preserved c = walked_next _ _ _ _ _ c.loop-at.invariant c.loop-at-test.true c.if-s-at-ne-OPENS.false c.if-basics-ge-BASIC_SETS.false c.in_ok-at.ensures

pub returns : goal.returns
returns c = walked_all _ _ _ _ c.loop-at.invariant c.loop-at-test.false c.if-n-eq0.false c.if-n-gt-AXES.false
