use Rattle.codec.proofs.Leading.{divisions-next}
use Rattle.codec.proofs.accepting.divisions.Goals as goal

pub loop-run-preserved : goal.loop-run-preserved
loop-run-preserved c =
    let w = c.widened-run.ensures in
    divisions-next _ _ _ _ _ _ _ w.low.0 w.high.0 _ c.loop-run.invariant (c.division_there.ensures c.loop-run-test.true) w.low.1 w.high.1
