use Rattle.codec.proofs.Leading.{further_then, further-next}
use Rattle.codec.proofs.accepting.further.Goals as goal

pub loop-c-preserved : goal.loop-c-preserved
loop-c-preserved g c =
    further_then _ c.args.c c.loop-c.c c.joined-c.result c.loop-c.invariant
    (further-next _ c.loop-c.c c.joined-c.result _ (c.requires.told _ c.loop-c.invariant.inside c.loop-c-test.ensures) c.joined-c.ensures)
