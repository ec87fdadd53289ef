use Rattle.std.proofs.Common.{refl}
use Rattle.codec.specs.Accepting.{Further}
use Rattle.codec.proofs.Leading.{further_then}
use Rattle.codec.proofs.accepting.constraints.Goals as goal

-- behind the loop's run, those without and then those with a number
pub loop-c-preserved : goal.loop-c-preserved
loop-c-preserved c = further_then _ _ c.loop-c.c c.further-c.result c.loop-c.invariant (further_then _ c.loop-c.c c.further-bare.result c.further-c.result c.further-bare.ensures c.further-c.ensures)

pub returns-then-c-bare : goal.returns-then-c-bare
returns-then-c-bare c =
    let both : Further _ c.loop-c.c c.further-c.result = further_then _ c.loop-c.c c.further-bare.result c.further-c.result c.further-bare.ensures c.further-c.ensures in
    record { none = _; at = refl; count = refl; low = refl; high = refl; run = further_then _ _ c.loop-c.c c.further-c.result c.loop-c.invariant both }
