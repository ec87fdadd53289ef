use Rattle.std.proofs.Common.{◌+◌, ◌%◌, ◌^◌, ap₂, ◌∙◌}
use Rattle.probe.proofs.Laws.{once_more}
use Rattle.probe.proofs.testing.tests.Goals as goal

pub loop-i-preserved : goal.loop-i-preserved
loop-i-preserved c =
    let l = c.loop-i in let e = c.test_basic-ended.ensures in
    ap₂ (λ x y. (x + y) % 2 ^ 64) l.invariant e.pivots_are ∙ once_more (2 ^ 64) _ l._i
