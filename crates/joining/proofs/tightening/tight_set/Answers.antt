use Rattle.std.proofs.Common.{◌≡◌, subst, length, rules}
use Rattle.joining.specs.Joining.{Reduces}
use Rattle.joining.proofs.Dividing.{passed_start, passed-void, passed-next, passed-end}
use Rattle.joining.proofs.tightening.tight_set.Goals as goal

pub loop-k-init : goal.loop-k-init
loop-k-init c = passed_start c.args.b

pub returns-in_err-w : goal.returns-in_err-w
returns-in_err-w c =
    let l : length c.args.b.constraints ≡ 48 = search rules in
    rw c.from_residual.ensures (passed-void c.loop-k.invariant l c.requires c.loop-k-test.true (subst (Reduces _) c.in_err-w.was c.reduce.ensures))

pub loop-k-preserved : goal.loop-k-preserved
loop-k-preserved c =
    let l : length c.args.b.constraints ≡ 48 = search rules in
    passed-next c.loop-k.invariant l c.requires c.loop-k-test.true c.in_ok-w.field-0 (subst (Reduces _) c.in_ok-w.was c.reduce.ensures)

pub returns : goal.returns
returns c =
    let l : length c.args.b.constraints ≡ 48 = search rules in
    passed-end c.loop-k.invariant l c.requires c.loop-k-test.false
