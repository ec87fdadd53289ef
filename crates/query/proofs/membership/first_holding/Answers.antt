use Rattle.codec.proofs.Boundaries.{boundary-opened}
use Rattle.query.proofs.Holding.{finding-start, finding-yes, finding-next, finding-end}
use Rattle.query.proofs.membership.first_holding.Goals as goal

pub loop-at-init : goal.loop-at-init
loop-at-init c = finding-start c.args.s.now c.args.x.now c.requires.0

pub spanned-span-requires : goal.spanned-span-requires
spanned-span-requires c = (boundary-opened c.loop-at.invariant.n c.args.s.now c.loop-at.at c.loop-at.invariant.here c.loop-at-test.true, c.requires.1)

pub returns-then-span : goal.returns-then-span
returns-then-span c = finding-yes c.args.s.now c.args.x.now c.loop-at.at c.loop-at.number c.loop-at.invariant c.loop-at-test.true c.spanned-span.result c.spanned-span.ensures c.if-span.true

pub loop-at-preserved : goal.loop-at-preserved
loop-at-preserved c = finding-next c.args.s.now c.args.x.now c.loop-at.at c.loop-at.number c.loop-at.invariant c.loop-at-test.true c.spanned-span.result c.spanned-span.ensures c.if-span.false

pub returns : goal.returns
returns c = finding-end c.args.s.now c.args.x.now c.loop-at.at c.loop-at.number c.loop-at.invariant c.loop-at-test.false
