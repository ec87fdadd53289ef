use Rattle.std.proofs.Common.{arith, sym, subst}
use Rattle.codec.proofs.Boundaries.{boundary-opened}
use Rattle.fleet.proofs.Passing.{Walking, walking_start, walking-inside, walking-next, walking-end}
use Rattle.fleet.proofs.marks.walked.Goals as goal

pub loop-at-init : goal.loop-at-init
loop-at-init c = walking_start c.args.s.now c.args.n c.args.xs.now c.args.k c.requires.0 c.requires.1.few

pub marked-requires : goal.marked-requires
marked-requires c =
    let v = c.loop-at.invariant in
    (boundary-opened v.axes c.args.s.now c.loop-at.at v.here c.loop-at-test.true, c.requires.1, v.size)

pub end_of-at-requires : goal.end_of-at-requires
end_of-at-requires c = let v = c.loop-at.invariant in boundary-opened v.axes c.args.s.now c.loop-at.at v.here c.loop-at-test.true

pub loop-at-smaller : goal.loop-at-smaller
loop-at-smaller c =
    let i = walking-inside c.args.s.now c.args.n c.args.xs.now c.args.k c.loop-at.flags c.loop-at.at c.loop-at.invariant c.loop-at-test.true in
    omega (arith, c.end_of-at.ensures)

pub loop-at-preserved : goal.loop-at-preserved
loop-at-preserved c =
    let next = walking-next c.args.s.now c.args.n c.args.xs.now c.args.k c.loop-at.flags c.loop-at.at c.loop-at.invariant c.loop-at-test.true _ c.marked.ensures in
    subst (Walking c.args.s.now c.args.n c.args.xs.now c.args.k _) (sym c.end_of-at.ensures) next

pub returns : goal.returns
returns c = walking-end c.args.s.now c.args.n c.args.xs.now c.args.k c.loop-at.flags c.loop-at.at c.loop-at.invariant c.loop-at-test.false
