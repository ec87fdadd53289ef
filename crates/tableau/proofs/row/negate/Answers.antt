use Rattle.std.proofs.Common.{◌≡◌, refl, take, get_or, pos, ◌-ℤ◌}
use Rattle.tableau.proofs.Lines.{each, up_to-none, up_to-more, front-next, front-mapped, within-minus, wider, back, fits}
use Rattle.tableau.proofs.row.negate.Goals as goal

pub loop-x-init : goal.loop-x-init
loop-x-init c = up_to-none _ _

pub overflow_sub-x : goal.overflow_sub-x
overflow_sub-x c =
    let i = c.loop-x.x-index in
    let h = c.requires.small i in
    let e : get_or c.loop-x.x-items i (pos 0) ≡ get_or c.args.r.now i (pos 0) = front-next _ c.args.n i c.args.r.now c.loop-x.x-items c.loop-x-test.true c.loop-x.invariant in
    rw (e, back (wider h)) (fits (within-minus (wider h)))

pub loop-x-preserved : goal.loop-x-preserved
unfolding each
loop-x-preserved c =
    let i = c.loop-x.x-index in
    let h = c.requires.small i in
    let e : get_or c.loop-x.x-items i (pos 0) ≡ get_or c.args.r.now i (pos 0) = front-next _ c.args.n i c.args.r.now c.loop-x.x-items c.loop-x-test.true c.loop-x.invariant in
    up_to-more (pos 0) (each (λ x. pos 0 -ℤ x)) i (take c.args.n c.args.r.now) c.loop-x.x-items _ c.loop-x-test.true c.loop-x.invariant
    (rw (e, back (wider h)) (back (within-minus (wider h))))

pub returns : goal.returns
returns c =
    front-mapped (λ x. pos 0 -ℤ x) c.args.n c.loop-x.x-index c.args.r.now c.loop-x.x-items
    refl c.requires.line c.loop-x-test.false c.loop-x.invariant
