use Rattle.std.proofs.Common.{◌∙◌, ap, map, take, get_or, pos, rules}
use Rattle.std.specs.Int.Signed.{quot_z, ◌<ℤ◌}
use mir.Syntax.{w64}
use mir.Val.{SFits, to_z, of_z}
use mir.Facts.{to_z-of_z}
use Rattle.integers.specs.Div.{quot_fits}
use Rattle.tableau.proofs.Lines.{each, up_to-none, up_to-more, front-mapped, quot-zero}
use Rattle.tableau.proofs.row.divide.Goals as goal

pub loop-x-init : goal.loop-x-init
loop-x-init c = up_to-none _ _

pub loop-x-preserved : goal.loop-x-preserved
unfolding each
loop-x-preserved c =
    let i = c.loop-x.x-index in
    let x : SFits w64 (get_or c.loop-x.x-items i (pos 0)) = search rules in
    let d = to_z w64 (of_z w64 c.args.d) in
    let p : pos 0 <ℤ d = rw (to_z-of_z c.ranges.d) c.requires.pos_bound in
    up_to-more (pos 0) (each (λ x. quot_z x d)) i (take c.args.n c.args.r.now) c.loop-x.x-items _ c.loop-x-test.true c.loop-x.invariant
    (rw (to_z-of_z x) (to_z-of_z (quot_fits x p)))

pub returns : goal.returns
returns c =
    let d = to_z w64 (of_z w64 c.args.d) in
    let p : pos 0 <ℤ d = rw (to_z-of_z c.ranges.d) c.requires.pos_bound in
    front-mapped (λ x. quot_z x d) c.args.n c.loop-x.x-index c.args.r.now c.loop-x.x-items (quot-zero d p) c.requires.line c.loop-x-test.false c.loop-x.invariant
    ∙ ap (λ d. map (λ x. quot_z x d) c.args.r.now) (to_z-of_z c.ranges.d)
