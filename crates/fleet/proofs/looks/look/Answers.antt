-- Each refusal, and the fleet, by the laws of proofs/Fleets.
use Rattle.std.proofs.Common.{sym, arith}
use Rattle.std.proofs.lemmas.Result.{err_from_is_err_and}
use Rattle.codec.proofs.Refusing.{refused-by}
use Rattle.query.proofs.Answers.{axes-most, axes-some}
use Rattle.fleet.proofs.Fleets.{fleet-refused, fleet-ragged, fleet-many, fleet-misfit, fleet-gives, list-points}
use Rattle.fleet.proofs.looks.look.Goals as goal

pub returns-in_err-check : goal.returns-in_err-check
returns-in_err-check c =
    let p = err_from_is_err_and c.from_residual.result c.from_residual.ensures.1 in
    rw (p.1, p.2) (fleet-refused c.args.n c.args.set.now c.args.points.now _ (refused-by _ _ c.in_err-check.ensures))

pub nonzero_rem-points : goal.nonzero_rem-points
nonzero_rem-points c = axes-some c.args.n c.args.set.now (sym c.in_ok-check.ensures)

pub returns-then-points-n-ne0 : goal.returns-then-points-n-ne0
returns-then-points-n-ne0 c = fleet-ragged c.args.n c.args.set.now c.args.points.now (sym c.in_ok-check.ensures) c.if-points-n-ne0.true

pub nonzero_div-k : goal.nonzero_div-k
nonzero_div-k c = axes-some c.args.n c.args.set.now (sym c.in_ok-check.ensures)

pub returns-then-k-gt-POINTS : goal.returns-then-k-gt-POINTS
returns-then-k-gt-POINTS c =
    fleet-many c.args.n c.args.set.now c.args.points.now (sym c.in_ok-check.ensures) c.if-points-n-ne0.false (omega (arith, c.if-k-gt-POINTS.true))

pub returns-then-not-coordinates_fit : goal.returns-then-not-coordinates_fit
returns-then-not-coordinates_fit c =
    fleet-misfit c.args.n c.args.set.now c.args.points.now (sym c.in_ok-check.ensures) c.if-points-n-ne0.false c.if-k-gt-POINTS.false
    (sym c.if-not-coordinates_fit.ensures)

pub points_mask-mask-requires : goal.points_mask-mask-requires
points_mask-mask-requires c =
    let a = c.args in let e = sym c.in_ok-check.ensures in (
      record { n = a.n; accepted = e },
      list-points a.n a.points.now (axes-most a.n a.set.now e) c.if-points-n-ne0.false c.if-k-gt-POINTS.false (sym c.if-not-coordinates_fit.ensures),
    )

pub returns : goal.returns
returns c =
    fleet-gives c.args.n c.args.set.now c.args.points.now (sym c.in_ok-check.ensures) c.if-points-n-ne0.false c.if-k-gt-POINTS.false
    (sym c.if-not-coordinates_fit.ensures) c.points_mask-mask.result c.points_mask-mask.ensures
