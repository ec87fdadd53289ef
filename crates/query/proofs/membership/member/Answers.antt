use Rattle.std.proofs.Common.{length-take, take, arith, sym, ap, ◌∙◌, ℤ, List}
use Rattle.std.specs.Option.{is_some}
use Rattle.std.proofs.lemmas.Result.{err_from_is_err_and}
use Rattle.model.specs.Sets.{in_set}
use Rattle.codec.specs.Places.{set_from}
use Rattle.codec.proofs.Refusing.{refused-by}
use Rattle.query.proofs.Answers.{axes-most, member-refused, member-misfit, member-gives, holding_is}
use Rattle.query.proofs.Points.{point-taken}
use Rattle.query.proofs.membership.member.Goals as goal

pub returns-in_err-check : goal.returns-in_err-check
returns-in_err-check c =
    let p = err_from_is_err_and c.from_residual.result c.from_residual.ensures.1 in
    rw (p.1, p.2) (member-refused c.args.n c.args.set.now c.args.point _ (refused-by _ _ c.in_err-check.ensures))

pub returns-then-not-point_fits : goal.returns-then-not-point_fits
returns-then-not-point_fits c = member-misfit c.args.n c.args.set.now c.args.point (sym c.in_ok-check.ensures) (sym c.if-not-point_fits.ensures)

pub slice_bounds-x-end : goal.slice_bounds-x-end
slice_bounds-x-end c = let m = axes-most c.args.n c.args.set.now (sym c.in_ok-check.ensures) in omega (arith, c.widened-x.ensures.1)

pub slice_bounds-first_holding-end : goal.slice_bounds-first_holding-end
slice_bounds-first_holding-end c = let m = axes-most c.args.n c.args.set.now (sym c.in_ok-check.ensures) in omega (arith, c.widened-x.ensures.1, length-take c.args.n c.widened-x.result)

pub first_holding-requires : goal.first_holding-requires
first_holding-requires c =
    let z = sym c.in_ok-check.ensures in let w = c.widened-x.ensures in
    (record { n = c.args.n; accepted = z }, point-taken c.args.n c.args.point c.widened-x.result w.0 w.1 (axes-most c.args.n c.args.set.now z) (sym c.if-not-point_fits.ensures))

pub returns : goal.returns
returns c =
    let x = c.widened-x.result in
    member-gives c.args.n c.args.set.now c.args.point (sym c.in_ok-check.ensures) (sym c.if-not-point_fits.ensures) _
    (c.is_some.ensures ∙ ap is_some c.first_holding.ensures ∙ holding_is (take c.args.n x) (set_from c.args.set.now 0) 0
    ∙ ap (λ (l : List ℤ). in_set (take c.args.n l) (set_from c.args.set.now 0)) c.widened-x.ensures.0)
