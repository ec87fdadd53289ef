use Rattle.std.proofs.Common.{length-take, take, arith, sym, ap, ◌∙◌, ℤ, List}
use Rattle.codec.specs.Bytes.{decode, number}
use Rattle.codec.specs.Places.{set_from}
use Rattle.query.specs.Holder.{first_holding, in_either}
use Rattle.query.proofs.Answers.{axes-most}
use Rattle.query.proofs.Points.{point-taken}
use Rattle.query.proofs.Seats.{refused-some, accepted-some, bad-first, bad-second, bad-point, good}
use Rattle.query.proofs.holders.seated.Goals as goal

pub returns-in_err-ok : goal.returns-in_err-ok
returns-in_err-ok c =
    let r = refused-some c.check.result (decode c.args.n c.args.a.now) c.in_err-ok.ensures.variant c.check.ensures in
    rw c.from_residual.ensures (bad-first c.args.n c.args.a.now c.args.b.now c.args.point r.0 r.1)

pub returns-in_err-ok-2 : goal.returns-in_err-ok-2
returns-in_err-ok-2 c =
    let r = refused-some c.check-2.result (decode c.args.n c.args.b.now) c.in_err-ok-2.ensures.variant c.check-2.ensures in
    rw c.from_residual-in_err-ok-2.ensures
    (bad-second c.args.n c.args.a.now c.args.b.now c.args.point r.0 (accepted-some c.check.result (number (decode c.args.n c.args.a.now)) c.in_ok-ok.ensures.variant c.check.ensures) r.1)

pub returns-then-not-point_fits : goal.returns-then-not-point_fits
returns-then-not-point_fits c =
    let z = accepted-some c.check.result (number (decode c.args.n c.args.a.now)) c.in_ok-ok.ensures.variant c.check.ensures in
    let w = accepted-some c.check-2.result (number (decode c.args.n c.args.b.now)) c.in_ok-ok-2.ensures.variant c.check-2.ensures in
    bad-point c.args.n c.args.a.now c.args.b.now c.args.point z w (sym c.if-not-point_fits.ensures)

pub slice_bounds-x-end : goal.slice_bounds-x-end
slice_bounds-x-end c =
    let z = accepted-some c.check.result (number (decode c.args.n c.args.a.now)) c.in_ok-ok.ensures.variant c.check.ensures in
    let m = axes-most c.args.n c.args.a.now z in omega (arith, c.widened-x.ensures.1)

pub slice_bounds-seat_of-end : goal.slice_bounds-seat_of-end
slice_bounds-seat_of-end c =
    let z = accepted-some c.check.result (number (decode c.args.n c.args.a.now)) c.in_ok-ok.ensures.variant c.check.ensures in
    let m = axes-most c.args.n c.args.a.now z in omega (arith, c.widened-x.ensures.1, length-take c.args.n c.widened-x.result)

pub seat_of-requires : goal.seat_of-requires
seat_of-requires c =
    let z = accepted-some c.check.result (number (decode c.args.n c.args.a.now)) c.in_ok-ok.ensures.variant c.check.ensures in
    let w = accepted-some c.check-2.result (number (decode c.args.n c.args.b.now)) c.in_ok-ok-2.ensures.variant c.check-2.ensures in
    let x = c.widened-x.ensures in (
      record { n = c.args.n; accepted = z },
      record { n = c.args.n; accepted = w },
      point-taken c.args.n c.args.point c.widened-x.result x.0 x.1 (axes-most c.args.n c.args.a.now z) (sym c.if-not-point_fits.ensures),
    )

pub returns : goal.returns
returns c =
    let z = accepted-some c.check.result (number (decode c.args.n c.args.a.now)) c.in_ok-ok.ensures.variant c.check.ensures in
    let w = accepted-some c.check-2.result (number (decode c.args.n c.args.b.now)) c.in_ok-ok-2.ensures.variant c.check-2.ensures in
    c.seat_of.ensures
    ∙ ap (λ (x : List ℤ). in_either (first_holding 1 (take c.args.n x) (set_from c.args.a.now 0)) (first_holding 1 (take c.args.n x) (set_from c.args.b.now 0))) c.widened-x.ensures.0
    ∙ good c.args.n c.args.a.now c.args.b.now c.args.point z w (sym c.if-not-point_fits.ensures)
