use Rattle.std.proofs.Common.{◌≡◌, ◌&&◌, Bool, true, false, ℕ, refl, sym}
use Rattle.std.proofs.lemmas.Result.{err_from_is_err_and}
use Rattle.enumeration.specs.Search.{limit_fits}
use Rattle.coverage.proofs.Calling.{limited-no}
use Rattle.coverage.proofs.ranges.check_range.Goals as goal

pub returns-in_err-check_box : goal.returns-in_err-check_box
returns-in_err-check_box c =
    let a = c.args in let p = err_from_is_err_and c.from_residual.result c.from_residual.ensures.1 in
    rw (p.1, p.2) (λ (room : ℕ). c.in_err-check_box.ensures.ranges room a.inside a.outside)

pub returns-then-not-limits_fit : goal.returns-then-not-limits_fit
returns-then-not-limits_fit c = let a = c.args in limited-no a.n a.set.now a.lows a.highs a.inside a.outside c.in_ok-check_box.ensures (sym c.if-not-limits_fit.ensures)

both : (x y : Bool) → (x && y) ≡ true → (x ≡ true) × (y ≡ true)
both true y e = (refl, e)
both false y e = cc

pub returns : goal.returns
returns c =
    let a = c.args in let e = both (limit_fits a.inside) (limit_fits a.outside) (sym c.if-not-limits_fit.ensures) in
    record { boxed = c.in_ok-check_box.ensures; limit_inside = e.0; limit_outside = e.1 }
