use Rattle.std.proofs.Common.{sym, ap, ◌∙◌}
use Rattle.codec.specs.Bytes.{gives}
use Rattle.codec.proofs.Refusing.{refused-by}
use Rattle.search.specs.Sides.{answer_of}
use Rattle.search.proofs.Searching.{search-refused, search-corners, search-limit, search-gives, search-shut}
use Rattle.search.proofs.first.first_point.Goals as goal

pub returns-in-Err : goal.returns-in-Err
returns-in-Err c =
    let a = c.args in
    c.untested.ensures ∙ search-refused a.n a.set.now a.lows a.highs a.limit _ (refused-by _ _ c.in-Err.ensures)

pub returns-then-not-corners_fit : goal.returns-then-not-corners_fit
returns-then-not-corners_fit c =
    let a = c.args in
    c.untested-then-not-corners_fit.ensures ∙ search-corners a.n a.set.now a.lows a.highs a.limit (sym c.in_default.ensures) (sym c.if-not-corners_fit.ensures)

pub returns-then-not-limit_fits : goal.returns-then-not-limit_fits
returns-then-not-limit_fits c =
    let a = c.args in
    c.untested-then-not-limit_fits.ensures ∙ search-limit a.n a.set.now a.lows a.highs a.limit (sym c.in_default.ensures) (sym c.if-not-corners_fit.ensures) (sym c.if-not-limit_fits.ensures)

pub returns-then-not-upright : goal.returns-then-not-upright
returns-then-not-upright c =
    let a = c.args in
    c.untested-then-not-upright.ensures ∙ ap answer_of (sym (search-shut a.n a.set.now a.lows a.highs a.limit (sym c.in_default.ensures) (sym c.if-not-corners_fit.ensures) (sym c.if-not-limit_fits.ensures) (sym c.if-not-upright.ensures)))

pub returns : goal.returns
returns c =
    let a = c.args in
    ap gives c.walked.ensures
    ∙ search-gives a.n a.set.now a.lows a.highs a.limit (sym c.in_default.ensures) (sym c.if-not-corners_fit.ensures) (sym c.if-not-limit_fits.ensures) (sym c.if-not-upright.ensures)
