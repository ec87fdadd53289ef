use Rattle.std.proofs.Common.{◌+◌, ◌-◌, sym, ap, ◌∙◌, get_or, Bool, false, cond, pos, arith}
use mathlib.Core.Path.{ap₂}
use Rattle.wide_tableau.specs.Cells.{cells}
use borrow.Author.Tests.{le-ltb}
use Rattle.std.proofs.lemmas.Bool.Decides.{nat_tests}
use Rattle.tableau.specs.Rows as R
use Rattle.wide_tableau.proofs.search.column_helps.Goals as goal

pub returns-then-i-ge64 : goal.returns-then-i-ge64
unfolding R.helps_at
returns-then-i-ge64 c =
    let r = cells c.args.r.now in
    let i = get_or c.args.place.now c.args.v 0 in
    let k = get_or c.args.kinds.now c.args.v 0 in
    c.is_helping.ensures ∙ ap₂ (R.helps_by k) c.cell_at.ensures.0 c.cell_at-then-i-ge64.ensures.0
    ∙ sym (ap (λ (b : Bool). cond b false (R.helps_by k (get_or r 1 (pos 0)) (get_or r (i - 64 + 2) (pos 0)))) (le-ltb i 64 c.if-i-ge64.true))

pub returns-else-i-ge64 : goal.returns-else-i-ge64
unfolding R.helps_at
returns-else-i-ge64 c = grind (arith, nat_tests)
