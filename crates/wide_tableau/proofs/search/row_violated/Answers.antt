use Rattle.std.proofs.Common.{sym, ap, ◌∙◌, List, [], get_or, Bool, false, cond, pos, arith}
use Rattle.std.specs.Prelude.{ℤ}
use Rattle.wide_tableau.specs.Cells.{rows_of}
use borrow.Author.Tests.{lt-ltb}
use Rattle.std.proofs.lemmas.Bool.Decides.{nat_tests}
use Rattle.wide_tableau.proofs.Sheets.{rows_at}
use Rattle.tableau.specs.Rows as R
use Rattle.wide_tableau.proofs.search.row_violated.Goals as goal

pub returns-then-i-lt64 : goal.returns-then-i-lt64
unfolding R.violated_at
returns-then-i-lt64 c =
    let t = c.args.t.now in
    let i = get_or c.args.place.now c.args.v 0 in
    let k = get_or c.args.kinds.now c.args.v 0 in
    c.is_violated.ensures ∙ ap (R.violated_by k) (c.constant_at.ensures ∙ ap (λ (r : List ℤ). get_or r 1 (pos 0)) (sym (rows_at t i)))
    ∙ sym (ap (λ (b : Bool). cond b (R.violated_by k (get_or (get_or (rows_of t) i []) 1 (pos 0))) false) (lt-ltb i 64 c.if-i-lt64.true))

pub returns-else-i-lt64 : goal.returns-else-i-lt64
unfolding R.violated_at
returns-else-i-lt64 c = grind (arith, nat_tests)
