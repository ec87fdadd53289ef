use Rattle.std.proofs.Common.{◌≡◌, sym, ◌∙◌, length, arith}
use Rattle.wide_tableau.specs.Cells.{cells}
use Rattle.tableau.proofs.Searches as Q
use Rattle.tableau.specs.Rows as R
use Rattle.wide_tableau.proofs.search.helping.Goals as goal

pub loop-v-init : goal.loop-v-init
loop-v-init c = Q.first-start _ _

pub returns-then-column_helps : goal.returns-then-column_helps
unfolding R.helping
returns-then-column_helps c =
    Q.first-yes (R.helps_at (cells c.args.r.now) c.args.place.now c.args.kinds.now) (length c.args.place.now) c.loop-v.v c.loop-v-test.true (sym c.column_helps.ensures ∙ c.if-column_helps.true) ∙ c.loop-v.invariant

pub loop-v-preserved : goal.loop-v-preserved
loop-v-preserved c =
    Q.first-no (R.helps_at (cells c.args.r.now) c.args.place.now c.args.kinds.now) (length c.args.place.now) c.loop-v.v c.loop-v-test.true (sym c.column_helps.ensures ∙ c.if-column_helps.false) ∙ c.loop-v.invariant

pub returns : goal.returns
unfolding R.helping
returns c =
    let e : length c.args.place.now ≡ c.loop-v.v = omega arith in
    e ∙ Q.first-end (R.helps_at (cells c.args.r.now) c.args.place.now c.args.kinds.now) (length c.args.place.now) c.loop-v.v c.loop-v-test.false ∙ c.loop-v.invariant
