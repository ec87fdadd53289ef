use Rattle.std.proofs.Common.{◌≡◌, sym, ◌∙◌, length, arith}
use Rattle.wide_tableau.specs.Cells.{rows_of}
use Rattle.tableau.proofs.Searches as Q
use Rattle.tableau.specs.Rows as R
use Rattle.wide_tableau.proofs.search.violated.Goals as goal

pub loop-v-init : goal.loop-v-init
loop-v-init c = Q.first-start _ _

pub returns-then-row_violated : goal.returns-then-row_violated
unfolding R.violated
returns-then-row_violated c =
    Q.first-yes (R.violated_at (rows_of c.args.t.now) c.args.place.now c.args.kinds.now) (length c.args.place.now) c.loop-v.v c.loop-v-test.true (sym c.row_violated.ensures ∙ c.if-row_violated.true) ∙ c.loop-v.invariant

pub loop-v-preserved : goal.loop-v-preserved
loop-v-preserved c =
    Q.first-no (R.violated_at (rows_of c.args.t.now) c.args.place.now c.args.kinds.now) (length c.args.place.now) c.loop-v.v c.loop-v-test.true (sym c.row_violated.ensures ∙ c.if-row_violated.false) ∙ c.loop-v.invariant

pub returns : goal.returns
unfolding R.violated
returns c =
    let e : length c.args.place.now ≡ c.loop-v.v = omega arith in
    e ∙ Q.first-end (R.violated_at (rows_of c.args.t.now) c.args.place.now c.args.kinds.now) (length c.args.place.now) c.loop-v.v c.loop-v-test.false ∙ c.loop-v.invariant
