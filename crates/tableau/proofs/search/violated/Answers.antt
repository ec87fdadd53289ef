use Rattle.std.proofs.Common.{◌≡◌, arith, sym, ◌∙◌, length}
use Rattle.tableau.specs.Rows.{violated_at, violated as violated_of}
use Rattle.tableau.proofs.Searches.{first-start, first-yes, first-no, first-end}
use Rattle.tableau.proofs.search.violated.Goals as goal

pub loop-v-init : goal.loop-v-init
loop-v-init c = first-start _ _

pub returns-then-row_violated : goal.returns-then-row_violated
unfolding violated_of
returns-then-row_violated c =
    first-yes (violated_at c.args.t.now c.args.place.now c.args.kinds.now) (length c.args.place.now) c.loop-v.v c.loop-v-test.true (sym c.row_violated.ensures ∙ c.if-row_violated.true) ∙ c.loop-v.invariant

pub loop-v-preserved : goal.loop-v-preserved
loop-v-preserved c =
    first-no (violated_at c.args.t.now c.args.place.now c.args.kinds.now) (length c.args.place.now) c.loop-v.v c.loop-v-test.true (sym c.row_violated.ensures ∙ c.if-row_violated.false) ∙ c.loop-v.invariant

pub returns : goal.returns
unfolding violated_of
returns c =
    let e : length c.args.place.now ≡ c.loop-v.v = omega arith in
    e ∙ first-end (violated_at c.args.t.now c.args.place.now c.args.kinds.now) (length c.args.place.now) c.loop-v.v c.loop-v-test.false ∙ c.loop-v.invariant
