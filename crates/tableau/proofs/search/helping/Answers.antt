use Rattle.std.proofs.Common.{◌≡◌, arith, sym, ◌∙◌, length}
use Rattle.tableau.specs.Rows.{helps_at, helping as helping_of}
use Rattle.tableau.proofs.Searches.{first-start, first-yes, first-no, first-end}
use Rattle.tableau.proofs.search.helping.Goals as goal

pub loop-v-init : goal.loop-v-init
loop-v-init c = first-start _ _

pub returns-then-column_helps : goal.returns-then-column_helps
unfolding helping_of
returns-then-column_helps c =
    first-yes (helps_at c.args.r.now c.args.place.now c.args.kinds.now) (length c.args.place.now) c.loop-v.v c.loop-v-test.true (sym c.column_helps.ensures ∙ c.if-column_helps.true) ∙ c.loop-v.invariant

pub loop-v-preserved : goal.loop-v-preserved
loop-v-preserved c =
    first-no (helps_at c.args.r.now c.args.place.now c.args.kinds.now) (length c.args.place.now) c.loop-v.v c.loop-v-test.true (sym c.column_helps.ensures ∙ c.if-column_helps.false) ∙ c.loop-v.invariant

pub returns : goal.returns
unfolding helping_of
returns c =
    let e : length c.args.place.now ≡ c.loop-v.v = omega arith in
    e ∙ first-end (helps_at c.args.r.now c.args.place.now c.args.kinds.now) (length c.args.place.now) c.loop-v.v c.loop-v-test.false ∙ c.loop-v.invariant
