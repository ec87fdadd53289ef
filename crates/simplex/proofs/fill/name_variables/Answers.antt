use Rattle.std.proofs.Common.{arith}
use Rattle.simplex.proofs.Fills.{named_none, named_more}
use Rattle.simplex.proofs.fill.name_variables.Goals as goal

pub loop-v-init : goal.loop-v-init
loop-v-init c = named_none _ _ _

pub loop-v-preserved : goal.loop-v-preserved
loop-v-preserved c =
    let l = c.loop-v in
    named_more c.args.k l.v c.args.place.now l.place c.args.kinds.now l.kinds _ _ (omega arith) (omega arith)
    c.place_of.ensures c.free_or_bound.ensures l.invariant
