use Rattle.std.proofs.Common.{arith}
use Rattle.simplex.proofs.Fills.{bounded-more}
use Rattle.simplex.proofs.fill.fill_bounds.Goals as goal

pub loop-i-preserved : goal.loop-i-preserved
loop-i-preserved c =
    bounded-more c.args.ds c.args.k c.loop-i.i _ c.args.rows.now c.loop-i.rows _ _ (omega arith) (omega arith) c.lower_row.ensures c.upper_row.ensures c.loop-i.invariant
