use Rattle.coverage.proofs.Calling.{axes-fit, box-from, taken_is}
use Rattle.coverage.proofs.outsides.taken.Goals as goal

pub boxed-p-requires : goal.boxed-p-requires
boxed-p-requires c = let a = c.args in axes-fit a.n a.set.now a.lows a.highs c.requires

pub subtract_from-d-requires : goal.subtract_from-d-requires
subtract_from-d-requires c = let a = c.args in box-from a.n a.set.now a.lows a.highs c.requires c.boxed-p.result c.boxed-p.ensures

pub returns : goal.returns
returns c =
    let a = c.args in let d = c.subtract_from-d in
    taken_is a.n a.set.now a.lows a.highs c.requires c.boxed-p.result c.boxed-p.ensures a.out.now _ c.finish.new.out d.result c.finish.result d.auto.out d.ensures c.finish.ensures
