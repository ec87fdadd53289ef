use Rattle.counting.proofs.Calling.{zeros-most, walk-all}
use Rattle.counting.proofs.calls.walked.Goals as goal

pub level-requires : goal.level-requires
level-requires c =
    let b = c.begin-all.ensures in let k = c.requires.1 in
    (b.ready, b.rowed, k.axis, k.first, zeros-most _ k.none)

pub returns : goal.returns
returns c = let a = c.args in walk-all a.s.now a.n a.low a.high a.limit _ _ c.begin-all.ensures a.c a.each.now _ _ c.level.ensures.is
