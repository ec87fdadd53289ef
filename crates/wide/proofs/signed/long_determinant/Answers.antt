use Rattle.std.proofs.Common.{lit≤}
use Rattle.wide.proofs.Sizes.{both-fit, det-is}
use Rattle.wide.proofs.signed.long_determinant.Goals as goal

pub minus-requires : goal.minus-requires
minus-requires c =
    let h = c.requires in
    both-fit 128 (lit≤ tt) c.times.result c.times-2.result h.0 h.1 h.2 h.3 c.times.ensures c.times-2.ensures

pub returns : goal.returns
returns c =
    let h = c.requires in
    det-is 128 (lit≤ tt) c.times.result c.times-2.result h.0 h.1 h.2 h.3 c.times.ensures c.times-2.ensures c.minus.result c.minus.ensures
