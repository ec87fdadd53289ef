use Rattle.std.proofs.Common.{lit≤}
use Rattle.wide.proofs.Sizes.{both-fit, det-is}
use Rattle.wide.proofs.signed.determinant.Goals as goal

pub minus-requires : goal.minus-requires
minus-requires c =
    let h = c.requires in
    both-fit 128 (lit≤ tt) c.times_short.result c.times_short-then-are_short.result h.0 h.1 h.2 h.3 c.times_short.ensures c.times_short-then-are_short.ensures

pub returns-then-are_short : goal.returns-then-are_short
returns-then-are_short c =
    let h = c.requires in
    det-is 128 (lit≤ tt) c.times_short.result c.times_short-then-are_short.result h.0 h.1 h.2 h.3 c.times_short.ensures c.times_short-then-are_short.ensures c.minus.result c.minus.ensures
