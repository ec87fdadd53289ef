use Rattle.std.proofs.Common.{arith}
use Rattle.codec.proofs.Leading.{ends_of}
use Rattle.codec.proofs.accepting.accepted_end.Goals as goal

pub returns : goal.returns
returns c =
    let c' = c.constraints-c.result in
    ends_of _ _ _ _ _ _ _ c' c.requires.0 c.divisions-d.ensures (omega arith) c.constraints-c.ensures (omega arith)
    (c.is_in_range.ensures c.if-not-is_in_range.false) (c.is_in_range-else-not-is_in_range.ensures c.if-not-is_in_range-2.false)
