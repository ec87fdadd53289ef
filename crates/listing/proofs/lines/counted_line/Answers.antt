use Rattle.std.proofs.Common.{refl, arith}
use Rattle.listing.proofs.Writing.{writes_more, writes-same}
use Rattle.listing.proofs.lines.counted_line.Goals as goal

pub returns : goal.returns
returns c = writes-same (omega arith) refl (writes_more c.word-at.ensures (writes_more c.natural-at.ensures c.word.ensures))
