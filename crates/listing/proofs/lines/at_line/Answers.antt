use Rattle.std.proofs.Common.{arith}
use Rattle.listing.proofs.Writing.{writes_more, writes-same}
use Rattle.listing.proofs.LineTexts.{at-text}
use Rattle.listing.proofs.lines.at_line.Goals as goal

pub returns : goal.returns
returns c =
    writes-same (omega arith) (at-text c.args.n c.args.p c.args.k)
    (writes_more c.word-at.ensures (writes_more c.coordinates-at.ensures (writes_more c.natural-at.ensures c.word.ensures)))
