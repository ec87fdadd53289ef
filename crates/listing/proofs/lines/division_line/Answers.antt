use Rattle.std.proofs.Common.{arith}
use Rattle.listing.proofs.Writing.{writes_more, writes-same}
use Rattle.listing.proofs.LineTexts.{division-text}
use Rattle.listing.proofs.lines.division_line.Goals as goal

pub returns : goal.returns
returns c =
    writes-same (omega arith) (division-text c.args.n c.args.d c.u32_at.result c.args.t.now c.requires.1 c.u32_at.ensures.is)
    (writes_more c.word-at.ensures (writes_more (writes_more c.natural-at.ensures (writes_more c.number-at.ensures c.coefficients-at.ensures)) c.word.ensures))
