use Rattle.std.proofs.Common.{arith}
use Rattle.codec.specs.Bytes.{kind_of}
use Rattle.listing.proofs.Writing.{writes_more, writes-same}
use Rattle.listing.proofs.LineTexts.{constraint-text}
use Rattle.listing.proofs.lines.constraint_line.Goals as goal

pub returns : goal.returns
returns c =
    writes-same (omega arith)
    (constraint-text c.args.n c.args.k c.u32_at.result (kind_of c.args.b) c.args.t.now c.requires.1 c.requires.2 c.u32_at.ensures.is)
    (writes_more c.kind_word-at.ensures
    (writes_more (writes_more c.number-at.ensures (writes_more c.coefficients-at.ensures c.coefficients-at-2.ensures)) c.word.ensures))
