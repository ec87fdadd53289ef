use Rattle.std.proofs.Common.{arith}
use Rattle.listing.proofs.Writing.{writes_more, writes-same, number-low, number-high}
use Rattle.listing.proofs.text.number.Goals as goal

pub returns-then-v-size : goal.returns-then-v-size
returns-then-v-size c = writes-same (omega arith) (number-low c.args.size c.args.v c.if-v-size.true) c.natural.ensures

pub returns : goal.returns
returns c =
    writes-same (omega arith) (number-high c.args.size c.args.v c.if-v-size.false c.requires.1) (writes_more c.word-at.ensures c.digits.ensures)
