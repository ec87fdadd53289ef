use Rattle.listing.proofs.Writing.{writes_more}
use Rattle.listing.proofs.text.natural.Goals as goal

pub returns : goal.returns
returns c = writes_more c.word-at.ensures c.digits.ensures
