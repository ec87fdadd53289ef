use Rattle.std.proofs.Common.{refl, arith}
use Rattle.listing.proofs.Writing.{writes_part}
use Rattle.listing.proofs.text.word.Goals as goal

pub returns : goal.returns
returns c = writes_part c.args.at _ c.args.w.now c.args.out.now _ c.copy_from_slice.ensures.after refl (omega arith)
