use Rattle.std.proofs.Common.{ap, ◌∙◌, nat_abs, arith}
use Rattle.std.proofs.lemmas.Int.{to_z-of_z, ints}
use Rattle.listing.proofs.Writing.{writes_more, writes-same, integer-below, integer-from}
use Rattle.listing.proofs.text.integer.Goals as goal

pub returns-then-z-lt0 : goal.returns-then-z-lt0
returns-then-z-lt0 c =
    writes-same (omega arith) (integer-below c.args.z c.unsigned_abs.result (c.unsigned_abs.ensures.value ∙ ap nat_abs (to_z-of_z _ _ c.ranges.z)) (omega (arith, ints)))
    (writes_more c.word-at.ensures c.digits.ensures)

pub returns : goal.returns
returns c =
    writes-same (omega arith) (integer-from c.args.z c.unsigned_abs-2.result (c.unsigned_abs-2.ensures.value ∙ ap nat_abs (to_z-of_z _ _ c.ranges.z)) (omega (arith, ints)))
    c.natural.ensures
