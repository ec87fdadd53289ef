-- A number whose high word is not 0 is more than any word.
use Rattle.std.proofs.Common.{sym, ◌∙◌}
use borrow.Author.Tests.{lt-leb, ne_eqb}
use Rattle.wide.proofs.Digits.{large}
use Rattle.wide.proofs.words.is_at_most.Goals as goal

pub returns-else-x-eq0 : goal.returns-else-x-eq0
returns-else-x-eq0 c =
    let x = c.args.x in
    let h = c.if-x-eq0.false in
    ne_eqb _ _ h ∙ sym (lt-leb _ _ (large c.args.most 18446744073709551616 x.hi x.lo c.ranges.most.fits h))
