-- A number whose high word is not 0 is not 0.
use Rattle.std.proofs.Common.{sym, ◌∙◌, lit<}
use borrow.Author.Tests.{ne_eqb}
use Rattle.wide.proofs.Digits.{zero_high}
use Rattle.wide.proofs.words.is_zero.Goals as goal

pub returns-else-x-eq0 : goal.returns-else-x-eq0
returns-else-x-eq0 c =
    let x = c.args.x in
    let h = c.if-x-eq0.false in
    ne_eqb _ _ h ∙ sym (ne_eqb _ _ (zero_high 18446744073709551616 x.hi x.lo (lit< tt) h))
