-- The same sign: the sizes add up. Other signs: the smaller size is taken off the larger.
use Rattle.std.proofs.Common.{◌≡◌, ap, sym, ◌∙◌, not, arith}
use Rattle.std.proofs.lemmas.Grind.{common_steps}
use native.Mathlib.Nat.{le_of_lt}
use borrow.Author.Tests.{ltb-true, ltb-false}
use Rattle.wide.specs.Wide.{signed, size}
use Rattle.wide.proofs.Signs.{add_comm, alike, signed-take, xor-differs}
use Rattle.wide.proofs.signed.plus.Goals as goal

pub returns-then-x-y : goal.returns-then-x-y
returns-then-x-y c =
    let x = c.args.x in
    let y = c.args.y in
    alike x.neg y.neg (size x.magnitude) (size y.magnitude) _ (sym (xor-differs x.neg y.neg) ∙ ap not c.if-x-y.true) c.sum.ensures

pub returns-then-less : goal.returns-then-less
returns-then-less c =
    let x = c.args.x in
    let y = c.args.y in
    let m = size x.magnitude in
    let n = size y.magnitude in
    let s : x.neg ≡ not y.neg = grind (arith, common_steps) in
    let h = le_of_lt (ltb-true _ _ (sym c.less.ensures ∙ c.if-less.true)) in
    rw (c.difference.ensures, s) (signed-take y.neg n m h ∙ add_comm (signed y.neg n) (signed (not y.neg) m))

pub returns-else-less : goal.returns-else-less
returns-else-less c =
    let x = c.args.x in
    let y = c.args.y in
    let s : y.neg ≡ not x.neg = grind (arith, common_steps) in
    let h = ltb-false _ _ (sym c.less.ensures ∙ c.if-less.false) in
    rw (c.difference-else-less.ensures, s) (signed-take x.neg (size x.magnitude) (size y.magnitude) h)
