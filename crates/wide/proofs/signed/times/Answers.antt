-- A number within the bound is its low word.
use Rattle.std.proofs.Common.{◌≡◌, ◌*◌, ◌∙◌, sym, lit<}
use mathlib.Core.Path.{ap₂}
use native.Mathlib.Nat.{le_trans, le_of_eq, lt_of_le_of_lt}
use Rattle.integers.specs.Z.{Within}
use Rattle.wide.specs.declared.Wide.{Wide}
use Rattle.wide.specs.Wide.{signed, size, value_of}
use Rattle.wide.proofs.Digits.{low_word}
use Rattle.wide.proofs.Signs.{nat_abs-signed, signed_mul, xor-differs}
use Rattle.wide.proofs.signed.times.Goals as goal

word : (x : Wide) → Within 9223372036854775807 (value_of x) → x.magnitude.lo ≡ size x.magnitude
word x h =
    low_word 18446744073709551616 x.magnitude.hi x.magnitude.lo
    (lt_of_le_of_lt (le_trans (le_of_eq (sym (nat_abs-signed x.neg (size x.magnitude)))) h.size) (lit< tt))

pub returns : goal.returns
returns c =
    let x = c.args.x in
    let y = c.args.y in
    ap₂ signed (xor-differs x.neg y.neg) (c.product.ensures ∙ ap₂ ◌*◌ (word x c.requires.0) (word y c.requires.1))
    ∙ signed_mul x.neg y.neg (size x.magnitude) (size y.magnitude)
