use Rattle.std.proofs.Common.{ℕ, ◌<◌, sym, ap, ◌∙◌, arith, lit<}
use Rattle.wide.specs.Wide.{size, value_of}
use Prim.Native.Nat.{◌%◌}
use native.Mathlib.Nat.{lt_of_le_of_lt, le_of_eq}
use Rattle.wide.proofs.Signs.{nat_abs-signed}
use Rattle.wide.proofs.Sizes.{low_digit}
use Rattle.wide_tableau.proofs.Sheets.{sheet-set}
use Rattle.wide_tableau.proofs.row.set_cell.Goals as goal

pub returns : goal.returns
returns c =
    let x = c.args.x in
    let n = nat_abs-signed x.neg (size x.magnitude) in
    let low : x.magnitude.lo < 18446744073709551616 = omega (arith, c.well_formed) in
    sheet-set c.args.r.now c.args.i (value_of x) c.high_of.result x.magnitude.lo c.requires.0 c.requires.1 (lt_of_le_of_lt (le_of_eq n) c.requires.2) c.high_of.ensures
    (sym (ap (λ (k : ℕ). k % 18446744073709551616) n ∙ low_digit 9223372036854775808 18446744073709551616 (lit< tt) x.magnitude.hi x.magnitude.lo low))
