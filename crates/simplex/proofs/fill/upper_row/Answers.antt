use Rattle.std.proofs.Common.{◌≡◌, ◌+◌, ◌<◌, pos, negsuc, ◌-ℤ◌, ap, ◌∙◌, subst, arith, rules}
use Rattle.std.proofs.lemmas.Int.{ints}
use Rattle.std.proofs.Math.ListN.{set}
use mir.Syntax.{w32, w64}
use mir.Val.{SFits, to_z, of_z}
use mir.Facts.{to_z-of_z}
use Rattle.simplex.specs.Table.{Started}
use Rattle.simplex.proofs.Fills.{word_fits, count_is, upper_fits, upper_is}
use Rattle.simplex.proofs.fill.upper_row.Goals as goal

pub overflow_sub-divisor-2 : goal.overflow_sub-divisor-2
overflow_sub-divisor-2 c =
    let d = c.args.e.divisor in
    let z = c.args.e.constant in
    let under : d < 4294967296 = search rules in
    let f : SFits w32 z = search rules in
    let less : SFits w64 (pos d -ℤ pos 1) = omega (arith, ints) in
    rw (c.from-divisor.ensures, count_is d under, to_z-of_z less, c.from.ensures, to_z-of_z f, to_z-of_z (word_fits f))
    (upper_fits d z under f)

pub returns : goal.returns
returns c =
    let e = c.args.e in
    let l = c.row_of.new.r in
    let d = c.from-divisor.result in
    let fits : SFits w32 e.constant = search rules in
    let under : e.divisor < 4294967296 = search rules in
    let constant : to_z w64 (of_z w64 (to_z w64 (of_z w64 (to_z w64 (of_z w64 d) -ℤ pos 1)) -ℤ to_z w64 (of_z w64 c.from.result))) ≡ pos e.divisor -ℤ pos 1 -ℤ e.constant = omega (arith, ints, c.from-divisor.ensures, c.from.ensures) in
    let divisor : to_z w64 (of_z w64 d) ≡ pos e.divisor = omega (arith, ints, c.from-divisor.ensures) in
    ap (set l (c.args.i + 2)) divisor
    ∙ upper_is c.args.k c.args.i e.divisor e.constant e.axes l c.requires.k_le_most_divisions c.requires.i_lt_k (subst (λ z. Started c.args.k z (negsuc 0) e.axes l) constant c.row_of.ensures)
