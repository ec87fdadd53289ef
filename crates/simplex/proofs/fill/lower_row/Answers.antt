use Rattle.std.proofs.Common.{◌≡◌, ◌+◌, ◌<◌, pos, neg_ℤ, ◌-ℤ◌, ap, ◌∙◌, subst, arith, rules}
use Rattle.std.proofs.lemmas.Int.{ints}
use Rattle.std.proofs.Math.ListN.{set}
use mir.Syntax.{w32, w64}
use mir.Val.{SFits, to_z, of_z}
use mir.Facts.{to_z-of_z}
use Rattle.simplex.specs.Table.{Started}
use Rattle.simplex.proofs.Fills.{count_is, minus-fits, lower-is}
use Rattle.simplex.proofs.fill.lower_row.Goals as goal

pub overflow_sub-r : goal.overflow_sub-r
overflow_sub-r c =
    let d = c.args.e.divisor in
    let under : d < 4294967296 = search rules in
    rw (c.from-2.ensures, count_is d under) (minus-fits d under)

pub returns : goal.returns
returns c =
    let e = c.args.e in
    let l = c.row_of.new.r in
    let fits : SFits w32 e.constant = search rules in
    let under : e.divisor < 4294967296 = search rules in
    let constant : to_z w64 (of_z w64 c.from.result) ≡ e.constant = to_z-of_z {w = w64} (record { sfits = c.from.type_inv }) ∙ c.from.ensures ∙ to_z-of_z fits in
    let opposite : to_z w64 (of_z w64 (pos 0 -ℤ to_z w64 (of_z w64 c.from-2.result))) ≡ neg_ℤ (pos e.divisor) = omega (arith, ints, c.from-2.ensures) in
    ap (set l (c.args.i + 2)) opposite
    ∙ lower-is c.args.k c.args.i e.divisor e.constant e.axes l c.requires.k_le_most_divisions c.requires.i_lt_k (subst (λ z. Started c.args.k z (pos 1) e.axes l) constant c.row_of.ensures)
