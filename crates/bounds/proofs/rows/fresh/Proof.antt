use mathlib.Core.Path.{sym, ap, subst}
use lib.IntN.{ℤ, pos, nat_abs}
use lib.ListN.{set, replicate}
use mir.Syntax.{w64}
use borrow.Author.Rules.{rules}
use Rattle.integers.specs.Mach.{to_z-nat}
use Rattle.bounds.specs.Rows.{Row}
use Rattle.bounds.proofs.Sides.{fresh-row}
use Rattle.bounds.proofs.rows.fresh.Statement.{statement}
use Rattle.bounds.proofs.rows.fresh.Tie as tie

cast-r : tie.Need-overflow_cast-r
cast-r c = search rules

array-set-from-r : tie.Need-bounds-r-128
array-set-from-r c = search rules

returns : tie.Need-returns
returns c =
    let e = to_z-nat w64 c.args.start 9223372036854775808 c.requires tt in
    (ap nat_abs e, λ s n l o. subst (λ (z : ℤ). Row s n (set (replicate 129 (pos 0)) 128 z)) (sym e) (fresh-row s c.args.start n o l))

pub fresh_spec : {M : Type 1} → statement M
fresh_spec = tie.close (tie.spec cast-r array-set-from-r returns)
