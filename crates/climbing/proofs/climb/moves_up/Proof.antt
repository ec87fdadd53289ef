-- `climbing::climb::moves_up` meets its contract. Assumes nothing.
use mathlib.Core.Path.{◌≡◌, sym, ap, ◌∙◌}
use mathlib.Core.Bool.{Bool}
use borrow.Author.Rules.{rules}
use lib.IntN.{ℤ, pos, negsuc, neg_ℤ, ◌*ℤ◌}
use lib.Signed.{lt_z}
use Rattle.integers.specs.Z.{one-*ℤ, negℤ-*ℤ}
use Rattle.tableau.specs.Rows as R
use Rattle.wide_tableau.specs.Cells.{cells}
use Rattle.climbing.specs.Steps.{moves_up}
use Rattle.climbing.proofs.climb.moves_up.Statement.{statement}
use Rattle.climbing.proofs.climb.moves_up.Tie as tie

minus_one : (a : ℤ) → negsuc 0 *ℤ a ≡ neg_ℤ a
minus_one a = negℤ-*ℤ (pos 1) a ∙ ap neg_ℤ (one-*ℤ a)

add-cell-at : tie.Need-overflow_add-j
add-cell-at c = search rules

cell-at-requires : tie.Need-cell_at-a-requires
cell-at-requires c κs = search rules

negate-requires : tie.Need-negate-b-requires
negate-requires c κs = search rules

is-negative-requires : tie.Need-is_negative-requires
is-negative-requires c κs = search rules

returns : tie.Need-returns-then-greatest
returns c =
    let n = c.before in let t = n.before in let e = t.before in let s = e.before in let a = R.entry (cells s.args.goal.now) s.args.j in
    c.is_negative.ensures ∙ ap (λ (x : ℤ). lt_z x (pos 0)) (n.negate-b.ensures.0 ∙ ap neg_ℤ e.cell_at-a.ensures.0 ∙ sym (minus_one a))
    ∙ sym (ap (λ (b : Bool). moves_up b a) t.if-greatest.true)

is-negative-requires-2 : tie.Need-is_negative-requires-2
is-negative-requires-2 c κs = search rules

returns-2 : tie.Need-returns
returns-2 c =
    let t = c.before in let e = t.before in let s = e.before in let a = R.entry (cells s.args.goal.now) s.args.j in
    c.is_negative-2.ensures ∙ ap (λ (x : ℤ). lt_z x (pos 0)) (e.cell_at-a.ensures.0 ∙ sym (one-*ℤ a)) ∙ sym (ap (λ (b : Bool). moves_up b a) t.if-greatest.false)

pub moves_up_spec : {M : Type 1} → statement M
moves_up_spec =
    tie.close
    (tie.spec
    add-cell-at
    cell-at-requires
    negate-requires
    is-negative-requires
    returns
    is-negative-requires-2
    returns-2)
