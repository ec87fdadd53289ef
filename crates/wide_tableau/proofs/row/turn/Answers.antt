use Rattle.std.proofs.Common.{◌≡◌, ◌+◌, sym, ap, ◌∙◌, List, set, Bool, true, false, pos, neg_ℤ, ◌-ℤ◌}
use Rattle.std.specs.Prelude.{ℤ}
use mathlib.Core.Path.{ap₂}
use Rattle.wide_tableau.specs.Cells.{cells}
use Rattle.wide.specs.Wide.{value_of}
use Rattle.std.specs.Int.Signed.{lt_z}
use Rattle.tableau.specs.Rows as R
use Rattle.tableau.proofs.Lines as L
use Rattle.wide_tableau.proofs.row.turn.Goals as goal

pub returns-then-is_negative : goal.returns-then-is_negative
unfolding R.turn_row
returns-then-is_negative c =
    let r = cells c.args.r.now in
    let j = c.args.j in
    let ex : value_of c.negate.result ≡ pos 0 -ℤ R.entry r j = c.negate.ensures.0 ∙ ap neg_ℤ c.cell_at-a.ensures.0 ∙ sym (L.minus_is (R.entry r j)) in
    let ey : value_of c.negate-then-is_negative.result ≡ pos 0 -ℤ R.den r = c.negate-then-is_negative.ensures.0 ∙ ap neg_ℤ c.cell_at-d.ensures.0 ∙ sym (L.minus_is (R.den r)) in
    let e : lt_z (R.entry r j) (pos 0) ≡ true = sym (ap (λ (z : ℤ). lt_z z (pos 0)) c.cell_at-a.ensures.0) ∙ sym c.is_negative.ensures ∙ c.if-is_negative.true in
    record {
      is =
          c.set_cell-then-is_negative.ensures.is
          ∙ ap₂ (λ (l : List ℤ) (v : ℤ). set l (j + 2) v) (c.set_cell.ensures.is ∙ ap (set r 0) ex) ey ∙ sym (ap (λ (b : Bool). R.turn_by b r j) e);
      sheet = c.set_cell-then-is_negative.ensures.sheet;
    }

pub returns-else-is_negative : goal.returns-else-is_negative
unfolding R.turn_row
returns-else-is_negative c =
    let r = cells c.args.r.now in
    let j = c.args.j in
    let e : lt_z (R.entry r j) (pos 0) ≡ false = sym (ap (λ (z : ℤ). lt_z z (pos 0)) c.cell_at-a.ensures.0) ∙ sym c.is_negative.ensures ∙ c.if-is_negative.false in
    record {
      is =
          c.set_cell-else-is_negative-2.ensures.is
          ∙ ap₂ (λ (l : List ℤ) (v : ℤ). set l (j + 2) v) (c.set_cell-else-is_negative.ensures.is ∙ ap₂ (λ (l : List ℤ) (v : ℤ). set l 0 v) c.negate-else-is_negative.ensures.is c.cell_at-a.ensures.0) c.cell_at-d.ensures.0
          ∙ sym (ap (λ (b : Bool). R.turn_by b r j) e);
      sheet = c.set_cell-else-is_negative-2.ensures.sheet;
    }
