use Rattle.std.proofs.Common.{◌≡◌, ℕ, ◌<◌, sym, ap, ◌∙◌, subst, map, pos}
use Rattle.wide_tableau.specs.Cells.{cells}
use Rattle.wide.specs.Wide.{size}
use Rattle.std.specs.Int.Signed.{quot_z}
use borrow.Author.Tests.{eqb-true}
use Rattle.tableau.specs.Rows as R
use Rattle.tableau.proofs.Lines as L
use Rattle.wide_tableau.proofs.row.reduce_by.Goals as goal

pub divide-requires : goal.divide-requires
divide-requires c =
    (c.requires.0, c.requires.1, subst (λ (n : ℕ). 0 < n) (sym c.requires.3) (L.row-divisor (cells c.args.r.now) c.requires.2).0)

pub returns-then-not-is_one : goal.returns-then-not-is_one
unfolding R.reduce_row R.divide_row
returns-then-not-is_one c =
    record {
      is = c.divide.ensures.is ∙ ap (λ (n : ℕ). map (λ x. quot_z x (pos n)) (cells c.args.r.now)) c.requires.3;
      sheet = c.divide.ensures.sheet;
    }

pub returns-else-not-is_one : goal.returns-else-not-is_one
unfolding R.reduce_row R.divide_row
returns-else-not-is_one c =
    let r = cells c.args.r.now in
    let e : size c.args.g ≡ 1 = eqb-true _ _ (sym c.is_one.ensures ∙ c.if-not-is_one.false) in
    record { is = sym (ap (λ (n : ℕ). map (λ x. quot_z x (pos n)) r) (sym c.requires.3 ∙ e) ∙ L.map-quot-one r); sheet = c.requires.0 }
