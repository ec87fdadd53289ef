use Rattle.std.proofs.Common.{sym, refl, ap, ◌∙◌, get_or, pos, neg_ℤ, ◌-ℤ◌, arith}
use Rattle.wide_tableau.specs.Cells.{cells}
use Rattle.tableau.proofs.Lines as L
use Rattle.wide_tableau.proofs.row.negate.Goals as goal

pub loop-i-init : goal.loop-i-init
loop-i-init c = record { sheet = c.requires.0; negated = L.up_to-none _ _ }

pub loop-i-preserved : goal.loop-i-preserved
unfolding L.each
loop-i-preserved c =
    let i = c.loop-i.i in
    let r = cells c.args.r.now in
    let f = c.requires.1 in
    record {
      sheet = c.set_cell.ensures.sheet;
      negated =
          c.set_cell.ensures.is
          ∙ L.up_to-more (pos 0) (L.each (λ x. pos 0 -ℤ x)) i r (cells c.loop-i.r) _ (omega (arith, f.fit, f.long)) c.loop-i.invariant.negated
          (c.negate-z.ensures.0 ∙ ap neg_ℤ c.cell_at.ensures.0 ∙ sym (L.minus_is (get_or (cells c.loop-i.r) i (pos 0))));
    }

pub returns : goal.returns
returns c =
    record {
      is = c.loop-i.invariant.negated ∙ L.up_to-line (λ x. pos 0 -ℤ x) c.args.n c.loop-i.i (cells c.args.r.now) refl c.requires.1 (omega arith) (omega (arith, c.requires.1.fit));
      sheet = c.loop-i.invariant.sheet;
    }
