use Rattle.std.proofs.Common.{ap, ◌∙◌, pos, arith}
use Rattle.std.specs.Prelude.{ℤ}
use Rattle.wide_tableau.specs.Cells.{cells}
use Rattle.wide.specs.Wide.{size}
use Rattle.std.specs.Int.Signed.{quot_z}
use Rattle.tableau.proofs.Lines as L
use Rattle.wide_tableau.proofs.row.divide.Goals as goal

pub loop-i-init : goal.loop-i-init
loop-i-init c = record { sheet = c.requires.0; divided = L.up_to-none _ _ }

pub loop-i-preserved : goal.loop-i-preserved
unfolding L.each
loop-i-preserved c =
    let i = c.loop-i.i in
    let r = cells c.args.r.now in
    let f = c.requires.1 in
    record {
      sheet = c.set_cell.ensures.sheet;
      divided =
          c.set_cell.ensures.is
          ∙ L.up_to-more (pos 0) (L.each (λ x. quot_z x (pos (size c.args.d)))) i r (cells c.loop-i.r) _ (omega (arith, f.fit, f.long)) c.loop-i.invariant.divided
          (c.quotient-z.ensures.0 ∙ ap (λ (z : ℤ). quot_z z (pos (size c.args.d))) c.cell_at.ensures.0);
    }

pub returns : goal.returns
returns c =
    record {
      is = c.loop-i.invariant.divided ∙ L.up_to-line (λ x. quot_z x (pos (size c.args.d))) c.args.n c.loop-i.i (cells c.args.r.now) (L.quot-zero (pos (size c.args.d)) (L.positive _ c.requires.2)) c.requires.1 (omega arith) (omega (arith, c.requires.1.fit));
      sheet = c.loop-i.invariant.sheet;
    }
