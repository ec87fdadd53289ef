use Rattle.std.proofs.Common.{sym, ◌∙◌, get_or, pos, arith, rules}
use Rattle.wide_tableau.specs.Cells.{cells}
use lib.ListN.{replicate}
use mir.Syntax.{w64}
use mir.Val.{SFits}
use mir.Facts.{to_z-of_z}
use Rattle.model.proofs.Lists.{from_list, from_list-is, up_to-from}
use Rattle.wide_tableau.proofs.Sheets.{sheet-long}
use Rattle.wide_tableau.proofs.Carries.{blank}
use Rattle.tableau.proofs.Lines as L
use Rattle.wide_tableau.proofs.row.carry_row.Goals as goal

pub loop-i-init : goal.loop-i-init
loop-i-init c = record { sheet = blank; carried = L.up_to-none _ _ }

pub loop-i-preserved : goal.loop-i-preserved
loop-i-preserved c =
    let i = c.loop-i.i in
    let s = c.args.s.now in
    let x : SFits w64 (get_or s i (pos 0)) = search rules in
    let long = c.requires in
    record {
      sheet = c.set_cell.ensures.sheet;
      carried =
          c.set_cell.ensures.is
          ∙ L.up_to-more (pos 0) (from_list (pos 0) s) i (cells (replicate 36 0)) (cells c.loop-i.out) _ (omega (arith, sheet-long (replicate 36 0) blank)) c.loop-i.invariant.carried
          (c.widen.ensures.0 ∙ to_z-of_z x ∙ sym (from_list-is (pos 0) s i _));
    }

pub returns : goal.returns
returns c =
    let e = sheet-long (replicate 36 0) blank in
    record {
      is = c.loop-i.invariant.carried ∙ up_to-from (pos 0) c.loop-i.i (cells (replicate 36 0)) c.args.s.now (omega (arith, c.requires)) (e ∙ sym c.requires);
      sheet = c.loop-i.invariant.sheet;
    }
