use Rattle.std.proofs.Common.{◌<◌, [], length, sym, ◌∙◌, arith}
use Rattle.tableau.proofs.Lines as L
use Rattle.wide_tableau.specs.Cells.{rows_of}
use Rattle.wide_tableau.proofs.Sheets.{rows-set, rows-length}
use Rattle.model.proofs.Lists.{from_list, from_list-is, up_to-from}
use Rattle.carrying.proofs.Carries.{done_none, done_next}
use Rattle.carrying.proofs.carry.carry.Goals as goal

pub loop-k-init : goal.loop-k-init
loop-k-init c = record { done = done_none c.args.out.now; carried = L.up_to-none _ _ }

pub loop-k-preserved : goal.loop-k-preserved
loop-k-preserved c =
    let l = c.loop-k in
    let rows = c.args.rows.now in
    let long = rows-length c.args.out.now in
    let within : l.k < length (rows_of c.args.out.now) = omega (arith, c.requires.0) in
    record {
      done = done_next l.k l.out _ (omega (arith, c.requires.0)) l.invariant.done c.carry_row.ensures.sheet;
      carried =
          rows-set l.out l.k _
          ∙ L.up_to-more [] (from_list [] rows) l.k (rows_of c.args.out.now) (rows_of l.out) _ within l.invariant.carried (c.carry_row.ensures.is ∙ sym (from_list-is [] rows l.k _));
    }

pub returns : goal.returns
returns c =
    let l = c.loop-k in
    let long = rows-length c.args.out.now in
    record {
      is = l.invariant.carried ∙ up_to-from [] l.k (rows_of c.args.out.now) c.args.rows.now (omega (arith, c.requires.0)) (long ∙ c.requires.0);
      sheets = record { at = λ k h. l.invariant.done.at k (omega (arith, c.requires.0)) };
    }
