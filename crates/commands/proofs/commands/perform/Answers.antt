use Rattle.std.proofs.Common.{◌≡◌, get_or, refl, sym, arith, None}
use Rattle.codec.specs.Bytes.{decode}
use Rattle.session.specs.Script.{set_at}
use Rattle.session.specs.Turns.{Effect, listing_of, state_in, memory}
use Rattle.session.proofs.Commands.{performs-list, performs-quiet, number-good, numbers-one}
use Rattle.listing.proofs.Writing.{writes-same}
use Rattle.commands.proofs.CommandLaws.{list-told, list-kept, shown-quiet, told-by}
use Rattle.commands.proofs.commands.perform.Goals as goal

pub returns-then-b-eq69 : goal.returns-then-b-eq69
returns-then-b-eq69 c =
    let s = c.args.s.now in let st = state_in c.args.axes c.args.tables.now c.args.lengths.now in record {
      told =
          list-told c.args.axes c.args.tables.now c.args.lengths.now c.args.b s c.byte-m.result _ c.byte-m.ensures.is
          (number-good _ 0 s c.requires.operands.good (numbers-one c.args.b)) c.table-set.ensures c.if-b-eq69.true c.list.ensures;
      kept =
          list-kept (memory c.args.tables.now c.args.lengths.now c.args.res.now) _ (get_or s 0 0) (decode c.args.axes (set_at st (get_or s 0 0)))
          (performs-list st _ s c.if-b-eq69.true);
    }

pub returns-clause-told : goal.returns-clause-told
returns-clause-told c =
    let st = state_in c.args.axes c.args.tables.now c.args.lengths.now in let b = c.args.b in let s = c.args.s.now in
    told-by c.says.ensures refl refl (sym (performs-quiet st b s (λ (e : Effect). listing_of e ≡ None) refl (λ m a. refl) c.if-b-eq69.false))
    (writes-same {j = 512} (omega arith) (sym (shown-quiet st b s _ c.if-b-eq69.false)) c.print.ensures.told).wrote
