use Rattle.std.proofs.Common.{◌≢◌, arith}
use Rattle.std.proofs.lemmas.Bool.{eqb-false}
use Rattle.session.specs.Turns.{state_in, memory}
use Rattle.session.proofs.Commands.{number-good, numbers-one}
use Rattle.listing.proofs.Writing.{writes-same}
use Rattle.commands.proofs.CommandLaws.{member-text, search-text, member-effect, search-effect, none_kept, assign-text, assign-kept, assignment-left}
use Rattle.commands.proofs.commands.print.Goals as goal

pub returns-in-70 : goal.returns-in-70
returns-in-70 c =
    let s = c.args.s.now in let g = number-good _ 0 s c.requires.0.operands.good (numbers-one c.args.b) in record {
      told =
          writes-same (omega arith)
          (member-text c.args.axes c.args.tables.now c.args.lengths.now c.args.b s c.byte.result _ c.byte.ensures.is g c.table.ensures c.in-70.is)
          c.member.ensures;
      kept = none_kept (memory c.args.tables.now c.args.lengths.now c.args.res.now) _ (member-effect (state_in c.args.axes c.args.tables.now c.args.lengths.now) _ s c.in-70.is);
    }

pub returns-in-71 : goal.returns-in-71
returns-in-71 c =
    let s = c.args.s.now in let g = number-good _ 0 s c.requires.0.operands.good (numbers-one c.args.b) in record {
      told =
          writes-same (omega arith)
          (search-text c.args.axes c.args.tables.now c.args.lengths.now c.args.b s c.byte-in-71.result _ c.byte-in-71.ensures.is g c.table-in-71.ensures c.in-71.is)
          c.search.ensures;
      kept = none_kept (memory c.args.tables.now c.args.lengths.now c.args.res.now) _ (search-effect (state_in c.args.axes c.args.tables.now c.args.lengths.now) _ s c.in-71.is);
    }

pub returns-in_default : goal.returns-in_default
returns-in_default c =
    let st = state_in c.args.axes c.args.tables.now c.args.lengths.now in let r = c.requires.0 in
    let m : c.args.b ≢ 70 = omega arith in let s : c.args.b ≢ 71 = omega arith in
    let a = assignment-left c.args.b r.known r.later.0 r.later.1 (eqb-false _ _ c.requires.1) m s in record {
      told = writes-same (omega arith) (assign-text st _ c.args.s.now a) c.assign.ensures.told;
      kept = assign-kept st _ c.args.s.now a (memory c.args.tables.now c.args.lengths.now c.args.res.now) c.assign.ensures.kept;
    }
