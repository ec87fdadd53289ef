use Rattle.std.proofs.Common.{ap, sym, length-take-le}
use Rattle.script.proofs.TurnLaws.{fronted, command-turn, quiet-turn, turn-same}
use Rattle.session.specs.Turns.{memory, front_turn}
use Rattle.session.specs.declared.Next.TheVariants.{Reads}
use Rattle.script.proofs.turns.front_turn.Goals as goal

pub slice_bounds-command-end : goal.slice_bounds-command-end
slice_bounds-command-end c =
    let q = rw c.in-Ok-Some.field-0-is at c.in-Ok-Some.ensures in
    sym (length-take-le _ c.args.input.now (fronted c.args.state.axes c.args.ended c.args.input.now _ (sym q)).inside)

pub command-requires : goal.command-requires
command-requires c =
    let q = rw c.in-Ok-Some.field-0-is at c.in-Ok-Some.ensures in
    ((fronted c.args.state.axes c.args.ended c.args.input.now _ (sym q)).single, c.requires)

pub returns-in-Ok-None : goal.returns-in-Ok-None
returns-in-Ok-None c =
    let y = memory c.args.tables.now c.args.lengths.now c.args.res.now in
    let q = rw c.in-Ok-None.field-0-is at c.in-Ok-None.ensures in
    turn-same (ap (front_turn c.args.state y c.args.input.now) q) (quiet-turn c.args.state y Reads c.args.out.now c.silent.ensures)

pub returns-in-Ok-Some : goal.returns-in-Ok-Some
returns-in-Ok-Some c =
    let y = memory c.args.tables.now c.args.lengths.now c.args.res.now in
    let q = rw c.in-Ok-Some.field-0-is at c.in-Ok-Some.ensures in
    turn-same (ap (front_turn c.args.state y c.args.input.now) q)
    (command-turn c.args.state y _ _
    (sym (length-take-le _ c.args.input.now (fronted c.args.state.axes c.args.ended c.args.input.now _ (sym q)).inside))
    c.after.ensures c.command.ensures.told c.command.ensures.kept)
