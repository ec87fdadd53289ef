use Rattle.std.proofs.Common.{◌≡◌, true, false, length, drop, ap, sym, ◌∙◌, rules, tests, Some, None}
use Rattle.session.specs.Turns as D
use Rattle.session.specs.Turns.{memory, cursor_fits, table_at}
use Rattle.session.specs.declared.Next.TheVariants.{Misused}
use Rattle.session.proofs.Turning.{turn-misused, turn_in_lem}
use Rattle.script.proofs.TurnLaws.{lent, cursor-in, turn-same, quiet-turn, line-memory}
use Rattle.script.proofs.turns.step.Goals as goal

pub returns-then-not-usable : goal.returns-then-not-usable
returns-then-not-usable c =
    let st = c.args.state in let y = memory c.args.tables.now c.args.lengths.now c.args.res.now in
    let u : D.usable st y (length c.args.out.now) ≡ false = search (rules, tests) in
    turn-same (sym (turn-misused st y (length c.args.out.now) c.args.ended c.args.input.now u)) (quiet-turn st y Misused c.args.out.now c.silent.ensures)

pub listing_turn-requires : goal.listing_turn-requires
listing_turn-requires c =
    let st = c.args.state in let y = memory c.args.tables.now c.args.lengths.now c.args.res.now in
    let u : D.usable st y (length c.args.out.now) ≡ true = search (rules, tests) in
    let l = lent st y c.args.out.now u in (
      l.usable_is.fitted,
      cursor-in _ c.args.lengths.now (ap (cursor_fits c.args.lengths.now) (sym c.in-Some.is) ∙ l.cursor),
      l.usable_is.axes,
      l.usable_is.line_long,
    )

pub front_turn-requires : goal.front_turn-requires
front_turn-requires c =
    let st = c.args.state in let y = memory c.args.tables.now c.args.lengths.now c.args.res.now in
    let u : D.usable st y (length c.args.out.now) ≡ true = search (rules, tests) in
    (lent st y c.args.out.now u).usable_is

pub returns-in-Some : goal.returns-in-Some
returns-in-Some c =
    let st = c.args.state in let y = memory c.args.tables.now c.args.lengths.now c.args.res.now in let k = c.in-Some.c in
    let u : D.usable st y (length c.args.out.now) ≡ true = search (rules, tests) in
    turn-same (sym (turn_in_lem st y (length c.args.out.now) c.args.ended c.args.input.now u (Some k) c.in-Some.is))
    (line-memory st.axes y k (drop k.place (table_at c.args.tables.now c.args.lengths.now k.set)) c.listing_turn.ensures)

pub returns-in-None : goal.returns-in-None
returns-in-None c =
    let st = c.args.state in let y = memory c.args.tables.now c.args.lengths.now c.args.res.now in
    let u : D.usable st y (length c.args.out.now) ≡ true = search (rules, tests) in
    turn-same (sym (turn_in_lem st y (length c.args.out.now) c.args.ended c.args.input.now u None c.in-None.is)) c.front_turn.ensures
