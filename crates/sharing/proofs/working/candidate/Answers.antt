use Rattle.std.proofs.Common.{◌≡◌, ◌∙◌, ap, sym, subst, true, false, take, ◌+◌, ◌-◌}
use Rattle.model.specs.Values.{constraint_of}
use Rattle.simplex.specs.Table.{start_row}
use Rattle.simplex.proofs.Filled.{row-whole}
use Rattle.tableau.specs.Rows.{Whole}
use Rattle.sharing.specs.Past.{through, brought}
use Rattle.sharing.specs.Trace.{Traced}
use Rattle.sharing.specs.Working.{onward}
use Rattle.sharing.proofs.Standings.{wide-any, stays, calm-now, onward-is}
use Rattle.sharing.proofs.working.candidate.Goals as goal

pub replay-requires-clause-whole : goal.replay-requires-clause-whole
replay-requires-clause-whole c = subst (Whole (c.args.k + 10)) (sym c.constraint_row.ensures) (row-whole c.args.k c.requires.growing.stands.few (constraint_of c.args.c))

pub returns-then-not-replay : goal.returns-then-not-replay
returns-then-not-replay c =
    let e = sym (ap (through (take c.args.h.pivots c.args.past.now) (take c.args.h.pivots c.args.columns.now)) c.constraint_row.ensures) ∙ sym c.replay.ensures.all ∙ c.if-not-replay.true in
    record { tried = λ cs g. sym (wide-any g c.requires.growing.less (constraint_of c.args.c) e) }

pub finish-requires-clause-calm : goal.finish-requires-clause-calm
finish-requires-clause-calm c =
    let is = c.replay.ensures.row ∙ ap (brought (take c.args.h.pivots c.args.past.now) (take c.args.h.pivots c.args.columns.now)) c.constraint_row.ensures in
    calm-now c.requires.growing.stands c.requires.growing.less (constraint_of c.args.c) c.in-Point.is _ is

pub returns-in-Point : goal.returns-in-Point
returns-in-Point c =
    let qs = take c.args.h.pivots c.args.past.now in
    let js = take c.args.h.pivots c.args.columns.now in
    let e = sym (ap (through qs js) c.constraint_row.ensures) ∙ sym c.replay.ensures.all ∙ c.if-not-replay.false in
    let is = c.replay.ensures.row ∙ ap (brought qs js) c.constraint_row.ensures in
    record {
      tried = λ cs g.
          c.finish.ensures
          ∙ ap (λ b. (onward (200 - c.args.h.pivots) c.args.h.rows (8 + c.args.k + c.args.h.rows) (Rattle.simplex.specs.Table.kind_number (mathlib.Core.Option.some (Rattle.model.specs.Values.kind_is b))) c.replay.new.r c.args.rows.now c.args.place.now c.args.kinds.now).verdict) (sym c.requires.equality_value.0)
          ∙ sym (ap (λ (y : Traced). y.verdict) (onward-is g c.requires.growing.less (constraint_of c.args.c) c.in-Point.is _ is e));
    }

pub returns-in_default : goal.returns-in_default
returns-in_default c =
    let e = sym (ap (through (take c.args.h.pivots c.args.past.now) (take c.args.h.pivots c.args.columns.now)) c.constraint_row.ensures) ∙ sym c.replay.ensures.all ∙ c.if-not-replay.false in
    record { tried = λ cs g. sym (stays g c.requires.growing.less (constraint_of c.args.c) e c.in_default.not-Point) }
