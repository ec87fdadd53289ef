use Rattle.std.proofs.Common.{◌≡◌, ◌∙◌, refl, ap, sym, subst, true, false, take, ◌+◌, ◌-◌}
use Rattle.model.specs.Values.{constraint_of}
use Rattle.simplex.specs.Table.{start_row}
use Rattle.simplex.proofs.Filled.{row-whole}
use Rattle.tableau.specs.Rows.{Whole}
use Rattle.sharing.specs.Past.{through, brought}
use Rattle.sharing.specs.Working.{Appended}
use Rattle.sharing.proofs.Standings.{wide-any, wide-stays, calm-now, grown-wide, grown-ended, grown-on}
use Rattle.sharing.proofs.working.grow.Goals as goal

pub replay-requires-clause-whole : goal.replay-requires-clause-whole
replay-requires-clause-whole c = subst (Whole (c.args.k + 10)) (sym c.constraint_row.ensures) (row-whole c.args.k c.requires.stands.few (constraint_of c.args.c))

pub returns-then-not-replay : goal.returns-then-not-replay
returns-then-not-replay c =
    let e = sym (ap (through (take c.args.h.pivots c.args.past.now) (take c.args.h.pivots c.args.columns.now)) c.constraint_row.ensures) ∙ sym c.replay.ensures.all ∙ c.if-not-replay.true in
    record { grown = λ cs g. grown-wide g c.requires.less (constraint_of c.args.c) (wide-any g c.requires.less (constraint_of c.args.c) e) }

pub append-requires-clause-calm : goal.append-requires-clause-calm
append-requires-clause-calm c =
    let is = c.replay.ensures.row ∙ ap (brought (take c.args.h.pivots c.args.past.now) (take c.args.h.pivots c.args.columns.now)) c.constraint_row.ensures in
    calm-now c.requires.stands c.requires.less (constraint_of c.args.c) c.in-Point.is _ is

pub returns-in-Point : goal.returns-in-Point
returns-in-Point c =
    let qs = take c.args.h.pivots c.args.past.now in
    let js = take c.args.h.pivots c.args.columns.now in
    let e = sym (ap (through qs js) c.constraint_row.ensures) ∙ sym c.replay.ensures.all ∙ c.if-not-replay.false in
    let is = c.replay.ensures.row ∙ ap (brought qs js) c.constraint_row.ensures in
    let a = c.append in
    let made = subst (λ i. Appended c.args.h.rows (8 + c.args.k + c.args.h.rows) c.args.h.pivots i c.replay.new.r c.args.rows.now c.args.place.now c.args.kinds.now c.args.past.now c.args.columns.now a.result a.new.rows a.new.place a.new.kinds a.new.past a.new.columns) c.kind_of.ensures a.ensures in
    record { grown = λ cs g. grown-on g c.requires.less (constraint_of c.args.c) c.in-Point.is _ is e a.result _ _ _ _ _ a.auto.rows a.auto.place a.auto.kinds a.auto.past a.auto.columns made }

pub returns-in-Wide : goal.returns-in-Wide
returns-in-Wide c = record { grown = λ cs g. grown-wide g c.requires.less (constraint_of c.args.c) (wide-stays g c.requires.less (constraint_of c.args.c) c.in-Wide.is) }

pub returns-in_default : goal.returns-in_default
returns-in_default c =
    let e = sym (ap (through (take c.args.h.pivots c.args.past.now) (take c.args.h.pivots c.args.columns.now)) c.constraint_row.ensures) ∙ sym c.replay.ensures.all ∙ c.if-not-replay.false in
    record { grown = λ cs g. grown-ended g c.requires.less (constraint_of c.args.c) c.args.h.verdict refl c.in_default.not-Wide c.in_default.not-Point e }
