-- `climbing::climb::step` meets its contract. Assumes nothing.
use borrow.Author.Rules.{rules}
use mathlib.Core.Path.{◌∙◌}
use Rattle.integers.specs.Size.{bound}
use Rattle.wide_tableau.specs.Cells.{cells, rows_of}
use Rattle.climbing.proofs.Climbing.{step-best, step-on, improving-column}
use Rattle.climbing.proofs.climb.step.Statement.{statement}
use Rattle.climbing.proofs.climb.step.Tie as tie

improving-requires : tie.Need-improving-w-requires
improving-requires c κs = search rules

returns : tie.Need-returns-then-place-w
returns c =
    let i = c.before in let s = i.before.before.before in
    step-best (bound 128) (rows_of s.args.t.now) (cells s.args.goal.now) s.args.place.now s.args.kinds.now s.args.greatest s.args.left i.improving-w.result i.improving-w.ensures c.if-place-w.true

step-in-requires : tie.Need-step_in-requires
step-in-requires c κs =
    let i = c.before in let s = i.before.before.before in
    (s.requires.0, s.requires.1, s.requires.2, c.if-place-w.false, improving-column (cells s.args.goal.now) s.args.place.now s.args.kinds.now s.args.greatest i.improving-w.result i.improving-w.ensures c.if-place-w.false)

returns-2 : tie.Need-returns
returns-2 c =
    let e = c.before in let i = e.before in let s = i.before.before.before in
    c.step_in.ensures ∙ step-on (bound 128) (rows_of s.args.t.now) (cells s.args.goal.now) s.args.place.now s.args.kinds.now s.args.greatest s.args.left i.improving-w.result i.improving-w.ensures e.if-place-w.false

pub step_spec : {M : Type 1} → statement M
step_spec = tie.close (tie.spec improving-requires returns step-in-requires returns-2)
