-- `drafting::settle::both_small` meets its contract. Assumes nothing.
use mathlib.Core.Path.{sym, ap, ap₂, ◌∙◌}
use mathlib.Core.Bool.{Bool, ◌&&◌}
use borrow.Author.Tests.{not-true, not-false}
use borrow.Author.Rules.{rules}
use Rattle.integers.specs.Size.{bound}
use Rattle.tableau.specs.Rows.{small_at}
use Rattle.wide_tableau.specs.Cells.{cells}
use Rattle.drafting.proofs.settle.both_small.Statement.{statement}
use Rattle.drafting.proofs.settle.both_small.Tie as tie

small-requires : tie.Need-small-requires
small-requires c κs = search rules

returns : tie.Need-returns-then-not-small
returns c =
    let a = c.before in let s = a.before in
    sym (ap (λ (x : Bool). x && (small_at (bound 128) (cells s.args.waiting.now) && small_at (bound 128) (cells s.args.r.now))) (sym a.small.ensures ∙ not-true _ c.if-not-small.true-raw))

small-requires-2 : tie.Need-small-requires-2
small-requires-2 c κs = search rules

returns-2 : tie.Need-returns-then-not-small-2
returns-2 c =
    let b = c.before in let e = b.before in let a = e.before in let s = a.before in
    sym (ap₂ (λ (x y : Bool). x && (y && small_at (bound 128) (cells s.args.r.now))) (sym a.small.ensures ∙ not-false _ e.if-not-small.false-raw) (sym b.small-2.ensures ∙ not-true _ c.if-not-small-2.true-raw))

small-requires-3 : tie.Need-small-requires-3
small-requires-3 c κs = search rules

returns-3 : tie.Need-returns
returns-3 c =
    let d = c.before in let b = d.before in let e = b.before in let a = e.before in let s = a.before in
    c.small-3.ensures
    ∙ sym (ap₂ (λ (x y : Bool). x && (y && small_at (bound 128) (cells s.args.r.now))) (sym a.small.ensures ∙ not-false _ e.if-not-small.false-raw) (sym b.small-2.ensures ∙ not-false _ d.if-not-small-2.false-raw))

pub both_small_spec : {M : Type 1} → statement M
both_small_spec =
    tie.close
    (tie.spec small-requires returns small-requires-2 returns-2 small-requires-3 returns-3)
