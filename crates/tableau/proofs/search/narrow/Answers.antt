use Rattle.std.proofs.Common.{sym, refl, ◌∙◌, true, false}
use Rattle.integers.specs.Size.{bound}
use Rattle.tableau.proofs.Searches.{narrow_step, narrow-end}
use Rattle.tableau.proofs.search.narrow.Goals as goal

pub loop-k-init : goal.loop-k-init
loop-k-init c = refl

pub row_narrow-requires : goal.row_narrow-requires
row_narrow-requires c = record { j_bound = c.requires.j_bound; line = c.requires.by_index c.loop-k.k c.loop-k-test.true }

pub returns-then-not-row_narrow : goal.returns-then-not-row_narrow
returns-then-not-row_narrow c =
    sym (narrow_step (bound 64) c.args.j c.args.t.now c.loop-k.k false c.loop-k-test.true (sym c.row_narrow.ensures ∙ c.if-not-row_narrow.true)) ∙ c.loop-k.invariant

pub loop-k-preserved : goal.loop-k-preserved
loop-k-preserved c =
    sym (narrow_step (bound 64) c.args.j c.args.t.now c.loop-k.k true c.loop-k-test.true (sym c.row_narrow.ensures ∙ c.if-not-row_narrow.false)) ∙ c.loop-k.invariant

pub returns : goal.returns
returns c = narrow-end (bound 64) c.args.j c.args.t.now c.loop-k.k c.loop-k-test.false ∙ c.loop-k.invariant
