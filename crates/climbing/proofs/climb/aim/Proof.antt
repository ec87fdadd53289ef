-- `climbing::climb::aim` meets its contract. Assumes nothing.
use mathlib.Core.Path.{sym, ap, ◌∙◌}
use borrow.Author.Rules.{rules}
use Rattle.climbing.specs.Steps.{aim_of}
use Rattle.climbing.proofs.climb.aim.Statement.{statement}
use Rattle.climbing.proofs.climb.aim.Tie as tie

widen-requires : tie.Need-widen-requires
widen-requires c κs = search rules

widen-requires-2 : tie.Need-widen-requires-else-greatest
widen-requires-2 c κs = search rules

returns : tie.Need-returns-then-greatest
returns c = c.widen.ensures.0 ∙ sym (ap aim_of c.before.if-greatest.true)

returns-2 : tie.Need-returns-else-greatest
returns-2 c = c.widen-else-greatest.ensures.0 ∙ sym (ap aim_of c.before.if-greatest.false)

pub aim_spec : {M : Type 1} → statement M
aim_spec = tie.close (tie.spec widen-requires widen-requires-2 returns returns-2)
