-- `climbing::stops::change` meets its contract. Assumes nothing.
use mathlib.Core.Path.{sym, ap, ◌∙◌}
use mathlib.Core.Bool.{Bool}
use borrow.Author.Rules.{rules}
use Rattle.wide.specs.Wide.{value_of}
use Rattle.climbing.specs.Steps.{moved}
use Rattle.climbing.proofs.stops.change.Statement.{statement}
use Rattle.climbing.proofs.stops.change.Tie as tie

negate-requires : tie.Need-negate-requires
negate-requires c κs = search rules

returns : tie.Need-returns-then-up
returns c = let s = c.before in sym (ap (λ (b : Bool). moved b (value_of s.args.e)) c.if-up.true)

returns-2 : tie.Need-returns-else-up
returns-2 c = let s = c.before.before in c.negate.ensures.0 ∙ sym (ap (λ (b : Bool). moved b (value_of s.args.e)) c.before.if-up.false)

pub change_spec : {M : Type 1} → statement M
change_spec = tie.close (tie.spec negate-requires returns returns-2)
