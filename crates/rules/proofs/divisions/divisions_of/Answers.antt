use Rattle.std.proofs.Common.{arith, rules, refl, ◌∙◌}
use Rattle.rules.specs.Divisions.{divisions_in}
use Rattle.rules.proofs.Quotients.{made-next}
use Rattle.rules.proofs.divisions.divisions_of.Goals as goal

pub loop-i-init : goal.loop-i-init
unfolding divisions_in
loop-i-init c = record { long = c.no_divisions-ds.ensures; made = refl }

pub loop-i-preserved : goal.loop-i-preserved
loop-i-preserved c =
    let l = c.loop-i in
    let few = c.requires.few in
    record { long = search rules; made = made-next l.i c.args.xs.now l.ds _ (omega arith) l.invariant.made (c.division_of.ensures ∙ c.quotient_at.ensures) }
