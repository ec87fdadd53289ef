use Rattle.std.proofs.Common.{◌∙◌, SFits, w32, rules}
use Rattle.std.proofs.lemmas.Int.{to_z-of_z}
use Rattle.model.specs.Sets.{inequality}
use Rattle.joining.proofs.Placing.{below-is, below-fits}
use Rattle.joining.proofs.opposites.below.Goals as goal

pub returns : goal.returns
returns c =
    let k = c.args.c.constant in
    let f : SFits w32 k = search rules in
    let e = to_z-of_z w32 _ (below-fits k f) ∙ below-is k in
    rw (to_z-of_z w32 k f)
    (λ i. record {
      kind = inequality;
      number = c.args.c.number;
      constant = e i;
      axes = c.negated.ensures i;
      divisions = c.negated-2.ensures i;
    })
