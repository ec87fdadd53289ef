use Rattle.std.proofs.Common.{rules, drop, ◌∙◌, tests}
use Rattle.std.proofs.lemmas.Iterator.{YieldsList-from_slice}
use Rattle.std.proofs.lemmas.Iterator.Adapters.{YieldsList-from_skip}
use Rattle.std.proofs.lemmas.Iterator.Search.{all_from_yields_List}
use Rattle.model.specs.Sets.{is_zero}
use Rattle.rules.proofs.Numbers.{all_listed}
use Rattle.rules.proofs.coefficients.are_absent.Goals as goal

pub returns : goal.returns
returns c =
    all_from_yields_List is_zero _ _ _ c.all.ensures.ran (YieldsList-from_skip c.args.n (YieldsList-from_slice c.args.a cc) cc) (λ x b q k. search (rules, tests)) ∙ all_listed is_zero (drop c.args.n c.args.a)
