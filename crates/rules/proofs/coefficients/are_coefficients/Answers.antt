use Rattle.std.proofs.Common.{rules, ◌∙◌, tests}
use Rattle.std.proofs.lemmas.Iterator.{YieldsList-from_slice}
use Rattle.std.proofs.lemmas.Iterator.Search.{all_from_yields_List}
use Rattle.codec.specs.Bytes.{coefficient}
use Rattle.rules.proofs.Numbers.{all_listed}
use Rattle.rules.proofs.coefficients.are_coefficients.Goals as goal

pub returns : goal.returns
returns c =
    all_from_yields_List coefficient _ _ _ c.all.ensures.ran (YieldsList-from_slice c.args.a cc) (λ x b q k. search (rules, tests)) ∙ all_listed coefficient c.args.a
