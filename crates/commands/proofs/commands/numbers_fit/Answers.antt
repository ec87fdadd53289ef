use Rattle.std.proofs.Common.{◌&&◌, ℕ, leb, take, refl, ◌∙◌, rules, tests}
use Rattle.std.specs.List.{list_all}
use Rattle.std.proofs.lemmas.Iterator.{YieldsList-from_slice}
use Rattle.std.proofs.lemmas.Iterator.Search.{all_from_yields_List}
use Rattle.std.proofs.lemmas.List.Recursion.{same_from_clauses}
use Rattle.model.specs.Lists.{all}
use Rattle.model.specs.Limits.{last_set}
use Rattle.commands.proofs.commands.numbers_fit.Goals as goal

pub returns : goal.returns
returns c =
    let fits = λ (m : ℕ). leb m last_set in let s = take c.args.k c.args.s.now in
    all_from_yields_List fits _ _ _ c.all.ensures.ran (YieldsList-from_slice s cc) (λ x b q k. search (rules, tests))
    ∙ same_from_clauses (list_all fits) (all fits) (λ m b. fits m && b) refl (λ m ms. refl) (λ m ms. refl) s
