use Rattle.std.proofs.Common.{◌≡◌, ◌&&◌, ℕ, leb, refl, ◌∙◌, rules, tests}
use Rattle.std.specs.List.{list_all}
use Rattle.std.proofs.lemmas.Iterator.{YieldsList-from_slice}
use Rattle.std.proofs.lemmas.Iterator.Search.{all_from_yields_List}
use Rattle.std.proofs.lemmas.List.Recursion.{same_from_clauses}
use Rattle.model.specs.Lists.{all}
use Rattle.session.specs.Script.{room}
use Rattle.script.proofs.turns.lengths_fit.Goals as goal

pub returns : goal.returns
returns c =
    let fits = λ (l : ℕ). leb l room in
    all_from_yields_List fits _ _ _ c.all.ensures.ran (YieldsList-from_slice c.args.lengths.now cc) (λ x b q k. search (rules, tests))
    ∙ same_from_clauses (list_all fits) (all fits) (λ l b. fits l && b) refl (λ l ls. refl) (λ l ls. refl) c.args.lengths.now
