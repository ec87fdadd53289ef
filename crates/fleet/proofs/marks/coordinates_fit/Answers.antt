use Rattle.std.proofs.Common.{rules, tests, ◌∙◌}
use Rattle.std.proofs.lemmas.Iterator.{YieldsList-from_slice}
use Rattle.std.proofs.lemmas.Iterator.Search.{all_from_yields_List}
use Rattle.query.specs.Holding.{coordinate_fits}
use Rattle.fleet.proofs.Passing.{all-fit}
use Rattle.fleet.proofs.marks.coordinates_fit.Goals as goal

pub returns : goal.returns
returns c =
    all_from_yields_List (coordinate_fits 1 0) _ _ c.all.result c.all.ensures.ran (YieldsList-from_slice c.args.points.now cc) (λ x b q k. search (rules, tests))
    ∙ all-fit c.args.points.now
