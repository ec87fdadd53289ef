use Rattle.std.proofs.Common.{ℕ, ℤ, rules, tests, ◌∙◌}
use Rattle.std.proofs.lemmas.Iterator.{YieldsList-from_slice}
use Rattle.std.proofs.lemmas.Iterator.Consumers.{YieldsList-from_enumerate}
use Rattle.std.proofs.lemmas.Iterator.Search.{all_from_yields_List}
use Rattle.query.specs.Holding.{coordinate_fits}
use Rattle.query.proofs.Points.{fits-all}
use Rattle.query.proofs.membership.point_fits.Goals as goal

pub returns : goal.returns
returns c =
    all_from_yields_List (λ (p : ℕ × ℤ). coordinate_fits c.args.n p.0 p.1) _ _ c.all.result c.all.ensures.ran (YieldsList-from_enumerate (YieldsList-from_slice c.args.point cc) cc) (λ x b q k. search (rules, tests))
    ∙ fits-all c.args.n c.args.point
