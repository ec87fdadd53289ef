use Rattle.std.proofs.Common.{ℤ, List, subst, ◌∙◌}
use Rattle.fleet.specs.Looking.{Walked}
use Rattle.fleet.proofs.Passing.{walked-mask}
use Rattle.fleet.proofs.looks.points_mask.Goals as goal

pub returns : goal.returns
returns c =
    let a = c.args in
    c.mask_of.ensures ∙ walked-mask a.set.now a.n a.points.now a.k c.walked-flags.result c.requires.1.few
    (subst (λ (l : List ℤ). Walked a.set.now a.n l a.k c.walked-flags.result) c.widened-w.ensures.0 c.walked-flags.ensures)
