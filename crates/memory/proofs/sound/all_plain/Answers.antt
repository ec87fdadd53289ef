-- The 18 pairs, in order, are the row's words two by two.
use Rattle.std.proofs.Common.{◌*◌, ◌+◌, get_or, refl, ◌∙◌, rules, tests}
use Rattle.std.proofs.lemmas.Iterator.{YieldsList-from_range}
use Rattle.std.proofs.lemmas.Iterator.Search.{all_from_yields_List}
use Rattle.memory.specs.Sound.{plain_cell}
use Rattle.memory.proofs.Sounds.{plain-pairs}
use Rattle.memory.proofs.sound.all_plain.Goals as goal

pub returns : goal.returns
returns c =
    let r = c.args.r.now in
    all_from_yields_List (λ j. plain_cell (get_or r (2 * j) 0) (get_or r (2 * j + 1) 0)) _ _ _ c.all.ensures.ran (YieldsList-from_range 0 18 18 refl refl) (λ x b q k. search (rules, tests))
    ∙ plain-pairs r 18 0 c.told-r
