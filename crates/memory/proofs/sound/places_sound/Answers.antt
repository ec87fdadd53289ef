use Rattle.std.proofs.Common.{◌∙◌, rules, tests}
use Rattle.std.proofs.lemmas.Iterator.{YieldsList-from_slice}
use Rattle.std.proofs.lemmas.Iterator.Search.{all_from_yields_List}
use Rattle.memory.specs.Sound.{sound_place}
use Rattle.memory.proofs.Scans.{all-of_list}
use Rattle.memory.proofs.sound.places_sound.Goals as goal

pub returns : goal.returns
returns c =
    all_from_yields_List (sound_place c.args.k c.args.m) _ _ _ c.all.ensures.ran (YieldsList-from_slice c.args.place.now cc) (λ x b q k. search (rules, tests)) ∙ all-of_list (sound_place c.args.k c.args.m) c.args.place.now
