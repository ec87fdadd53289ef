-- The places from the n-th on, in order, hold the row's numbers from there.
use Rattle.std.proofs.Common.{◌-◌, pos, get_or, refl, ◌∙◌, arith, rules, tests}
use Rattle.std.proofs.lemmas.Iterator.{YieldsList-from_range}
use Rattle.std.proofs.lemmas.Iterator.Search.{all_from_yields_List}
use Rattle.model.specs.Sets.{is_zero}
use Rattle.wide_tableau.specs.Cells.{cells}
use Rattle.wide_tableau.proofs.Sheets.{sheet-long}
use Rattle.wide_tableau.proofs.Signs.{zero_is}
use Rattle.memory.proofs.Scans.{all-places}
use Rattle.memory.proofs.sound.is_blank.Goals as goal

pub returns : goal.returns
returns c =
    let r = c.args.r.now in
    let n = c.args.n in
    let long = sheet-long r c.requires in
    all_from_yields_List (λ j. is_zero (get_or (cells r) j (pos 0))) _ _ _ c.all.ensures.ran (YieldsList-from_range n 18 (18 - n) refl refl) (λ x b q k. search (rules, tests, zero_is))
    ∙ all-places is_zero (pos 0) (cells r) (18 - n) n (omega arith)
