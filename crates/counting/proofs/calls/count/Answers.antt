use Rattle.std.proofs.Common.{refl, sym, ap, take}
use mathlib.Core.Option.{none}
use lib.IntN.{pos}
use Rattle.codec.specs.Places.{set_from}
use Rattle.enumeration.specs.Search.{box_of}
use Rattle.counting.specs.Answers.{counted_is}
use Rattle.counting.proofs.Calling.{asked-limit, asked-gives, ended-answer}
use Rattle.counting.proofs.calls.count.Goals as goal

pub returns-then-not-limit_fits : goal.returns-then-not-limit_fits
returns-then-not-limit_fits c = let a = c.args in ap counted_is (sym (asked-limit a.n a.set.now a.lows a.highs c.in_ok-check.ensures none a.limit refl (sym c.if-not-limit_fits.ensures)))

pub returns : goal.returns
returns c =
    let a = c.args in
    ended-answer (set_from a.set.now 0) (take a.n (box_of a.lows a.highs)) none a.limit (record { axis = 0; first = pos 0 }) 0 (λ ps. refl) _
    (asked-gives a.n a.set.now a.lows a.highs c.in_ok-check.ensures none a.limit refl (sym c.if-not-limit_fits.ensures)) _ _ c.ended.ensures
