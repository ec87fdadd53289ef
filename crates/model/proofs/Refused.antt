-- No refusal has the number 0.
use Rattle.std.proofs.Common.{◌≡◌, true, false, refl, Result, Ok, Err, arith, rules}
use Rattle.std.specs.Result.{is_err}
use Rattle.model.specs.declared.refusal.Refusal.{Refusal}
use Rattle.model.specs.declared.refusal.Refusal.TheVariants.{BadAxes, UnknownCommand, CutShort, NoBasicSet, LateDivision, BadDivisor, OutOfRange, NotAbsent, TooMany, OverLimit, TableFull, BadPoint, BadLimit, NoSuchSet, OutOfPlace, BadFleet, NoNumber, BadName, BadAxis}
use Rattle.model.specs.Refused.{number_of, number_in}

pub number-some : (r : Refusal) → number_of r ≡ 0 → ⊥
number-some BadAxes h = omega arith
number-some UnknownCommand h = omega arith
number-some CutShort h = omega arith
number-some NoBasicSet h = omega arith
number-some LateDivision h = omega arith
number-some BadDivisor h = omega arith
number-some OutOfRange h = omega arith
number-some NotAbsent h = omega arith
number-some TooMany h = omega arith
number-some OverLimit h = omega arith
number-some TableFull h = omega arith
number-some BadPoint h = omega arith
number-some BadLimit h = omega arith
number-some NoSuchSet h = omega arith
number-some OutOfPlace h = omega arith
number-some BadFleet h = omega arith
number-some NoNumber h = omega arith
number-some BadName h = omega arith
number-some BadAxis h = omega arith

-- by the test of a result
pub number-err : {A : Type 0} (r : Result A Refusal) → is_err r ≡ true → number_in r ≡ 0 → ⊥
number-err (Ok x) h e = absurd (search rules)
number-err (Err r) h e = number-some r e

pub number-ok : {A : Type 0} (r : Result A Refusal) → is_err r ≡ false → number_in r ≡ 0
number-ok (Ok x) h = refl
number-ok (Err r) h = absurd (search rules)
