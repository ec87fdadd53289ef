-- The call on bytes (document 02, request 11): basic set number k of a set, and an expression written as an inequality's numbers.
use Rattle.std.specs.Prelude.{List, ℕ, zero, suc, ℤ, length, Result}
use Rattle.std.proofs.Math.Option.{Option, none, some}
use Rattle.model.specs.Sets.{Constraint, BasicSet, Set}
use Rattle.model.specs.declared.refusal.Refusal.{Refusal}
use Rattle.codec.specs.Bytes.{Answer, refused, gives, decode}
use Rattle.codec.specs.Refusing.{answer_is}
use Rattle.wide.specs.Wide.{value_of, size}
use Rattle.carrying.specs.Answers.{numbered}
use Rattle.optimum.specs.Value.{Extreme, empty, unbounded, too_wide, too_long, attained, extreme_of}
use Rattle.rules.specs.Expressions.{numbers_refusal}
use Rattle.extremes.specs.declared.Fraction.{Fraction}
use Rattle.extremes.specs.declared.Extent.{Extent}
use Rattle.extremes.specs.declared.Extent.TheVariants.{Empty, Unbounded, TooWide, TooLong, Value}

abbrev pub extreme_in : ℤ → ℕ → BasicSet → Constraint → Answer Extreme
extreme_in z n b e = elim (numbers_refusal n (length b.divisions) e) [ zero ↦ gives (extreme_of z b e) | suc m ↦ refused (suc m) ]

-- "none such: empty, the expression unread"
abbrev pub extreme_numbered : ℤ → ℕ → Option BasicSet → Constraint → Answer Extreme
extreme_numbered z n none e = gives empty
extreme_numbered z n (some b) e = extreme_in z n b e

-- "its own 7 and 8 come after the set's numbers"
abbrev pub extreme_decoded : ℤ → ℕ → Answer Set → ℕ → Constraint → Answer Extreme
extreme_decoded z n (refused m) k e = refused m
extreme_decoded z n (gives s) k e = extreme_numbered z n (numbered s k) e

-- z is −1 for the greatest value, 1 for the least
unfoldable pub extreme_bytes : ℤ → ℕ → List ℕ → ℕ → Constraint → Answer Extreme
extreme_bytes z n s k e = extreme_decoded z n (decode n s) k e

abbrev pub fraction_is : Fraction → Extreme
fraction_is f = attained (value_of f.numerator) (size f.denominator)

-- each case of the code's answer
abbrev pub extreme_is : Extent → Extreme
extreme_is Empty = empty
extreme_is Unbounded = unbounded
extreme_is TooWide = too_wide
extreme_is TooLong = too_long
extreme_is (Value f) = fraction_is f

abbrev pub extent_is : Result Extent Refusal → Answer Extreme
extent_is r = answer_is extreme_is r
