-- What the code knows on its way through the checked bytes of a set, and what its answers mean.
use Rattle.std.specs.Prelude.{◌≡◌, Bool, ◌&&◌, ◌||◌, List, ℕ, ◌≤◌, ltb, ℤ, length, take, drop, Result}
use Rattle.model.specs.Limits.{most_axes, most_divisions, most_coordinate}
use Rattle.model.specs.Lists.{all}
use Rattle.model.specs.Sets.{Constraint, BasicSet, is_zero, quotients}
use Rattle.query.specs.Member.{coordinate}
use Rattle.model.specs.declared.refusal.Refusal.{Refusal}
use Rattle.codec.specs.Bytes.{Answer}
use Rattle.codec.specs.Refusing.{answer_is}
use Rattle.codec.specs.Places.{built, basic_at, end_of, Tail, Past}
use Rattle.codec.specs.declared.layout.Passed.{Passed}
use Rattle.bounds.specs.Sizes.{most_quotient}
pub use Rattle.bounds.specs.Ends.{AllWithin}
use Rattle.query.specs.declared.membership.Span.{Span}

-- a point as the code has it: whole numbers for the axes, none beyond the range of a coordinate
pub record Point (x : List ℤ) : Type 0 where
  pub axes : length x ≤ most_axes
  pub point : AllWithin most_coordinate x

-- the values of the divisions
pub record Values (q : List ℤ) : Type 0 where
  pub few : length q ≤ most_divisions
  pub values : AllWithin most_quotient q

-- q begins with the values of the divisions from a place on, which r has passed
pub record Divided (s : List ℕ) (start : ℕ) (x q : List ℤ) (r : Passed) : Type 0 where
  pub few : r.count ≤ most_divisions
  pub is : take r.count q ≡ quotients (built (drop start s)).divisions x
  pub values : AllWithin most_quotient q
  pub past : Past s start r.next

-- on the way from a place, behind constraints that pass a test or not: `so` says it at the place `at` of those up to there too
pub record Judging (s : List ℕ) (start : ℕ) (ok : Constraint → Bool) (before : Bool) (at : ℕ) (so : Bool) : Type 0 where
  pub tail : Tail s at
  pub past : start ≤ at
  pub is : (so && all ok (built (drop at s)).constraints) ≡ (before && all ok (built (drop start s)).constraints)
  pub end : end_of s at ≡ end_of s start

-- whether the constraints from a place on pass a test, and the place after them
pub record Judged (s : List ℕ) (start : ℕ) (ok : Constraint → Bool) (r : Span) : Type 0 where
  pub is : r.holds ≡ all ok (built (drop start s)).constraints
  pub next : r.next ≡ end_of s start

-- whether the basic set at a place passes a test, and the place after it
pub record Spanned (s : List ℕ) (start : ℕ) (ok : BasicSet → Bool) (r : Span) : Type 0 where
  pub is : r.holds ≡ ok (basic_at s start)
  pub next : r.next ≡ end_of s start

-- the answers of member
abbrev pub member_is : Result Bool Refusal → Answer Bool
member_is r = answer_is (λ b. b) r

-- z can be coordinate i, from 0, of a point with n axes
abbrev pub coordinate_fits : ℕ → ℕ → ℤ → Bool
coordinate_fits n i z = coordinate z && (ltb i n || is_zero z)
