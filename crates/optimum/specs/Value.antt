-- The greatest and the least value of an expression over a basic set (document 02, request 11): the test for fractions with the
-- expression as one more free row, then a second half, which moves the point as long as the value improves.
-- z is −1 for the greatest value and 1 for the least, k is the place of the expression's row.
use Rattle.std.specs.Prelude.{Bool, true, false, not, ◌&&◌, ◌||◌, cond, ℕ, zero, suc, ◌/◌, ℤ, pos, negsuc, nat_abs, ◌*ℤ◌, ltb, length, get_or}
use mathlib.Core.List.{List, [], ◌∷◌, ◌++◌, tail}
use Rattle.std.proofs.Math.Option.{Option, none, some}
use Rattle.std.specs.Int.Signed.{non_neg, lt_z}
use Rattle.model.specs.Limits.{most_pivots}
use Rattle.model.specs.Sets.{Kind, equality, inequality, Constraint, BasicSet, is_zero, floor_div, conditions}
use Rattle.feasibility.specs.Tableau.{point, dropped, long, wide, Row, Tableau, entry, constant_of, lowest, helpful_cols, gcd, exchange, no_row, narrow, bound, Ending, reach, start, sorts}

-- the answer; a value is the first over the second number
pub data Extreme : Type 0 where
  empty unbounded too_wide too_long : Extreme
  attained : ℤ → ℕ → Extreme

-- what a step of the second half finds: no column improves, no row stops the one that does, or row and column of the exchange
pub data Aim : Type 0 where
  best endless : Aim
  turn : ℕ → ℕ → Aim

-- ---- which column, which row

-- a column that improves, with entry a in the expression's row, is moved up or down: "a free one in whichever direction helps"
abbrev pub way : ℤ → ℤ → ℤ
way z a = cond (non_neg (z *ℤ a)) (negsuc 0) (pos 1)

-- a row of this condition and constant c, which changes by x for one unit of the move, stops it after the first over the second number:
-- "free rows never stop it, an equality row with a nonzero entry stops it at a move of 0"
abbrev pub stop : Option Kind → ℤ → ℤ → Option (ℤ × ℤ)
stop none c x = none
stop (some equality) c x = cond (is_zero x) none (some (pos 0, pos (nat_abs x)))
stop (some inequality) c x = cond (non_neg x) none (some (c, pos (nat_abs x)))

pub record Stop : Type 0 where
  pub place : ℕ
  pub var : ℕ
  pub num : ℤ
  pub den : ℤ

-- after a shorter move, or after the same and with a lower number
abbrev pub sooner : Stop → Stop → Bool
sooner a b = lt_z (a.num *ℤ b.den) (b.num *ℤ a.den) || (not (lt_z (b.num *ℤ a.den) (a.num *ℤ b.den)) && ltb a.var b.var)

abbrev pub earliest : Stop → Option Stop → Option Stop
earliest a none = some a
earliest a (some b) = cond (sooner b a) (some b) (some a)

abbrev pub with_stop : Option (ℤ × ℤ) → ℕ → ℕ → Option Stop → Option Stop
with_stop none i v o = o
with_stop (some q) i v o = earliest (record { place = i; var = v; num = q.0; den = q.1 }) o

-- "of the rows that stop it soonest, the lowest-numbered"
abbrev pub soonest : (Row → Option (ℤ × ℤ)) → ℕ → List Row → Option Stop
soonest f i [] = none
soonest f i (r ∷ rs) = with_stop (f r) i r.var (soonest f (suc i) rs)

abbrev pub stop_of : (ℕ → Option Kind) → ℕ → ℤ → Row → Option (ℤ × ℤ)
stop_of sort j y r = stop (sort r.var) (constant_of r) (entry r j *ℤ y)

-- "If no row stops it, it is unbounded"
abbrev pub leaving : ℕ → Option Stop → Aim
leaving j none = endless
leaving j (some s) = turn s.place j

abbrev pub entering : (ℕ → Option Kind) → ℤ → ℕ → Tableau → Option (ℕ × ℕ) → Aim
entering sort z k t none = best
entering sort z k t (some m) = leaving m.1 (soonest (stop_of sort m.1 (way z (entry (get_or t.rows k no_row) m.1))) 0 t.rows)

-- "enter the lowest-numbered column that improves the value": what would bring a row of constant z towards 0 moves the value down
-- for 1, up for −1; "equality columns never enter"
unfoldable pub aim : (ℕ → Option Kind) → ℤ → ℕ → Tableau → Aim
aim sort z k t = entering sort z k t (lowest 0 (helpful_cols sort z t.cols (tail (get_or t.rows k no_row).nums)))

-- ---- the steps

-- the constant over the denominator: "a fraction in lowest terms, its denominator positive"
abbrev pub fraction : Row → Extreme
fraction r = let g : ℕ = gcd (nat_abs (constant_of r)) (nat_abs r.den) in attained (floor_div (constant_of r) g) (nat_abs r.den / g)

-- the second half, with n more pivots: "unbounded comes first, then long, then wide .., and only then the leaving row is chosen"
unfoldable pub climb : (ℕ → Tableau → Bool) → (ℕ → Option Kind) → ℤ → ℕ → ℕ → Tableau → Extreme
climb fits sort z k zero t = elim (aim sort z k t) [ best ↦ fraction (get_or t.rows k no_row) | endless ↦ unbounded | turn i j ↦ too_long ]
climb fits sort z k (suc n) t =
    elim (aim sort z k t) [
      | best ↦ fraction (get_or t.rows k no_row)
      | endless ↦ unbounded
      | turn i j ↦ elim (fits j t) [ false ↦ too_wide | true ↦ climb fits sort z k n (exchange i j t) ]
    ]

-- the second half goes on where the first ended with a point, with the pivots left
abbrev pub climbed : (ℕ → Tableau → Bool) → (ℕ → Option Kind) → ℤ → ℕ → Ending → Extreme
climbed fits sort z k e = elim e.verdict [ point ↦ climb fits sort z k e.left e.tableau | dropped ↦ empty | long ↦ too_long | wide ↦ too_wide ]

-- ---- "with request 9's carry": what is wide under the first bound goes on, from that very pivot, under the second

unfoldable pub climb_on : (ℕ → Tableau → Bool) → (ℕ → Tableau → Bool) → (ℕ → Option Kind) → ℤ → ℕ → ℕ → Tableau → Extreme
climb_on fits fits' sort z k zero t = climb fits' sort z k zero t
climb_on fits fits' sort z k (suc n) t =
    elim (aim sort z k t) [
      | best ↦ fraction (get_or t.rows k no_row)
      | endless ↦ unbounded
      | turn i j ↦ elim (fits j t) [ false ↦ climb fits' sort z k (suc n) t | true ↦ climb_on fits fits' sort z k n (exchange i j t) ]
    ]

-- after the first half under the first bound
abbrev pub climbed_on : (ℕ → Tableau → Bool) → (ℕ → Tableau → Bool) → (ℕ → Option Kind) → ℤ → ℕ → Ending → Extreme
climbed_on fits fits' sort z k e =
    elim e.verdict [
      | point ↦ climb_on fits fits' sort z k e.left e.tableau
      | dropped ↦ empty
      | long ↦ too_long
      | wide ↦ climbed fits' sort z k (reach fits' sort e.left e.tableau)
    ]

-- ---- of a basic set

-- "The expression is one more free row from the start": its variable is the one after the conditions', of which `sorts b` says nothing
abbrev pub with_expression : BasicSet → Constraint → Tableau
with_expression b e = start (length b.divisions) (conditions b ++ (e ∷ []))

-- under one step 4, with n pivots for both halves together
unfoldable pub extreme_by : (ℕ → Tableau → Bool) → ℕ → ℤ → BasicSet → Constraint → Extreme
extreme_by fits n z b e = climbed fits (sorts b) z (length (conditions b)) (reach fits (sorts b) n (with_expression b e))

-- at W bits alone
abbrev pub extreme_within : ℕ → ℤ → BasicSet → Constraint → Extreme
extreme_within W z b e = extreme_by (narrow (bound W)) most_pivots z b e

-- at 64 bits, and what is wide there is carried over to 128
unfoldable pub extreme_of : ℤ → BasicSet → Constraint → Extreme
extreme_of z b e = climbed_on (narrow (bound 64)) (narrow (bound 128)) (sorts b) z (length (conditions b)) (reach (narrow (bound 64)) (sorts b) most_pivots (with_expression b e))
