-- No tableau twice (document 02, request 14): the tableaus that the test for fractions and the value search come to, what "the same choice of
-- column variables" is, and both searches "without the pivot and number limits".
use Rattle.std.specs.Prelude.{◌≡◌, Bool, true, false, ℕ, zero, suc, ◌+◌, ◌≤◌, T, eqb, ℤ, length}
use Rattle.std.proofs.Math.Option.{Option, none, some}
use Rattle.model.specs.Limits.{most_axes}
use Rattle.model.specs.Lists.{any}
use Rattle.model.specs.Sets.{Kind, Constraint, BasicSet, conditions, RationalPoint, meets_basic}
use Rattle.feasibility.specs.Tableau.{Verdict, Tableau, exchange, narrow, bound, Look, none_violated, none_helps, pivot, look, run, sorts, begin}
use Rattle.algebra.specs.Cut.{is_kept}
use Rattle.optimum.specs.Value.{Extreme, Aim, best, endless, turn, aim, extreme_by}

-- ---- the tableaus of a search

-- row and column of the exchange that a step makes; none where it has its answer
abbrev pub pivot_of : Look → Option (ℕ × ℕ)
pivot_of none_violated = none
pivot_of none_helps = none
pivot_of (pivot i j) = some (i, j)

abbrev pub turn_of : Aim → Option (ℕ × ℕ)
turn_of best = none
turn_of endless = none
turn_of (turn i j) = some (i, j)

-- of the test for fractions, which is the value search's first half, and of its second half
abbrev pub test_step : (ℕ → Option Kind) → Tableau → Option (ℕ × ℕ)
test_step sort t = pivot_of (look sort t)

abbrev pub value_step : (ℕ → Option Kind) → ℤ → ℕ → Tableau → Option (ℕ × ℕ)
value_step sort z k t = turn_of (aim sort z k t)

-- the tableau after n exchanges, each of the row and column that the step finds, if fits says so; none where the search ends before
unfoldable pub visited : (Tableau → Option (ℕ × ℕ)) → (ℕ → Tableau → Bool) → ℕ → Tableau → Option Tableau
visited step fits zero t = some t
visited step fits (suc n) t =
    elim (step t) [
      | none ↦ none
      | some p ↦ elim (fits p.1 t) [ false ↦ none | true ↦ visited step fits n (exchange p.0 p.1 t) ]
    ]

-- request 9: what does not fit goes on, "from that very pivot", under another bound
unfoldable pub visited_on : (Tableau → Option (ℕ × ℕ)) → (ℕ → Tableau → Bool) → (ℕ → Tableau → Bool) → ℕ → Tableau → Option Tableau
visited_on step fits fits' zero t = some t
visited_on step fits fits' (suc n) t =
    elim (step t) [
      | none ↦ none
      | some p ↦ elim (fits p.1 t) [ false ↦ visited step fits' (suc n) t | true ↦ visited_on step fits fits' n (exchange p.0 p.1 t) ]
    ]

-- "during one test for fractions": after n pivots, and after n of the second half, where k is the place of the expression's row
abbrev pub after : (ℕ → Tableau → Bool) → (ℕ → Option Kind) → ℕ → Tableau → Option Tableau
after fits sort n t = visited (test_step sort) fits n t

abbrev pub after_aim : (ℕ → Tableau → Bool) → (ℕ → Option Kind) → ℤ → ℕ → ℕ → Tableau → Option Tableau
after_aim fits sort z k n t = visited (value_step sort z k) fits n t

-- as they are: at 64 bits, and what is wide there is carried over to 128
abbrev pub after_carried : (ℕ → Option Kind) → ℕ → Tableau → Option Tableau
after_carried sort n t = visited_on (test_step sort) (narrow (bound 64)) (narrow (bound 128)) n t

abbrev pub after_aim_carried : (ℕ → Option Kind) → ℤ → ℕ → ℕ → Tableau → Option Tableau
after_aim_carried sort z k n t = visited_on (value_step sort z k) (narrow (bound 64)) (narrow (bound 128)) n t

-- v is a column variable
abbrev pub in_cols : Tableau → ℕ → Bool
in_cols t v = any (eqb v) t.cols

-- "the same choice of column variables", in whichever order
abbrev pub SameColumns : Tableau → Tableau → Type 0
SameColumns t u = (v : ℕ) → in_cols t v ≡ in_cols u v

-- ---- "without the pivot and number limits"

-- step 4 that lets everything pass
abbrev pub always : ℕ → Tableau → Bool
always j t = true

-- axes, divisions, bounds and rules: the variables of a test
abbrev pub variables : BasicSet → ℕ
variables b = most_axes + length b.divisions + length (conditions b)

-- with n pivots, of which 2 to the power of `variables b` are enough (proofs/Judged)
abbrev pub unlimited : ℕ → BasicSet → Verdict
unlimited n b = run always (sorts b) n (begin b)

-- whether a cut would keep a candidate
abbrev pub keeps_unlimited : ℕ → BasicSet → Bool
keeps_unlimited n b = is_kept (unlimited n b)

abbrev pub unlimited_value : ℕ → ℤ → BasicSet → Constraint → Extreme
unlimited_value n z b e = extreme_by always n z b e

-- "no point with fractions meets its rules .. and its divisions' bounds"
abbrev pub NoPoint : BasicSet → Type 0
NoPoint b = (p : RationalPoint) → length p.x ≤ most_axes → length p.q ≤ length b.divisions → ¬ T (meets_basic p b)
