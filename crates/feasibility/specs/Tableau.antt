-- The test for fractions (document 01).
-- Variables 0 to 7 are the axes, then come the divisions, then the constraints (bounds, then rules) in order. An axis that is
-- absent has entry 0 in each row and never helps, so that it changes no answer and no order.
use Rattle.std.specs.Prelude.{Bool, true, false, not, ◌||◌, cond, ℕ, zero, suc, ◌+◌, ◌-◌, ◌%◌, ℤ, pos, neg_ℤ, nat_abs, ◌-ℤ◌, ◌*ℤ◌, ltb, leb, length, replicate, set, get_or}
use mathlib.Core.List.{List, [], ◌∷◌, ◌++◌, map, tail}
use Rattle.std.proofs.Math.Option.{Option, none, some}
use Rattle.std.specs.Int.Signed.{non_neg}
-- step 4's bound at W bits
pub use Rattle.integers.specs.Size.{bound}
use Rattle.model.specs.Limits.{most_axes, most_pivots}
use Rattle.model.specs.Lists.{all, filter}
use Rattle.model.specs.Sets.{Kind, equality, inequality, Constraint, BasicSet, is_zero, meets, floor_div, conditions}

pub data Verdict : Type 0 where
  point dropped long wide : Verdict

-- den · var = nums₀ + nums₁ · (column 0) + nums₂ · (column 1) + ..
pub record Row : Type 0 where
  pub var : ℕ
  pub den : ℤ
  pub nums : List ℤ

pub record Tableau : Type 0 where
  pub cols : List ℕ
  pub rows : List Row

-- a variable's condition; none for a free one, of which there are m
abbrev pub sort_of : ℕ → List Constraint → ℕ → Option Kind
sort_of m cs v = get_or (replicate m none ++ map (λ (r : Constraint). some r.kind) cs) v none

abbrev pub entry : Row → ℕ → ℤ
entry r j = get_or r.nums (suc j) (pos 0)

abbrev pub constant_of : Row → ℤ
constant_of r = get_or r.nums 0 (pos 0)

-- ---- which row, which column

-- with the columns at 0 the row's variable is its constant over a positive denominator
abbrev pub violates : Option Kind → ℤ → Bool
violates none z = false
violates (some k) z = not (meets k z)

-- a column of this condition, with entry a, moves a row of constant z towards 0
abbrev pub helps : Option Kind → ℤ → ℤ → Bool
helps none z a = not (is_zero a)
helps (some equality) z a = false
helps (some inequality) z a = not (non_neg (z *ℤ a))

-- of the numbers that are there the lowest, with its place (counted from i)
abbrev pub lower : ℕ × ℕ → Option (ℕ × ℕ) → Option (ℕ × ℕ)
lower m none = some m
lower m (some k) = cond (ltb k.0 m.0) (some k) (some m)

abbrev pub lowest : ℕ → List (Option ℕ) → Option (ℕ × ℕ)
lowest i [] = none
lowest i (none ∷ ms) = lowest (suc i) ms
lowest i (some v ∷ ms) = lower (v, i) (lowest (suc i) ms)

abbrev pub when : Bool → ℕ → Option ℕ
when true v = some v
when false v = none

abbrev pub violated_rows : (ℕ → Option Kind) → List Row → List (Option ℕ)
violated_rows sort rs = map (λ (r : Row). when (violates (sort r.var) (constant_of r)) r.var) rs

abbrev pub helpful_cols : (ℕ → Option Kind) → ℤ → List ℕ → List ℤ → List (Option ℕ)
helpful_cols sort z [] us = []
helpful_cols sort z (v ∷ vs) [] = []
helpful_cols sort z (v ∷ vs) (a ∷ us) = when (helps (sort v) z a) v ∷ helpful_cols sort z vs us

-- ---- the exchange

abbrev pub gcd_fuel : ℕ → ℕ → ℕ → ℕ
gcd_fuel zero a b = a
gcd_fuel (suc f) a zero = a
gcd_fuel (suc f) a (suc b) = gcd_fuel f (suc b) (a % suc b)

abbrev pub gcd : ℕ → ℕ → ℕ
gcd a b = gcd_fuel (suc b) a b

abbrev pub common_divisor : List ℤ → ℕ
common_divisor [] = 0
common_divisor (z ∷ zs) = gcd (nat_abs z) (common_divisor zs)

-- the row with a positive denominator
abbrev pub positive : Row → Row
positive r = record { var = r.var; den = cond (non_neg r.den) r.den (neg_ℤ r.den); nums = cond (non_neg r.den) r.nums (map neg_ℤ r.nums) }

abbrev pub divided_by : ℕ → Row → Row
divided_by g r = record { var = r.var; den = floor_div r.den g; nums = map (λ (z : ℤ). floor_div z g) r.nums }

-- and divided by the common divisor of all its numbers
abbrev pub reduced : Row → Row
reduced r = divided_by (common_divisor (r.den ∷ r.nums)) (positive r)

-- p·a − q·b, place by place
abbrev pub combine : ℤ → ℤ → List ℤ → List ℤ → List ℤ
combine p q [] bs = []
combine p q (a ∷ us) [] = []
combine p q (a ∷ us) (b ∷ bs) = (p *ℤ a -ℤ q *ℤ b) ∷ combine p q us bs

-- row r solved for the variable v of its column j: p·v = −(r's other numbers) + den·(r's variable)
abbrev pub solved : Row → ℕ → ℕ → Row
solved r j v = reduced (record { var = v; den = entry r j; nums = set (map neg_ℤ r.nums) (suc j) r.den })

-- row s with column j replaced by row r; one whose entry there is 0 stays
abbrev pub replaced : Row → ℕ → Row → Row
replaced r j s =
    cond (is_zero (entry s j)) s
    (reduced (record { var = s.var; den = entry r j *ℤ s.den; nums = set (combine (entry r j) (entry s j) s.nums r.nums) (suc j) (entry s j *ℤ r.den) }))

abbrev pub no_row : Row
no_row = record { var = 0; den = pos 1; nums = [] }

unfoldable pub exchange : ℕ → ℕ → Tableau → Tableau
exchange i j t =
    let r : Row = get_or t.rows i no_row in
    record {
      cols = set t.cols j r.var;
      rows = set (map (replaced r j) t.rows) i (solved r j (get_or t.cols j 0));
    }

-- ---- the steps

-- step 4: every number of the rows with a nonzero entry in column j is within m
abbrev pub narrow : ℕ → ℕ → Tableau → Bool
narrow m j t = all (λ (r : Row). is_zero (entry r j) || all (λ (z : ℤ). leb (nat_abs z) m) (r.den ∷ r.nums)) t.rows

-- what steps 1 and 2 find
pub data Look : Type 0 where
  none_violated none_helps : Look
  pivot : ℕ → ℕ → Look

abbrev pub column : ℕ → Option (ℕ × ℕ) → Look
column i none = none_helps
column i (some k) = pivot i k.1

abbrev pub row : (ℕ → Option Kind) → Tableau → Option (ℕ × ℕ) → Look
row sort t none = none_violated
row sort t (some k) =
    let r : Row = get_or t.rows k.1 no_row in
    column k.1 (lowest 0 (helpful_cols sort (constant_of r) t.cols (tail r.nums)))

unfoldable pub look : (ℕ → Option Kind) → Tableau → Look
look sort t = row sort t (lowest 0 (violated_rows sort t.rows))

-- how a test ends: its answer, the pivots left, the tableau reached
pub record Ending : Type 0 where
  pub verdict : Verdict
  pub left : ℕ
  pub tableau : Tableau

abbrev pub ended : Verdict → ℕ → Tableau → Ending
ended v n t = record { verdict = v; left = n; tableau = t }

-- n more pivots may be made, each one if fits says so of its column and tableau
unfoldable pub reach : (ℕ → Tableau → Bool) → (ℕ → Option Kind) → ℕ → Tableau → Ending
reach fits sort zero t = elim (look sort t) [ none_violated ↦ ended point 0 t | none_helps ↦ ended dropped 0 t | pivot i j ↦ ended long 0 t ]
reach fits sort (suc n) t =
    elim (look sort t) [
      | none_violated ↦ ended point (suc n) t
      | none_helps ↦ ended dropped (suc n) t
      | pivot i j ↦ elim (fits j t) [ false ↦ ended wide (suc n) t | true ↦ reach fits sort n (exchange i j t) ]
    ]

abbrev pub run : (ℕ → Tableau → Bool) → (ℕ → Option Kind) → ℕ → Tableau → Verdict
run fits sort n t = (reach fits sort n t).verdict

-- document 02, request 9: "carry the tableau as it is .. and go on from that very pivot", under another bound; "the pivot count runs on"
abbrev pub carried : (ℕ → Tableau → Bool) → (ℕ → Option Kind) → Ending → Ending
carried fits sort e = elim e.verdict [ point ↦ e | dropped ↦ e | long ↦ e | wide ↦ reach fits sort e.left e.tableau ]

-- the first k numbers, with 0 for what is not there
abbrev pub pad : ℕ → List ℤ → List ℤ
pad zero zs = []
pad (suc k) [] = pos 0 ∷ pad k []
pad (suc k) (z ∷ zs) = z ∷ pad k zs

-- k numbers from v
abbrev pub from : ℕ → ℕ → List ℕ
from v zero = []
from v (suc k) = v ∷ from (suc v) k

abbrev pub first_rows : ℕ → ℕ → List Constraint → List Row
first_rows k v [] = []
first_rows k v (r ∷ rs) = record { var = v; den = pos 1; nums = r.constant ∷ pad most_axes r.axes ++ pad k r.divisions } ∷ first_rows k (suc v) rs

-- the tableau of constraints over 8 axes and k divisions
abbrev pub start : ℕ → List Constraint → Tableau
start k cs = record { cols = from 0 (most_axes + k); rows = first_rows k (most_axes + k) cs }

-- the conditions of the variables, and the first tableau, of a basic set
abbrev pub sorts : BasicSet → ℕ → Option Kind
sorts b = sort_of (most_axes + length b.divisions) (conditions b)

abbrev pub begin : BasicSet → Tableau
begin b = start (length b.divisions) (conditions b)

-- at W bits alone
unfoldable pub ends_at : ℕ → BasicSet → Ending
ends_at W b = reach (narrow (bound W)) (sorts b) most_pivots (begin b)

abbrev pub test_at : ℕ → BasicSet → Verdict
test_at W b = (ends_at W b).verdict

-- at 64 bits, and what is wide there is carried over to 128
unfoldable pub test_ends : BasicSet → Ending
test_ends b = carried (narrow (bound 128)) (sorts b) (ends_at 64 b)

abbrev pub test : BasicSet → Verdict
test b = (test_ends b).verdict

-- the pivots made, of both
abbrev pub pivots_made : BasicSet → ℕ
pivots_made b = most_pivots - (test_ends b).left

-- ---- the rows built (document 02, request 4)

-- an exchange in column j builds "only the rows with a nonzero entry in the column, each once"
abbrev pub built_rows : ℕ → Tableau → List Row
built_rows j t = filter (λ (r : Row). not (is_zero (entry r j))) t.rows

-- how many the exchanges of a test build, which makes them as `reach` does
unfoldable pub built : (ℕ → Tableau → Bool) → (ℕ → Option Kind) → ℕ → Tableau → ℕ
built fits sort zero t = 0
built fits sort (suc n) t =
    elim (look sort t) [
      | none_violated ↦ 0
      | none_helps ↦ 0
      | pivot i j ↦ elim (fits j t) [ false ↦ 0 | true ↦ length (built_rows j t) + built fits sort n (exchange i j t) ]
    ]

-- how many a test builds once it is carried over, which only a wide one is
abbrev pub carried_built : (ℕ → Tableau → Bool) → (ℕ → Option Kind) → Ending → ℕ
carried_built fits sort e = elim e.verdict [ point ↦ 0 | dropped ↦ 0 | long ↦ 0 | wide ↦ built fits sort e.left e.tableau ]

-- the rows built by the test of a basic set, at 64 bits and at 128
unfoldable pub rows_built : BasicSet → ℕ
rows_built b = built (narrow (bound 64)) (sorts b) most_pivots (begin b) + carried_built (narrow (bound 128)) (sorts b) (ends_at 64 b)
