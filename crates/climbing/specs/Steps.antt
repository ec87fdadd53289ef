-- Both halves as the code makes them: on the rows of the table, with the expression's row beside it.
use Rattle.std.specs.Prelude.{◌≡◌, Bool, true, false, ◌&&◌, cond, List, [], map, ℕ, zero, suc, ◌+◌, ◌-◌, ◌*◌, ◌/◌, ◌<◌, leb, ltb, eqb, length, get_or, set, take, ℤ, pos, negsuc, nat_abs, neg_ℤ, ◌*ℤ◌, ◌<ℤ◌}
use Rattle.std.specs.Int.Signed.{quot_z, lt_z}
use Rattle.integers.specs.Gcd.{gcd}
use Rattle.integers.specs.Size.{bound}
use Rattle.model.specs.Sets.{conditions}
use Rattle.model.specs.Values.{basic_set_of}
use Rattle.model.specs.declared.BasicSet.{BasicSet}
use Rattle.tableau.specs.Rows.{den, entry, first, violated_by, helping, solve_row, rebuild_row, narrow_row_at, narrow_rows_at, Small, Line}
use Rattle.wide_tableau.specs.Cells.{Turns, Becomes}
use Rattle.model.specs.Limits.{most_axes, most_pivots}
use Rattle.simplex.specs.Table.{start_row, place_at, kind_number, move_at, pivot_rows, pivot_place, Fine}
use Rattle.simplex.specs.declared.Verdict.{Verdict}
use Rattle.simplex.specs.declared.Verdict.TheVariants.{Point, Dropped, Long, Wide}
use Rattle.simplex.specs.declared.Move.{Move}
use Rattle.simplex.specs.declared.Move.TheVariants.{Stop, Pivot}
use Rattle.simplex.specs.declared.Ended.{Ended}
use Rattle.feasibility.specs.Tableau.{sorts}
use Rattle.optimum.specs.Value.{Extreme, empty, unbounded, too_wide, too_long, attained}
use Rattle.climbing.specs.declared.Outcome.{Outcome}
use Rattle.climbing.specs.declared.Outcome.TheVariants as O
use Rattle.climbing.specs.declared.Step.{Step}
use Rattle.climbing.specs.declared.Step.TheVariants.{Ends, Turns as TurnsBy}

-- ---- the exchange

-- the expression's row once the row of v and the column of w have changed places
unfoldable pub pivot_goal : List (List ℤ) → List ℤ → List ℕ → ℕ → ℕ → List ℤ
pivot_goal rows goal place v w =
    let j : ℕ = get_or place w 0 - 64 in let p : List ℤ = solve_row (get_or rows (get_or place v 0) []) j in
    rebuild_row j (den p) (set p 0 (pos 0)) goal

-- ---- the first half

-- step 4 looks at the expression's row too
abbrev pub with_goal : ℕ → List ℤ → List ℕ → Move → Move
with_goal m goal place (Stop x) = Stop x
with_goal m goal place (Pivot v w) = cond (narrow_row_at m (get_or place w 0 - 64) goal) (Pivot v w) (Stop Wide)

unfoldable pub move_with : ℕ → List (List ℤ) → List ℤ → List ℕ → List ℕ → ℕ → Move
move_with m rows goal place kinds left = with_goal m goal place (move_at m rows place kinds left)

pub record Ending : Type 0 where
  pub verdict : Verdict
  pub left : ℕ
  pub rows : List (List ℤ)
  pub goal : List ℤ
  pub place : List ℕ

abbrev pub follow : Move → ℕ → (List (List ℤ) → List ℤ → List ℕ → Ending) → List (List ℤ) → List ℤ → List ℕ → Ending
follow (Stop x) n go rows goal place = record { verdict = x; left = n; rows = rows; goal = goal; place = place }
follow (Pivot v w) n go rows goal place = go (pivot_rows rows place v w) (pivot_goal rows goal place v w) (pivot_place place v w)

unfoldable pub reach_with : ℕ → List ℕ → ℕ → List (List ℤ) → List ℤ → List ℕ → Ending
reach_with m kinds zero rows goal place = follow (move_with m rows goal place kinds 0) 0 (λ rows goal place. record { verdict = Long; left = 0; rows = rows; goal = goal; place = place }) rows goal place
reach_with m kinds (suc n) rows goal place = follow (move_with m rows goal place kinds (suc n)) (suc n) (reach_with m kinds n) rows goal place

-- ---- the second half

-- −1 for the greatest value, 1 for the least
abbrev pub aim_of : Bool → ℤ
aim_of true = negsuc 0
aim_of false = pos 1

-- the lowest-numbered column that improves the value is one that helps a row of this constant
unfoldable pub improving : List ℤ → List ℕ → List ℕ → Bool → ℕ
improving goal place kinds greatest = helping (set goal 1 (aim_of greatest)) place kinds

-- a variable with this entry in the expression's row is moved up
abbrev pub moves_up : Bool → ℤ → Bool
moves_up greatest a = lt_z (aim_of greatest *ℤ a) (pos 0)

-- the change of a row with entry e for one unit of the move
abbrev pub moved : Bool → ℤ → ℤ
moved true e = e
moved false e = neg_ℤ e

-- variable v is a row that stops the move: a change that its kind does not allow
unfoldable pub stops_at : List (List ℤ) → List ℕ → List ℕ → ℕ → Bool → ℕ → Bool
stops_at rows place kinds j up v =
    cond (ltb (get_or place v 0) 64) (violated_by (get_or kinds v 0) (moved up (entry (get_or rows (get_or place v 0) []) j))) false

-- the lowest-numbered of them; the number of variables where there is none
unfoldable pub stopping : List (List ℤ) → List ℕ → List ℕ → ℕ → Bool → ℕ
stopping rows place kinds j up = first (stops_at rows place kinds j up) (length place) 0

-- after how long a move: the first over the second number
abbrev pub move_over : List (List ℤ) → List ℕ → List ℕ → ℕ → ℤ
move_over rows place kinds v = cond (eqb (get_or kinds v 0) 2) (pos 0) (get_or (get_or rows (get_or place v 0) []) 1 (pos 0))

abbrev pub move_under : List (List ℤ) → List ℕ → ℕ → ℕ → ℤ
move_under rows place j v = pos (nat_abs (entry (get_or rows (get_or place v 0) []) j))

unfoldable pub sooner_at : List (List ℤ) → List ℕ → List ℕ → ℕ → ℕ → ℕ → Bool
sooner_at rows place kinds j v u =
    lt_z (move_over rows place kinds v *ℤ move_under rows place j u) (move_over rows place kinds u *ℤ move_under rows place j v)

-- from variable v on, of n: a later one only where it stops the move sooner
unfoldable pub leaving_from : List (List ℤ) → List ℕ → List ℕ → ℕ → Bool → ℕ → ℕ → ℕ → ℕ
leaving_from rows place kinds j up zero v best = best
leaving_from rows place kinds j up (suc n) v best =
    leaving_from rows place kinds j up n (suc v) (cond (stops_at rows place kinds j up v && sooner_at rows place kinds j v best) v best)

unfoldable pub leaving : List (List ℤ) → List ℕ → List ℕ → ℕ → Bool → ℕ → ℕ
leaving rows place kinds j up u = leaving_from rows place kinds j up (length place - suc u) (suc u) u

-- the order: unbounded, long, wide, and only then the leaving row
abbrev pub step_by : ℕ → List (List ℤ) → List ℤ → List ℕ → List ℕ → ℕ → ℕ → ℕ → Bool → ℕ → Step
step_by m rows goal place kinds left w j up u =
    cond (leb (length place) u) (Ends O.Endless)
    (cond (eqb left 0) (Ends O.Long)
    (cond (narrow_rows_at m j rows && narrow_row_at m j goal) (TurnsBy (leaving rows place kinds j up u) w) (Ends O.Wide)))

abbrev pub step_up : ℕ → List (List ℤ) → List ℤ → List ℕ → List ℕ → ℕ → ℕ → ℕ → Bool → Step
step_up m rows goal place kinds left w j up = step_by m rows goal place kinds left w j up (stopping rows place kinds j up)

abbrev pub step_in : ℕ → List (List ℤ) → List ℤ → List ℕ → List ℕ → Bool → ℕ → ℕ → Step
step_in m rows goal place kinds greatest left w =
    let j : ℕ = get_or place w 0 - 64 in step_up m rows goal place kinds left w j (moves_up greatest (entry goal j))

abbrev pub step_for : ℕ → List (List ℤ) → List ℤ → List ℕ → List ℕ → Bool → ℕ → ℕ → Step
step_for m rows goal place kinds greatest left w = cond (leb (length place) w) (Ends O.Best) (step_in m rows goal place kinds greatest left w)

unfoldable pub step_at : ℕ → List (List ℤ) → List ℤ → List ℕ → List ℕ → Bool → ℕ → Step
step_at m rows goal place kinds greatest left = step_for m rows goal place kinds greatest left (improving goal place kinds greatest)

-- how the second half ends, and the expression's row then
pub record Climbed : Type 0 where
  pub outcome : Outcome
  pub goal : List ℤ

abbrev pub climb_by : Step → (List (List ℤ) → List ℤ → List ℕ → Climbed) → List (List ℤ) → List ℤ → List ℕ → Climbed
climb_by (Ends x) go rows goal place = record { outcome = x; goal = goal }
climb_by (TurnsBy v w) go rows goal place = go (pivot_rows rows place v w) (pivot_goal rows goal place v w) (pivot_place place v w)

unfoldable pub climb_with : ℕ → List ℕ → Bool → ℕ → List (List ℤ) → List ℤ → List ℕ → Climbed
climb_with m kinds greatest zero rows goal place = climb_by (step_at m rows goal place kinds greatest 0) (λ rows goal place. record { outcome = O.Long; goal = goal }) rows goal place
climb_with m kinds greatest (suc n) rows goal place = climb_by (step_at m rows goal place kinds greatest (suc n)) (climb_with m kinds greatest n) rows goal place

-- ---- both

-- the constant over the denominator, in lowest terms
unfoldable pub fraction_of : List ℤ → Extreme
fraction_of r =
    let c : ℤ = get_or r 1 (pos 0) in let g : ℕ = gcd (nat_abs c) (nat_abs (den r)) in
    attained (quot_z c (pos g)) (nat_abs (den r) / g)

abbrev pub outcome_of : Outcome → List ℤ → Extreme
outcome_of O.Best goal = fraction_of goal
outcome_of O.Endless goal = unbounded
outcome_of O.Long goal = too_long
outcome_of O.Wide goal = too_wide

abbrev pub outcome_in : Climbed → Extreme
outcome_in c = outcome_of c.outcome c.goal

-- the second half goes on with the pivots left
abbrev pub halves_from : ℕ → List ℕ → Bool → Ending → Extreme
halves_from m kinds greatest e =
    elim e.verdict [
      | Point ↦ outcome_in (climb_with m kinds greatest e.left e.rows e.goal e.place)
      | Dropped ↦ empty
      | Long ↦ too_long
      | Wide ↦ too_wide
    ]

unfoldable pub halves : ℕ → List ℕ → Bool → List (List ℤ) → List ℤ → List ℕ → Extreme
halves m kinds greatest rows goal place = halves_from m kinds greatest (reach_with m kinds most_pivots rows goal place)

-- ---- what the functions ask and give

-- what the halves ask of a tableau and the expression's row
pub record Posed (n : ℕ) (rows : List (List ℤ)) (goal : List ℤ) (place kinds : List ℕ) : Type 0 where
  pub fine : Fine n rows place kinds
  pub line : Line n goal
  pub dens : pos 0 <ℤ den goal

-- what the searches ask
pub record Placed (rows : List (List ℤ)) (place kinds : List ℕ) : Type 0 where
  pub same : length kinds ≡ length place
  pub spot : (v : ℕ) → v < length place → get_or place v 0 < 64 → get_or place v 0 < length rows

-- variable v is a row, all of whose numbers are within the bound
pub record Stopped (rows : List (List ℤ)) (place : List ℕ) (v : ℕ) : Type 0 where
  pub named : v < length place
  pub row : get_or place v 0 < 64
  pub small : Small (bound 128) (get_or rows (get_or place v 0) [])

-- the first table of a basic set
pub record Begun (b : BasicSet) (t : List (List ℕ)) (place kinds : List ℕ) : Type 0 where
  pub long : length t ≡ 64
  pub names : length place ≡ 80
  pub sames : length kinds ≡ 80
  pub rows : Turns (take (2 * b.divs + b.cons) t) (map (start_row b.divs) (conditions (basic_set_of b)))
  pub places : (v : ℕ) → v < most_axes + b.divs + (2 * b.divs + b.cons) → get_or place v 0 ≡ place_at b.divs v
  pub kinds_are : (v : ℕ) → v < most_axes + b.divs + (2 * b.divs + b.cons) → get_or kinds v 0 ≡ kind_number (sorts (basic_set_of b) v)

-- the first half ends in x, with this table, expression's row and places
pub record Reaches (n : ℕ) (rows : List (List ℤ)) (goal : List ℤ) (place kinds : List ℕ) (x : Ended) (t : List (List ℕ)) (g : List ℕ) (place' : List ℕ) : Type 0 where
  pub verdict_is : x.verdict ≡ (reach_with (bound 128) kinds most_pivots rows goal place).verdict
  pub pivots_are : x.pivots ≡ most_pivots - (reach_with (bound 128) kinds most_pivots rows goal place).left
  pub rows_are : Turns t (reach_with (bound 128) kinds most_pivots rows goal place).rows
  pub goal_is : Becomes g (reach_with (bound 128) kinds most_pivots rows goal place).goal
  pub place_is : place' ≡ (reach_with (bound 128) kinds most_pivots rows goal place).place

-- the second half ends in x, with this expression's row
pub record Climbs (rows : List (List ℤ)) (goal : List ℤ) (place kinds : List ℕ) (greatest : Bool) (from : ℕ) (x : Outcome) (g : List ℕ) : Type 0 where
  pub outcome-is : x ≡ (climb_with (bound 128) kinds greatest from rows goal place).outcome
  pub goal_is : Becomes g (climb_with (bound 128) kinds greatest from rows goal place).goal
