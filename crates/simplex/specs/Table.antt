-- The tableau as the code holds it: the steps on the rows of crate `tableau`, and how the rows show a tableau of specs/Tableau, which
-- proofs/Bridge is about.
use Rattle.std.specs.Prelude.{◌≡◌, List, [], ◌∷◌, ◌++◌, map, cond, ℕ, zero, suc, ◌+◌, ◌-◌, ◌*◌, ◌≤◌, ◌<◌, leb, ltb, eqb, get_or, set, length, take, ℤ, pos, ◌*ℤ◌, ◌<ℤ◌}
use Rattle.std.proofs.Math.Option.{Option, none, some}
use Rattle.tableau.specs.Rows.{den, exchange_rows, touched, violated, helping, narrow_rows_at, Line, ReadyAt}
use Rattle.integers.specs.Size.{bound}
use Rattle.model.specs.Limits.{most_axes, most_divisions, most_constraints, most_pivots}
use Rattle.model.specs.Sets as S
use Rattle.model.specs.Sets.{Kind, equality, inequality, bounds, conditions}
use Rattle.model.specs.Values.{division_of, constraint_of, basic_set_of}
use Rattle.model.specs.declared.Division.{Division}
use Rattle.model.specs.declared.BasicSet.{BasicSet}
use Rattle.feasibility.specs.Tableau as T
use Rattle.simplex.specs.declared.Verdict.{Verdict}
use Rattle.simplex.specs.declared.Verdict.TheVariants.{Point, Dropped, Long, Wide}
use Rattle.simplex.specs.declared.Counted.{Counted}
use Rattle.simplex.specs.declared.Move.{Move}
use Rattle.simplex.specs.declared.Move.TheVariants.{Stop, Pivot}

-- ---- the steps

-- steps 1 to 4, with so many pivots left: v is the violated row's variable, w the helping column's
abbrev pub move_by_at : ℕ → List (List ℤ) → List ℕ → ℕ → ℕ → ℕ → Move
move_by_at m rows place left v w =
    cond (leb (length place) w) (Stop Dropped)
    (cond (eqb left 0) (Stop Long)
    (cond (narrow_rows_at m (get_or place w 0 - 64) rows) (Pivot v w) (Stop Wide)))

abbrev pub move_for_at : ℕ → List (List ℤ) → List ℕ → List ℕ → ℕ → ℕ → Move
move_for_at m rows place kinds left v =
    cond (leb (length place) v) (Stop Point)
    (move_by_at m rows place left v (helping (get_or rows (get_or place v 0) []) place kinds))

unfoldable pub move_at : ℕ → List (List ℤ) → List ℕ → List ℕ → ℕ → Move
move_at m rows place kinds left = move_for_at m rows place kinds left (violated rows place kinds)

abbrev pub move_of : List (List ℤ) → List ℕ → List ℕ → ℕ → Move
move_of rows place kinds left = move_at (bound 64) rows place kinds left

-- step 5: the row and the column of two variables change places
unfoldable pub pivot_rows : List (List ℤ) → List ℕ → ℕ → ℕ → List (List ℤ)
pivot_rows rows place v w = exchange_rows rows (get_or place v 0) (get_or place w 0 - 64)

unfoldable pub pivot_place : List ℕ → ℕ → ℕ → List ℕ
pivot_place place v w = set (set place v (get_or place w 0)) w (get_or place v 0)

-- and the rows that it builds (document 02, request 4)
abbrev pub pivot_built : List (List ℤ) → List ℕ → ℕ → ℕ
pivot_built rows place w = touched (get_or place w 0 - 64) rows

-- how a run ends: with what, and how many pivots were left, and the tableau
pub record Ending : Type 0 where
  pub verdict : Verdict
  pub left : ℕ
  pub rows : List (List ℤ)
  pub place : List ℕ

abbrev pub follow : Move → ℕ → (List (List ℤ) → List ℕ → Ending) → List (List ℤ) → List ℕ → Ending
follow (Stop x) n go rows place = record { verdict = x; left = n; rows = rows; place = place }
follow (Pivot v w) n go rows place = go (pivot_rows rows place v w) (pivot_place place v w)

-- with so many pivots left
unfoldable pub run_table_at : ℕ → List ℕ → ℕ → List (List ℤ) → List ℕ → Ending
run_table_at m kinds zero rows place = follow (move_at m rows place kinds 0) 0 (λ rows place. record { verdict = Long; left = 0; rows = rows; place = place }) rows place
run_table_at m kinds (suc n) rows place = follow (move_at m rows place kinds (suc n)) (suc n) (run_table_at m kinds n) rows place

abbrev pub run_table : List ℕ → ℕ → List (List ℤ) → List ℕ → Ending
run_table kinds n rows place = run_table_at (bound 64) kinds n rows place

-- the rows that the run's pivots build
abbrev pub count_move : Move → (List (List ℤ) → List ℕ → ℕ) → List (List ℤ) → List ℕ → ℕ
count_move (Stop x) go rows place = 0
count_move (Pivot v w) go rows place = pivot_built rows place w + go (pivot_rows rows place v w) (pivot_place place v w)

unfoldable pub built_table_at : ℕ → List ℕ → ℕ → List (List ℤ) → List ℕ → ℕ
built_table_at m kinds zero rows place = 0
built_table_at m kinds (suc n) rows place = count_move (move_at m rows place kinds (suc n)) (built_table_at m kinds n) rows place

-- ---- how a table shows a tableau of 8 + k columns: the k divisions' columns come first, so that those of absent axes are the last

-- where the tableau's column j stands, and which one stands at c
abbrev pub column_of : ℕ → ℕ → ℕ
column_of k j = cond (ltb j most_axes) (k + j) (cond (ltb j (most_axes + k)) (j - most_axes) j)

abbrev pub standing : ℕ → ℕ → ℕ
standing k c = cond (ltb c k) (most_axes + c) (cond (ltb c (most_axes + k)) (c - k) c)

-- f 0, f 1, .., of which there are n
abbrev pub tabulate : {A : Type 0} → ℕ → (ℕ → A) → List A
tabulate zero f = []
tabulate (suc n) f = f 0 ∷ tabulate n (λ i. f (suc i))

-- the number at place i of a row's 18
unfoldable pub number_at : ℕ → ℤ → List ℤ → ℕ → ℤ
number_at k d ns zero = d
number_at k d ns (suc zero) = get_or ns 0 (pos 0)
number_at k d ns (suc (suc c)) = get_or ns (suc (standing k c)) (pos 0)

abbrev pub layout : ℕ → T.Row → List ℤ
layout k r = tabulate 18 (number_at k r.den r.nums)

abbrev pub kind_number : Option Kind → ℕ
kind_number none = 0
kind_number (some inequality) = 1
kind_number (some equality) = 2

-- ---- the first table of a basic set

-- the first row of a constraint
unfoldable pub start_row : ℕ → S.Constraint → List ℤ
start_row k r = layout k (record { var = 0; den = pos 1; nums = r.constant ∷ T.pad most_axes r.axes ++ T.pad k r.divisions })

-- variable v's first place
abbrev pub place_at : ℕ → ℕ → ℕ
place_at k v = cond (ltb v most_axes) (64 + k + v) (cond (ltb v (most_axes + k)) (64 + (v - most_axes)) (v - (most_axes + k)))

-- ---- what the functions ask

-- what the test asks of a tableau
pub record Fine (n : ℕ) (rows : List (List ℤ)) (place kinds : List ℕ) : Type 0 where
  pub count : length rows ≤ 64
  pub names : length place ≤ 80
  pub same : length kinds ≡ length place
  pub line : (k : ℕ) → k < length rows → Line n (get_or rows k [])
  pub dens : (k : ℕ) → k < length rows → pos 0 <ℤ den (get_or rows k [])
  pub near : (v : ℕ) → v < length place → get_or place v 0 < 80
  pub spot : (v : ℕ) → v < length place → get_or place v 0 < 64 → get_or place v 0 < length rows

-- what an exchange of the row of v and the column of w asks
pub record CrossingAt (m n : ℕ) (rows : List (List ℤ)) (place : List ℕ) (v w : ℕ) : Type 0 where
  pub named : v < length place
  pub other : w < length place
  pub column : 64 ≤ get_or place w 0
  pub ready : ReadyAt m n rows (get_or place v 0) (get_or place w 0 - 64)

abbrev pub Crossing : ℕ → List (List ℤ) → List ℕ → ℕ → ℕ → Type 0
Crossing n rows place v w = CrossingAt (bound 64) n rows place v w

-- the run from (rows, place) ends in x, with these rows and places
pub record Ran (rows : List (List ℤ)) (place kinds : List ℕ) (x : Counted) (rows' : List (List ℤ)) (place' : List ℕ) : Type 0 where
  pub verdict_is : x.ended.verdict ≡ (run_table kinds most_pivots rows place).verdict
  pub pivots_are : x.ended.pivots ≡ most_pivots - (run_table kinds most_pivots rows place).left
  pub built_is : x.built ≡ built_table_at (bound 64) kinds most_pivots rows place
  pub rows_are : rows' ≡ (run_table kinds most_pivots rows place).rows
  pub place_is : place' ≡ (run_table kinds most_pivots rows place).place

-- ---- what the first table has

-- s times the first n numbers of a, from place base on
pub record Copied (base : ℕ) (s : ℤ) (n : ℕ) (a l l' : List ℤ) : Type 0 where
  pub long : length l' ≡ length l
  pub inside : (i : ℕ) → i < n → get_or l' (base + i) (pos 0) ≡ s *ℤ get_or a i (pos 0)
  pub low : (i : ℕ) → i < base → get_or l' i (pos 0) ≡ get_or l i (pos 0)
  pub high : (i : ℕ) → base + n ≤ i → get_or l' i (pos 0) ≡ get_or l i (pos 0)

-- a first row with constant z and axes s·a, and no division yet
pub record Started (k : ℕ) (z s : ℤ) (a l : List ℤ) : Type 0 where
  pub long : length l ≡ 18
  pub den : get_or l 0 (pos 0) ≡ pos 1
  pub constant : get_or l 1 (pos 0) ≡ z
  pub divs : (c : ℕ) → c < k → get_or l (c + 2) (pos 0) ≡ pos 0
  pub axes : (i : ℕ) → i < most_axes → get_or l (k + 2 + i) (pos 0) ≡ s *ℤ get_or a i (pos 0)
  pub rest : (i : ℕ) → k + 10 ≤ i → get_or l i (pos 0) ≡ pos 0

-- the counts of a decoded basic set; candidates of a cut have them too
pub record Valid (b : BasicSet) : Type 0 where
  pub divs : b.divs ≤ most_divisions
  pub cons : b.cons ≤ most_constraints
  pub divisions : length b.divisions ≡ most_divisions
  pub constraints : length b.constraints ≡ most_constraints

-- the rows of the first n divisions' bounds are the first ones
pub record Bounded (ds : List Division) (k n : ℕ) (rows rows' : List (List ℤ)) : Type 0 where
  pub long : length rows' ≡ length rows
  pub firsts : take (2 * n) rows' ≡ map (start_row k) (bounds 0 (map division_of (take n ds)))

-- those of the first n constraints come next, and each has its kind
pub record Ruled (b : BasicSet) (n : ℕ) (rows rows' : List (List ℤ)) (kinds kinds' : List ℕ) : Type 0 where
  pub long : length rows' ≡ length rows
  pub names : length kinds' ≡ length kinds
  pub firsts : take (2 * b.divs + n) rows' ≡ take (2 * b.divs) rows ++ map (start_row b.divs) (map constraint_of (take n b.constraints))
  pub before : (v : ℕ) → v < most_axes + 3 * b.divs → get_or kinds' v 0 ≡ get_or kinds v 0
  pub kinds_are : (c : ℕ) → c < n → get_or kinds' (most_axes + 3 * b.divs + c) 0 ≡ kind_number (get_or (map (λ r. some (constraint_of r).kind) b.constraints) c none)

-- the places of the first n variables, and their kinds but for the constraints
pub record Named (k n : ℕ) (place place' kinds kinds' : List ℕ) : Type 0 where
  pub long : length place' ≡ length place
  pub names : length kinds' ≡ length kinds
  pub places : (v : ℕ) → v < n → get_or place' v 0 ≡ place_at k v
  pub free : (v : ℕ) → v < n → get_or kinds' v 0 ≡ cond (ltb v (most_axes + k)) 0 1

-- the first table of a basic set stands in the first rows, with the places and kinds of its variables
pub record First (b : BasicSet) (rows rows' : List (List ℤ)) (place place' kinds kinds' : List ℕ) : Type 0 where
  pub long : length rows' ≡ length rows
  pub names : length place' ≡ length place
  pub sames : length kinds' ≡ length kinds
  pub rows_are : take (2 * b.divs + b.cons) rows' ≡ map (start_row b.divs) (conditions (basic_set_of b))
  pub places : (v : ℕ) → v < most_axes + b.divs + (2 * b.divs + b.cons) → get_or place' v 0 ≡ place_at b.divs v
  pub kinds_are : (v : ℕ) → v < most_axes + b.divs + (2 * b.divs + b.cons) → get_or kinds' v 0 ≡ kind_number (T.sorts (basic_set_of b) v)
