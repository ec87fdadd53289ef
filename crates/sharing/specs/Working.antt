-- The test of the working constraints, as the tables hold it.
use Rattle.std.specs.Prelude.{◌≡◌, List, [], ◌∷◌, ◌++◌, map, ℕ, ◌+◌, ◌-◌, ◌≤◌, ◌<◌, length, take, replicate, ℤ}
use Rattle.std.proofs.Math.Option.{Option, none, some}
use Rattle.model.specs.Limits.{most_axes, most_divisions, most_pivots}
use Rattle.model.specs.Sets.{Kind, Constraint}
use Rattle.model.specs.Values.{constraint_of}
use Rattle.model.specs.declared.Constraint.{Constraint as Stored}
use Rattle.simplex.specs.declared.Verdict.{Verdict}
use Rattle.simplex.specs.declared.Verdict.TheVariants.{Point, Wide}
use Rattle.tableau.specs.Rows.{violated, Whole}
use Rattle.simplex.specs.Table.{start_row, place_at, kind_number, tabulate, Fine}
use Rattle.sharing.specs.declared.history.Standing.{Standing}
use Rattle.sharing.specs.Past.{Kept}
use Rattle.sharing.specs.Trace.{Traced, trace}

-- ---- the first table of conditions cs over k divisions

abbrev pub kind_of : Constraint → Option Kind
kind_of c = some c.kind

abbrev pub first_table : ℕ → List Constraint → List (List ℤ)
first_table k cs = map (start_row k) cs

abbrev pub first_place : ℕ → ℕ → List ℕ
first_place k m = tabulate (most_axes + k + m) (place_at k)

abbrev pub first_kinds : ℕ → List Constraint → List ℕ
first_kinds k cs = map kind_number (replicate (most_axes + k) none ++ map kind_of cs)

-- their test, with its pivots
unfoldable pub trace_of : ℕ → List Constraint → Traced
trace_of k cs = trace (first_kinds k cs) most_pivots (first_table k cs) (first_place k (length cs))

-- ---- what the tables hold: a wide test nothing, one that is dropped or long its pivots, one that found a point the tableau too

pub record Stands (k : ℕ) (cs : List Constraint) (h : Standing) (rows : List (List ℤ)) (place kinds : List ℕ) (past : List (List ℤ)) (columns : List ℕ) : Type 0 where
  pub few : k ≤ most_divisions
  pub high : length rows ≡ 64
  pub long : length place ≡ 80
  pub wide : length kinds ≡ 80
  pub many : length past ≡ most_pivots
  pub many' : length columns ≡ most_pivots
  pub room : length cs ≤ 64
  pub size : h.rows ≡ length cs
  pub most : h.pivots ≤ most_pivots
  pub kept : Kept (k + 10) (take h.pivots past) (take h.pivots columns)
  pub verdict_is : h.verdict ≡ (trace_of k cs).verdict
  pub past_is : (h.verdict ≡ Wide → ⊥) → take h.pivots past ≡ (trace_of k cs).kept
  pub columns_are : (h.verdict ≡ Wide → ⊥) → take h.pivots columns ≡ (trace_of k cs).columns
  pub rows_are : h.verdict ≡ Point → take h.rows rows ≡ (trace_of k cs).rows
  pub place_is : h.verdict ≡ Point → take (most_axes + k + h.rows) place ≡ (trace_of k cs).place
  pub kinds_are : h.verdict ≡ Point → take (most_axes + k + h.rows) kinds ≡ first_kinds k cs

-- ---- one condition more

pub record Growing (k : ℕ) (h : Standing) (rows : List (List ℤ)) (place kinds : List ℕ) (past : List (List ℤ)) (columns : List ℕ) : Type 0 where
  pub cs : List Constraint
  pub stands : Stands k cs h rows place kinds past columns
  pub less : h.rows < 64

pub record Grown (k : ℕ) (c : Stored) (h : Standing) (rows : List (List ℤ)) (place kinds : List ℕ) (past : List (List ℤ)) (columns : List ℕ)
    (x : Standing) (rows' : List (List ℤ)) (place' kinds' : List ℕ) (past' : List (List ℤ)) (columns' : List ℕ) : Type 0 where
  pub grown : (cs : List Constraint) → Stands k cs h rows place kinds past columns → Stands k (cs ++ (constraint_of c ∷ [])) x rows' place' kinds' past' columns'

pub record Tried (k : ℕ) (c : Stored) (h : Standing) (rows : List (List ℤ)) (place kinds : List ℕ) (past : List (List ℤ)) (columns : List ℕ) (x : Verdict) : Type 0 where
  pub tried : (cs : List Constraint) → Stands k cs h rows place kinds past columns → x ≡ (trace_of k (cs ++ (constraint_of c ∷ []))).verdict

-- ---- the steps of these

pub record Beginning (rows : List (List ℤ)) (place kinds : List ℕ) (past : List (List ℤ)) (columns : List ℕ) : Type 0 where
  pub high : length rows ≡ 64
  pub long : length place ≡ 80
  pub wide : length kinds ≡ 80
  pub many : length past ≡ most_pivots
  pub many' : length columns ≡ most_pivots

-- m rows and v variables with no violated row, and room for the row r
pub record Calm (n m v : ℕ) (r : List ℤ) (rows : List (List ℤ)) (place kinds : List ℕ) : Type 0 where
  pub few : m < 64
  pub names : v < 80
  pub high : length rows ≡ 64
  pub long : length place ≡ 80
  pub wide : length kinds ≡ 80
  pub base : Fine n (take m rows) (take v place) (take v kinds)
  pub whole : Whole n r
  pub calm : v ≤ violated (take m rows) (take v place) (take v kinds)

-- the run with the row r more, of a variable of kind κ, and `left` pivots
abbrev pub onward : ℕ → ℕ → ℕ → ℕ → List ℤ → List (List ℤ) → List ℕ → List ℕ → Traced
onward left m v κ r rows place kinds = trace (take v kinds ++ (κ ∷ [])) left (take m rows ++ (r ∷ [])) (take v place ++ (m ∷ []))

pub record Appended (m v made κ : ℕ) (r : List ℤ) (rows : List (List ℤ)) (place kinds : List ℕ) (past : List (List ℤ)) (columns : List ℕ)
    (x : Standing) (rows' : List (List ℤ)) (place' kinds' : List ℕ) (past' : List (List ℤ)) (columns' : List ℕ) : Type 0 where
  pub size : x.rows ≡ m + 1
  pub verdict_is : x.verdict ≡ (onward (most_pivots - made) m v κ r rows place kinds).verdict
  pub rows_are : take (m + 1) rows' ≡ (onward (most_pivots - made) m v κ r rows place kinds).rows
  pub place_is : take (v + 1) place' ≡ (onward (most_pivots - made) m v κ r rows place kinds).place
  pub kinds_are : take (v + 1) kinds' ≡ take v kinds ++ (κ ∷ [])
  pub count : x.pivots ≡ made + length (onward (most_pivots - made) m v κ r rows place kinds).kept
  pub past_is : take x.pivots past' ≡ take made past ++ (onward (most_pivots - made) m v κ r rows place kinds).kept
  pub columns_are : take x.pivots columns' ≡ take made columns ++ (onward (most_pivots - made) m v κ r rows place kinds).columns
