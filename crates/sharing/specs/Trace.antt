-- The run of a table with the pivots that it makes.
use Rattle.std.specs.Prelude.{◌≡◌, List, [], ◌∷◌, ◌++◌, ℕ, zero, suc, ◌+◌, ◌-◌, length, get_or, set, take, ℤ}
use Rattle.model.specs.Limits.{most_pivots}
use Rattle.simplex.specs.declared.Verdict.{Verdict}
use Rattle.simplex.specs.declared.Verdict.TheVariants.{Long}
use Rattle.simplex.specs.declared.Move.{Move}
use Rattle.simplex.specs.declared.Move.TheVariants.{Stop, Pivot}
use Rattle.simplex.specs.Table.{move_of, pivot_rows, pivot_place}
use Rattle.sharing.specs.declared.history.Standing.{Standing}

pub record Traced : Type 0 where
  pub verdict : Verdict
  pub rows : List (List ℤ)
  pub place : List ℕ
  pub kept : List (List ℤ)
  pub columns : List ℕ

abbrev pub stopped : Verdict → List (List ℤ) → List ℕ → Traced
stopped x rows place = record { verdict = x; rows = rows; place = place; kept = []; columns = [] }

-- the pivots qs, cs before those of y
abbrev pub prefixed : List (List ℤ) → List ℕ → Traced → Traced
prefixed qs cs y = record { verdict = y.verdict; rows = y.rows; place = y.place; kept = qs ++ y.kept; columns = cs ++ y.columns }

-- the row that the exchange of variables v and w leaves
abbrev pub leaves : List (List ℤ) → List ℕ → ℕ → ℕ → List ℤ
leaves rows place v w = get_or (pivot_rows rows place v w) (get_or place v 0) []

abbrev pub follow : Move → (List (List ℤ) → List ℕ → Traced) → List (List ℤ) → List ℕ → Traced
follow (Stop x) go rows place = stopped x rows place
follow (Pivot v w) go rows place =
    prefixed (leaves rows place v w ∷ []) ((get_or place w 0 - 64) ∷ []) (go (pivot_rows rows place v w) (pivot_place place v w))

-- with so many pivots left
unfoldable pub trace : List ℕ → ℕ → List (List ℤ) → List ℕ → Traced
trace kinds zero rows place = follow (move_of rows place kinds 0) (stopped Long) rows place
trace kinds (suc n) rows place = follow (move_of rows place kinds (suc n)) (trace kinds n) rows place

-- ---- what the functions give

-- the run from (rows, place) after `start` pivots, with its pivots kept behind those
pub record Went (kinds : List ℕ) (start : ℕ) (rows : List (List ℤ)) (place : List ℕ) (past : List (List ℤ)) (columns : List ℕ) (x : Standing)
    (rows' : List (List ℤ)) (place' : List ℕ) (past' : List (List ℤ)) (columns' : List ℕ) : Type 0 where
  pub size : x.rows ≡ length rows
  pub verdict_is : x.verdict ≡ (trace kinds (most_pivots - start) rows place).verdict
  pub rows_are : rows' ≡ (trace kinds (most_pivots - start) rows place).rows
  pub place_is : place' ≡ (trace kinds (most_pivots - start) rows place).place
  pub count : x.pivots ≡ start + length (trace kinds (most_pivots - start) rows place).kept
  pub past_is : take x.pivots past' ≡ take start past ++ (trace kinds (most_pivots - start) rows place).kept
  pub columns_are : take x.pivots columns' ≡ take start columns ++ (trace kinds (most_pivots - start) rows place).columns

pub record Made (rows : List (List ℤ)) (place : List ℕ) (past : List (List ℤ)) (columns : List ℕ) (k v w : ℕ) (rows' : List (List ℤ)) (place' : List ℕ) (past' : List (List ℤ)) (columns' : List ℕ) : Type 0 where
  pub rows_are : rows' ≡ pivot_rows rows place v w
  pub place_is : place' ≡ pivot_place place v w
  pub past_is : past' ≡ set past k (leaves rows place v w)
  pub columns_are : columns' ≡ set columns k (get_or place w 0 - 64)
