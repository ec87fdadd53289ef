-- What the functions of a call ask and give.
use Rattle.std.specs.Prelude.{◌≡◌, List, ◌++◌, map, ℕ, ◌+◌, ◌*◌, ◌≤◌, ◌<◌, pos, length, set, take, drop, ◌<ℤ◌}
use Rattle.model.specs.Sets as S
use Rattle.model.specs.declared.Division.{Division}
use Rattle.tableau.specs.Rows.{den, Line}
use Rattle.wide_tableau.specs.Cells.{cells, words, Sheet, Turns}
use Rattle.model.specs.Limits.{most_axes, most_divisions}
use Rattle.simplex.specs.Table.{Ending}
use Rattle.memory.specs.Sound.{Stands}
use Rattle.states.specs.Calls.{word_number, first_place, first_kinds, first_rows}

-- room for the first table of k divisions, and no more
pub record Room (k : ℕ) (ds : List Division) (t : List (List ℕ)) (place kinds : List ℕ) : Type 0 where
  pub few : k ≤ most_divisions
  pub divisions : length ds ≡ most_divisions
  pub rows : length t ≡ 2 * k
  pub names : length place ≡ most_axes + k + 2 * k
  pub sames : length kinds ≡ most_axes + k + 2 * k

pub record Begun (k : ℕ) (ds : List S.Division) (t : List (List ℕ)) (place kinds : List ℕ) : Type 0 where
  pub rows : Turns t (first_rows k ds)
  pub place_is : place ≡ first_place k
  pub kinds_are : kinds ≡ first_kinds k

-- a run that ended with this word, table and places
pub record Ran (e : Ending) (w : ℕ) (t : List (List ℕ)) (place : List ℕ) : Type 0 where
  pub word : w ≡ word_number e.verdict
  pub rows : t ≡ map words e.rows
  pub place_is : place ≡ e.place

-- a table of k divisions and m rows with room for one more
pub record Open (k m : ℕ) (rows : List (List ℕ)) (place kinds : List ℕ) : Type 0 where
  pub few : k ≤ most_divisions
  pub count : m < 64
  pub rows_room : length rows ≡ 1088
  pub place_room : length place ≡ 1360
  pub kinds_room : length kinds ≡ 1360
  pub stands : Stands k (take m rows) (take (most_axes + k + m) place)

-- the test has gone on with that row: the word, and every word of the tables
pub record Grew (k m kind : ℕ) (e : Ending) (w : ℕ) (rows rows' : List (List ℕ)) (place place' kinds kinds' : List ℕ) : Type 0 where
  pub word : w ≡ word_number e.verdict
  pub rows_are : rows' ≡ map words e.rows ++ drop (m + 1) rows
  pub place_is : place' ≡ e.place ++ drop (most_axes + k + m + 1) place
  pub kinds_are : kinds' ≡ set kinds (most_axes + k + m) kind

-- a row that can join it
pub record Joins (k : ℕ) (row : List ℕ) : Type 0 where
  pub sheet : Sheet row
  pub line : Line (k + 10) (cells row)
  pub over : pos 0 <ℤ den (cells row)
