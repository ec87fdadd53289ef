-- The four calls on a memory (document 02, request 8), for every memory: what each says, and every word after it.
use Rattle.std.specs.Prelude.{◌&&◌, cond, List, [], ◌∷◌, ◌++◌, map, ℕ, zero, suc, ◌+◌, ◌*◌, ◌/◌, ◌%◌, leb, ltb, eqb, ℤ, Result, Ok, Err, length, get_or, set, take, drop}
use Rattle.std.proofs.Math.Option.{Option, none, some}
use Rattle.integers.specs.Size.{bound}
use Rattle.model.specs.Sets.{Division, Constraint, bounds}
use Rattle.wide_tableau.specs.Cells.{words, rows_of}
use Rattle.model.specs.Limits.{most_axes, most_pivots, most_name}
use Rattle.model.specs.Refusals.{bad_name}
use Rattle.model.specs.declared.refusal.Refusal.{Refusal}
use Rattle.model.specs.Refused.{number_of}
use Rattle.simplex.specs.Table.{Ending, run_table_at, tabulate, start_row, place_at, kind_number}
use Rattle.simplex.specs.declared.Verdict.{Verdict}
use Rattle.simplex.specs.declared.Verdict.TheVariants as E
use Rattle.planning.specs.State.{start_refusal}
use Rattle.drafting.specs.Sketch.{rule_row}
use Rattle.memory.specs.Memory.{Memory, memory, fitting, slot_copied, head_at, with_ranks, forgotten, newest}
use Rattle.memory.specs.Sound.{is_word, sound}
use Rattle.states.specs.declared.Said.{Said}
use Rattle.states.specs.declared.Said.TheVariants as W
use Rattle.rules.specs.Rules.{rule_number}
use Rattle.rules.specs.Divisions.{divisions_in}

-- what a call says: the state's word, a refusal's number, or that the memory has no state
pub data Saying : Type 0 where
  Point : Saying
  Empty : Saying
  Wide : Saying
  Long : Saying
  Refused : ℕ → Saying
  Misused : Saying

abbrev pub word_is : Said → Saying
word_is W.Point = Point
word_is W.Empty = Empty
word_is W.Wide = Wide
word_is W.Long = Long
word_is W.Misused = Misused

-- each case of the code's answer; `number` is what number an error has
abbrev pub said_by : {E : Type 0} → (E → ℕ) → Result Said E → Saying
said_by number (Ok x) = word_is x
said_by number (Err e) = Refused (number e)

abbrev pub said_is : Result Said Refusal → Saying
said_is r = said_by number_of r

pub record Step : Type 0 where
  pub said : Saying
  pub memory : Memory

abbrev pub stepped : Saying → Memory → Step
stepped x y = record { said = x; memory = y }

-- a word is a number from 1 to 4; another says that there is no state
abbrev pub said_of : ℕ → Saying
said_of w = cond (eqb w 1) Point (cond (eqb w 2) Empty (cond (eqb w 3) Wide (cond (eqb w 4) Long Misused)))

abbrev pub word_number : Verdict → ℕ
word_number E.Point = 1
word_number E.Dropped = 2
word_number E.Wide = 3
word_number E.Long = 4

-- the state's word, of what it has become
abbrev pub says : Memory → Step
says y = stepped (said_of (head_at 0 4 y)) y

abbrev pub ranked : (List ℕ → List ℕ) → Memory → Memory
ranked f y = memory y.rows y.place y.kinds (with_ranks f y.heads)

-- ---- mark: "18 for a name over 15 .. before all else in that call"

abbrev pub marked_in : ℕ → Memory → Memory
marked_in k y = ranked (newest k) (slot_copied 0 (k + 1) y)

unfoldable pub mark_step : ℕ → Memory → Step
mark_step k y =
    cond (leb k most_name) (cond (fitting y && is_word (head_at 0 4 y)) (stepped (said_of (head_at 0 4 y)) (marked_in k y)) (stepped Misused y)) (stepped (Refused bad_name) y)

-- ---- back: "or, in going back, never marked or forgotten"

abbrev pub back_in : ℕ → ℕ → Memory → Memory
back_in k rank y = ranked (map (forgotten rank)) (slot_copied (k + 1) 0 y)

abbrev pub back_by : ℕ → ℕ → Memory → Step
back_by k rank y =
    cond (eqb rank 0) (stepped (Refused bad_name) y)
    (cond (is_word (head_at (k + 1) 4 y)) (stepped (said_of (head_at (k + 1) 4 y)) (back_in k rank y)) (stepped Misused y))

unfoldable pub back_step : ℕ → Memory → Step
back_step k y = cond (leb k most_name) (cond (fitting y) (back_by k (get_or y.heads (85 + k) 0) y) (stepped Misused y)) (stepped (Refused bad_name) y)

-- ---- start: "started from n and divisions, without marks, and tested"

-- the places and kinds of the first table of k divisions' bounds
unfoldable pub first_place : ℕ → List ℕ
first_place k = tabulate (most_axes + k + 2 * k) (place_at k)

abbrev pub free_or_bound : ℕ → ℕ → ℕ
free_or_bound k v = cond (ltb v (most_axes + k)) 0 1

unfoldable pub first_kinds : ℕ → List ℕ
first_kinds k = tabulate (most_axes + k + 2 * k) (free_or_bound k)

abbrev pub first_rows : ℕ → List Division → List (List ℤ)
first_rows k ds = map (start_row k) (bounds 0 ds)

unfoldable pub start_end : ℕ → List Division → Ending
start_end k ds = run_table_at (bound 128) (first_kinds k) most_pivots (first_rows k ds) (first_place k)

abbrev pub opened_in : ℕ → ℕ → Ending → Memory → Memory
opened_in n k e y =
    memory (map words e.rows ++ drop (2 * k) y.rows) (e.place ++ drop (most_axes + k + 2 * k) y.place) (first_kinds k ++ drop (most_axes + k + 2 * k) y.kinds)
    (with_ranks (map (forgotten 0)) ((n ∷ k ∷ 0 ∷ (2 * k) ∷ word_number e.verdict ∷ []) ++ drop 5 y.heads))

abbrev pub opens : ℕ → ℕ → Ending → Memory → Step
opens n k e y = stepped (said_of (word_number e.verdict)) (opened_in n k e y)

abbrev pub start_by : ℕ → ℕ → ℕ → List Division → Memory → Step
start_by zero n k ds y = opens n k (start_end k ds) y
start_by (suc r) n k ds y = stepped (Refused (suc r)) y

abbrev pub start_with : ℕ → ℕ → List Division → Memory → Step
start_with n k ds y = start_by (start_refusal n ds) n k ds y

-- ten numbers a division
unfoldable pub start_step : ℕ → List ℤ → Memory → Step
start_step n xs y = cond (fitting y && eqb (length xs % 10) 0) (start_with n (length xs / 10) (divisions_in (length xs / 10) xs) y) (stepped Misused y)

-- ---- add: "after each addition the test goes on from the tableau reached, with 200 pivots for that addition"

-- the state says w
abbrev pub saying : ℕ → Memory → Memory
saying w y = memory y.rows y.place y.kinds (set y.heads 4 w)

-- with a row, variable v = 8 + k + m, of that kind: where the test goes on to
abbrev pub goes_on : ℕ → ℕ → ℕ → List ℤ → Memory → Ending
goes_on k m kind row y =
    run_table_at (bound 128) (take (most_axes + k + m) y.kinds ++ (kind ∷ [])) most_pivots (rows_of (take m y.rows) ++ (row ∷ [])) (take (most_axes + k + m) y.place ++ (m ∷ []))

abbrev pub went_on : ℕ → ℕ → ℕ → Ending → Memory → Memory
went_on k m kind e y =
    memory (map words e.rows ++ drop (m + 1) y.rows) (e.place ++ drop (most_axes + k + m + 1) y.place) (set y.kinds (most_axes + k + m) kind)
    (set (set y.heads 4 (word_number e.verdict)) 3 (m + 1))

-- "beyond it is wide": the table is left as it was
abbrev pub grown_by : ℕ → ℕ → ℕ → Option (List ℤ) → Memory → Memory
grown_by k m kind none y = saying 3 y
grown_by k m kind (some row) y = went_on k m kind (goes_on k m kind row y) y

unfoldable pub grown_in : ℕ → ℕ → Constraint → Memory → Memory
grown_in k m r y = grown_by k m (kind_number (some r.kind)) (rule_row (bound 128) k (rows_of (take m y.rows)) (take (most_axes + k + m) y.place) r) y

-- "rules added meanwhile count unpivoted"
abbrev pub counted_in : Memory → Memory
counted_in y = memory y.rows y.place y.kinds (set y.heads 2 (head_at 0 2 y + 1))

-- "Once empty, wide or long it says so until it goes back"
abbrev pub joined_in : Constraint → Memory → Memory
joined_in r y = cond (eqb (head_at 0 4 y) 1) (grown_in (head_at 0 1 y) (head_at 0 3 y) r (counted_in y)) (counted_in y)

abbrev pub add_by : ℕ → Constraint → Memory → Step
add_by zero r y = says (joined_in r y)
add_by (suc k) r y = stepped (Refused (suc k)) y

unfoldable pub add_step : Constraint → Memory → Step
add_step r y =
    cond (fitting y && sound y) (add_by (rule_number (head_at 0 0 y) (head_at 0 1 y) (head_at 0 2 y) r) r y) (stepped Misused y)
