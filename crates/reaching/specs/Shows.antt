-- When the words of a memory show a planner's desk (document 02, request 8): slot 0 the state of now, slot 1 + name each marked one.
use Rattle.std.specs.Prelude.{◌≡◌, cond, List, [], ◌∷◌, map, ℕ, zero, suc, ◌+◌, ◌*◌, ◌<◌, eqb, length, get_or, take, drop}
use Rattle.std.proofs.Math.Option.{some}
use Rattle.feasibility.specs.Tableau.{Verdict, point, dropped, wide, long, Row, no_row}
use Rattle.planning.specs.State.{State}
use Rattle.planning.specs.Desk.{Desk, named}
use Rattle.wide_tableau.specs.Cells.{words}
use Rattle.simplex.specs.Table.{tabulate, column_of, layout, kind_number}
use Rattle.memory.specs.Memory.{Memory, Fits, ranks_of}

-- ---- a slot's words

pub record Slot : Type 0 where
  pub rows : List (List ℕ)
  pub place : List ℕ
  pub kinds : List ℕ
  pub head : List ℕ

-- the n elements from place a on
abbrev pub window : {A : Type 0} → ℕ → ℕ → List A → List A
window n a l = take n (drop a l)

abbrev pub slot_of : ℕ → Memory → Slot
slot_of i y =
    record { rows = window 64 (64 * i) y.rows; place = window 80 (80 * i) y.place; kinds = window 80 (80 * i) y.kinds; head = window 5 (5 * i) y.heads }

-- its words in use: of the rows as many as its head says
abbrev pub used_of : Slot → Slot
used_of x = record { rows = take (get_or x.head 3 0) x.rows; place = x.place; kinds = x.kinds; head = x.head }

-- ---- a state

abbrev pub word_for : Verdict → ℕ
word_for point = 1
word_for dropped = 2
word_for wide = 3
word_for long = 4

abbrev pub row_words : ℕ → Row → List ℕ
row_words k r = words (layout k r)

-- its head, its tableau number by number, the place of each variable and the kinds: of the slot the first words, as many as the tableau has
pub record ShowsState (s : State) (x : Slot) : Type 0 where
  pub head : x.head ≡ s.axes ∷ s.divisions ∷ s.rules ∷ length s.tableau.rows ∷ word_for s.says ∷ []
  pub rows : take (length s.tableau.rows) x.rows ≡ map (row_words s.divisions) s.tableau.rows
  pub row_places : (i : ℕ) → i < length s.tableau.rows → get_or x.place (get_or s.tableau.rows i no_row).var 0 ≡ i
  pub column_places : (j : ℕ) → j < length s.tableau.cols → get_or x.place (get_or s.tableau.cols j 0) 0 ≡ 64 + column_of s.divisions j
  pub kinds : take (length s.kinds) x.kinds ≡ map kind_number s.kinds

-- ---- a desk

abbrev pub later : ℕ → ℕ
later zero = zero
later (suc n) = suc (suc n)

-- a name's place in time among the marks, 1 for the oldest; 0 where it is not marked
abbrev pub rank_in : List (ℕ × State) → ℕ → ℕ
rank_in [] k = 0
rank_in (p ∷ ms) k = cond (eqb p.0 k) 1 (later (rank_in ms k))

pub record Shows (d : Desk State) (y : Memory) : Type 0 where
  pub fits : Fits y
  pub now : ShowsState d.now (slot_of 0 y)
  pub marks : (k : ℕ) (s : State) → named k d.marks ≡ some s → ShowsState s (slot_of (suc k) y)
  pub ranks : ranks_of y ≡ tabulate 16 (rank_in d.marks)
