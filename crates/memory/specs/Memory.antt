-- The memory of a state with its marks (document 02, request 8), as four tables of words: 17 slots of 64 rows, 80 places, 80 kinds and a head of
-- 5 numbers each, slot 0 for the state and slot 1 + name for a mark; and after the heads 16 ranks, one a name.
use Rattle.std.specs.Prelude.{◌≡◌, Bool, ◌&&◌, cond, List, [], ◌∷◌, ◌++◌, map, ℕ, ◌+◌, ◌-◌, ◌*◌, ◌≤◌, ◌<◌, min, ltb, eqb, length, get_or, set, take, drop}
use Rattle.std.proofs.Math.Seq.{paste}

pub record Memory : Type 0 where
  pub rows : List (List ℕ)
  pub place : List ℕ
  pub kinds : List ℕ
  pub heads : List ℕ

abbrev pub memory : List (List ℕ) → List ℕ → List ℕ → List ℕ → Memory
memory rows place kinds heads = record { rows = rows; place = place; kinds = kinds; heads = heads }

abbrev pub fitting : Memory → Bool
fitting y =
    eqb (length y.rows) 1088 && (eqb (length y.place) 1360 && (eqb (length y.kinds) 1360 && eqb (length y.heads) 101))

pub record Fits (y : Memory) : Type 0 where
  pub rows : length y.rows ≡ 1088
  pub place : length y.place ≡ 1360
  pub kinds : length y.kinds ≡ 1360
  pub heads : length y.heads ≡ 101

-- ---- slots

-- the n elements from place `from` on, written from place `to` on
abbrev pub copied : {A : Type 0} → ℕ → ℕ → ℕ → List A → List A
copied n from to l = paste l to (drop from l) n

-- within a list of that length, and none is written before it is read
pub record Apart (n from to long : ℕ) : Type 0 where
  pub source : from + n ≤ long
  pub target : to + n ≤ long
  pub apart : to < from + n → to ≤ from

-- a slot's head: axes, divisions, rules (also those that only count), rows in the table, the word
abbrev pub head_at : ℕ → ℕ → Memory → ℕ
head_at slot i y = get_or y.heads (5 * slot + i) 0

-- the rows of its table, no more than a slot has
abbrev pub used_in : ℕ → Memory → ℕ
used_in slot y = min 64 (head_at slot 3 y)

-- of the rows those of the table: the others are no numbers of the state
abbrev pub slot_copied : ℕ → ℕ → Memory → Memory
slot_copied from to y =
    memory (copied (used_in from y) (64 * from) (64 * to) y.rows) (copied 80 (80 * from) (80 * to) y.place) (copied 80 (80 * from) (80 * to) y.kinds)
    (copied 5 (5 * from) (5 * to) y.heads)

-- ---- ranks: 0 for a name that is not marked, else its place in time among the marks, from 1 for the oldest

abbrev pub ranks_of : Memory → List ℕ
ranks_of y = drop 85 y.heads

abbrev pub with_ranks : (List ℕ → List ℕ) → List ℕ → List ℕ
with_ranks f h = take 85 h ++ f (drop 85 h)

-- "Marking a used name moves it": what was marked after it has one less before it
abbrev pub fallen : ℕ → ℕ → ℕ
fallen old x = cond (eqb old 0) x (cond (ltb old x) (x - 1) x)

-- "forgets the marks made after it"
abbrev pub forgotten : ℕ → ℕ → ℕ
forgotten rank x = cond (ltb rank x) 0 x

-- how many names are marked
unfoldable pub marks : List ℕ → ℕ
marks [] = 0
marks (x ∷ r) = cond (eqb x 0) 0 1 + marks r

abbrev pub last : ℕ → List ℕ → List ℕ
last k r = set r k (marks r + 1)

unfoldable pub newest : ℕ → List ℕ → List ℕ
newest k r = last k (map (fallen (get_or r k 0)) (set r k 0))
