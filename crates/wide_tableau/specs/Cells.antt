-- A row of two-word cells as the list of its numbers, and a table as the rows' lists.
use Rattle.std.specs.Prelude.{◌≡◌, List, [], ◌∷◌, map, ℕ, ◌<◌, length, get_or, ℤ}
use Rattle.wide.specs.Wide.{cell, high_of, low_of}
use Rattle.integers.specs.Size.{bound}
use Rattle.tableau.specs.Rows.{divisor, Small}

unfoldable pub cells : List ℕ → List ℤ
cells [] = []
cells (h ∷ []) = []
cells (h ∷ (l ∷ r)) = cell h l ∷ cells r

-- the words of numbers: 0 has one form
unfoldable pub words : List ℤ → List ℕ
words [] = []
words (z ∷ l) = high_of z ∷ (low_of z ∷ words l)

-- a row of 18 numbers, each in its one form: its words are those of its numbers
pub record Sheet (r : List ℕ) : Type 0 where
  pub long : length r ≡ 36
  pub plain : words (cells r) ≡ r

-- a row that has become these numbers
pub record Becomes (r : List ℕ) (l : List ℤ) : Type 0 where
  pub is : cells r ≡ l
  pub sheet : Sheet r

-- so, with their common divisor
pub record Combined (r : List ℕ) (l : List ℤ) (g : ℕ) : Type 0 where
  pub is : cells r ≡ l
  pub sheet : Sheet r
  pub divisor_is : g ≡ divisor l

-- the same numbers in words of one, each within the bound of 64 bits
pub record Narrows (l s : List ℤ) : Type 0 where
  pub is : s ≡ l
  pub small : Small (bound 64) l

-- ---- a table
abbrev pub rows_of : List (List ℕ) → List (List ℤ)
rows_of t = map cells t

-- each row is one
pub record Sheets (t : List (List ℕ)) : Type 0 where
  pub at : (k : ℕ) → k < length t → Sheet (get_or t k [])

-- a table that has become these rows
pub record Turns (t : List (List ℕ)) (l : List (List ℤ)) : Type 0 where
  pub is : rows_of t ≡ l
  pub sheets : Sheets t
