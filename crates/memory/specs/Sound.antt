-- What a state's slot has to hold, so that the functions which go on from it can: no more than they ask.
use Rattle.std.specs.Prelude.{Bool, true, ◌&&◌, ◌||◌, List, [], ◌∷◌, ℕ, ◌+◌, ◌*◌, ◌<◌, leb, ltb, eqb, pos, length, get_or, take, drop, ◌<ℤ◌}
use Rattle.std.specs.Int.Signed.{lt_z}
use Rattle.model.specs.Lists.{all}
use Rattle.model.specs.Sets.{is_zero}
use Rattle.codec.specs.Bytes.{axes_fit}
use Rattle.wide.specs.Wide.{cell, high_of, low_of}
use Rattle.tableau.specs.Rows.{den, Line}
use Rattle.wide_tableau.specs.Cells.{cells, rows_of, Sheets}
use Rattle.model.specs.Limits.{most_axes, most_divisions, most_constraints}
use Rattle.memory.specs.Memory.{Memory, head_at}

-- two words that are those of their number: 0 has one form
unfoldable pub plain_cell : ℕ → ℕ → Bool
plain_cell h l = eqb (high_of (cell h l)) h && eqb (low_of (cell h l)) l

unfoldable pub plain_words : List ℕ → Bool
plain_words [] = true
plain_words (h ∷ []) = true
plain_words (h ∷ (l ∷ r)) = plain_cell h l && plain_words r

-- a row of 18 plain numbers, 0 from place n on, with a denominator over 0
unfoldable pub sound_row : ℕ → List ℕ → Bool
sound_row n r = eqb (length r) 36 && (plain_words r && (all is_zero (drop n (cells r)) && lt_z (pos 0) (den (cells r))))

-- a row, or 64 and a column in use
abbrev pub sound_place : ℕ → ℕ → ℕ → Bool
sound_place k m p = ltb p m || (leb 64 p && ltb p (72 + k))

-- point, empty, wide or long
abbrev pub is_word : ℕ → Bool
is_word w = ltb 0 w && leb w 4

abbrev pub sound_head : ℕ → ℕ → ℕ → ℕ → ℕ → Bool
sound_head n k rules m w = axes_fit n && (leb k most_divisions && (leb rules most_constraints && (leb m (2 * k + rules) && is_word w)))

abbrev pub sound_table : ℕ → ℕ → Memory → Bool
sound_table k m y = all (sound_row (k + 10)) (take m y.rows) && all (sound_place k m) (take (most_axes + k + m) y.place)

unfoldable pub sound : Memory → Bool
sound y =
    sound_head (head_at 0 0 y) (head_at 0 1 y) (head_at 0 2 y) (head_at 0 3 y) (head_at 0 4 y) && sound_table (head_at 0 1 y) (head_at 0 3 y) y

-- a sound table of k divisions: what the functions that go on from it ask
pub record Stands (k : ℕ) (t : List (List ℕ)) (place : List ℕ) : Type 0 where
  pub sheets : Sheets t
  pub line : (i : ℕ) → i < length (rows_of t) → Line (k + 10) (get_or (rows_of t) i [])
  pub over : (i : ℕ) → i < length (rows_of t) → pos 0 <ℤ den (get_or (rows_of t) i [])
  pub near : (v : ℕ) → v < length place → get_or place v 0 < 72 + k
  pub spot : (v : ℕ) → v < length place → get_or place v 0 < 64 → get_or place v 0 < length (rows_of t)
