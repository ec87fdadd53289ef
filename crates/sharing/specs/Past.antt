-- A row brought through kept pivots. A pivot is kept as the row that it left and its column.
use Rattle.std.specs.Prelude.{◌≡◌, Bool, true, false, cond, List, [], ◌∷◌, ℕ, ◌<◌, length, get_or, set, ℤ, pos}
use Rattle.tableau.specs.Rows.{den, rebuild_row, narrow_row, Divisor}

-- row s after the pivot that is kept as q
abbrev pub put : ℕ → List ℤ → List ℤ → List ℤ
put j q s = rebuild_row j (den q) (set q 0 (pos 0)) s

-- so, where step 4 lets the row pass
abbrev pub passed : ℕ → List ℤ → List ℤ → List ℤ
passed j q s = cond (narrow_row j s) (put j q s) s

-- step 4 lets the row pass at each pivot
unfoldable pub through : List (List ℤ) → List ℕ → List ℤ → Bool
through [] cs s = true
through (q ∷ qs) [] s = false
through (q ∷ qs) (j ∷ cs) s = cond (narrow_row j s) (through qs cs (put j q s)) false

-- the row after the pivots that it passes
unfoldable pub brought : List (List ℤ) → List ℕ → List ℤ → List ℤ
brought [] cs s = s
brought (q ∷ qs) [] s = s
brought (q ∷ qs) (j ∷ cs) s = cond (narrow_row j s) (brought qs cs (put j q s)) s

-- ---- what the functions ask and give

-- a kept pivot's row
pub record Left (n : ℕ) (q : List ℤ) : Type 0 where
  pub long : length q ≡ 18
  pub divisor : Divisor n (den q) (set q 0 (pos 0))

pub record Kept (n : ℕ) (qs : List (List ℤ)) (cs : List ℕ) : Type 0 where
  pub same : length cs ≡ length qs
  pub columns : (k : ℕ) → k < length qs → get_or cs k 0 < 16
  pub rows : (k : ℕ) → k < length qs → Left n (get_or qs k [])

pub record Passed (j : ℕ) (q s : List ℤ) (b : Bool) (s' : List ℤ) : Type 0 where
  pub test : b ≡ narrow_row j s
  pub row : s' ≡ passed j q s

pub record Replayed (qs : List (List ℤ)) (cs : List ℕ) (s : List ℤ) (b : Bool) (s' : List ℤ) : Type 0 where
  pub all : b ≡ through qs cs s
  pub row : s' ≡ brought qs cs s
