-- A new rule's row over the table reached (document 02, request 8), as the code makes it on the rows of crate `tableau`: "each variable of nonzero
-- coefficient that is now a row is replaced by that row, one at a time, lowest number first, both rows within step 4's bound and the result reduced;
-- beyond it is wide."
use Rattle.std.specs.Prelude.{◌≡◌, Bool, ◌&&◌, cond, List, [], ◌∷◌, ℕ, zero, suc, ◌+◌, ◌-◌, ◌<◌, ◌≤◌, ltb, length, get_or, set, replicate, ℤ, pos, neg_ℤ, ◌<ℤ◌}
use Rattle.std.proofs.Math.Option.{Option, none, some}
use Rattle.integers.specs.Gcd.{gcd}
use Rattle.integers.specs.Size.{bound}
use Rattle.model.specs.Sets.{Constraint, is_zero}
use Rattle.tableau.specs.Rows.{den, divisor, divide_row, combine_rows, small_at, Small, Line}
use Rattle.wide_tableau.specs.Cells.{cells, Sheet}
use Rattle.model.specs.Limits.{most_axes, most_divisions}

-- a row on its way: over the columns, and the coefficients that wait to be replaced, variable v's at number v + 2
pub record Sketch : Type 0 where
  pub row : List ℤ
  pub waiting : List ℤ

-- ---- the first sketch

-- a rule's coefficients by variable: 8 axes, then the divisions
abbrev pub coefficient_at : Constraint → ℕ → ℤ
coefficient_at r v = cond (ltb v most_axes) (get_or r.axes v (pos 0)) (get_or r.divisions (v - most_axes) (pos 0))

-- variable v of place i, with coefficient x: a row's waits, a column's stands in its column
abbrev pub put_at : ℕ → ℕ → ℤ → Sketch → Sketch
put_at v i x s =
    record {
      row = cond (ltb i 64) s.row (set s.row (i - 64 + 2) x);
      waiting = cond (ltb i 64) (set s.waiting (v + 2) x) s.waiting;
    }

-- the variables from v on, f of them
unfoldable pub put_from : Constraint → List ℕ → ℕ → ℕ → Sketch → Sketch
put_from r place zero v s = s
put_from r place (suc f) v s = put_from r place f (suc v) (put_at v (get_or place v 0) (coefficient_at r v) s)

-- denominator 1 and the constant
abbrev pub bare : ℤ → Sketch
bare z = record { row = pos 1 ∷ (z ∷ replicate 16 (pos 0)); waiting = replicate 18 (pos 0) }

-- over 8 axes and k divisions
unfoldable pub begun : ℕ → List ℕ → Constraint → Sketch
begun k place r = put_from r place (most_axes + k) 0 (bare r.constant)

-- ---- a variable that waits replaced

-- b·v, that waits, is b · (row r of v) / (its denominator)
unfoldable pub put_in : ℕ → List ℤ → Sketch → Sketch
put_in v r s =
    record {
      row = combine_rows (den r) (neg_ℤ (get_or s.waiting (v + 2) (pos 0))) s.row (set r 0 (pos 0));
      waiting = combine_rows (den r) (pos 0) (set s.waiting (v + 2) (pos 0)) (set r 0 (pos 0));
    }

-- the common divisor of all numbers, those that wait too
abbrev pub divisor_of : Sketch → ℕ
divisor_of s = gcd (divisor s.row) (divisor s.waiting)

abbrev pub divided_by : ℕ → Sketch → Sketch
divided_by g s = record { row = divide_row s.row g; waiting = divide_row s.waiting g }

abbrev pub lowest_terms : Sketch → Sketch
lowest_terms s = divided_by (divisor_of s) s

abbrev pub substituted : ℕ → List ℤ → Sketch → Sketch
substituted v r s = lowest_terms (put_in v r s)

-- "both rows within step 4's bound"
abbrev pub both_small : ℕ → Sketch → List ℤ → Bool
both_small m s r = small_at m s.row && (small_at m s.waiting && small_at m r)

-- by row r, under the bound m
abbrev pub replaced_by : ℕ → ℕ → List ℤ → Sketch → Option Sketch
replaced_by m v r s = cond (both_small m s r) (some (substituted v r s)) none

-- variable v; none: beyond the bound
unfoldable pub settled_at : ℕ → List (List ℤ) → List ℕ → ℕ → Sketch → Option Sketch
settled_at m rows place v s = cond (is_zero (get_or s.waiting (v + 2) (pos 0))) (some s) (replaced_by m v (get_or rows (get_or place v 0) []) s)

abbrev pub and_then : Option Sketch → (Sketch → Option Sketch) → Option Sketch
and_then none go = none
and_then (some s) go = go s

-- the variables from v on, f of them
unfoldable pub settled_from : ℕ → List (List ℤ) → List ℕ → ℕ → ℕ → Sketch → Option Sketch
settled_from m rows place zero v s = some s
settled_from m rows place (suc f) v s = and_then (settled_at m rows place v s) (settled_from m rows place f (suc v))

abbrev pub row_in : Option Sketch → Option (List ℤ)
row_in none = none
row_in (some s) = some s.row

-- a rule's row over the table; none: "beyond it is wide"
unfoldable pub rule_row : ℕ → ℕ → List (List ℤ) → List ℕ → Constraint → Option (List ℤ)
rule_row m k rows place r = row_in (settled_from m rows place (most_axes + k) 0 (begun k place r))

-- ---- what the functions ask and give

abbrev pub sketch_of : List ℕ → List ℕ → Sketch
sketch_of row waiting = record { row = cells row; waiting = cells waiting }

-- two rows of words that have become a sketch
pub record Sketched (s : Sketch) (row waiting : List ℕ) : Type 0 where
  pub is : sketch_of row waiting ≡ s
  pub sheet : Sheet row
  pub waits : Sheet waiting

-- so, where b says that nothing was beyond the bound
pub record Settles (o : Option Sketch) (b : Bool) (row waiting : List ℕ) : Type 0 where
  pub is : o ≡ cond b (some (sketch_of row waiting)) none
  pub sheet : Sheet row
  pub waits : Sheet waiting

-- and a row that has become a rule's
pub record Drafts (o : Option (List ℤ)) (b : Bool) (row : List ℕ) : Type 0 where
  pub is : o ≡ cond b (some (cells row)) none
  pub sheet : Sheet row

-- a table over 8 axes and k divisions: each of these variables is one of its rows, or a column
pub record Laid (k : ℕ) (rows : List (List ℤ)) (place : List ℕ) : Type 0 where
  pub few : k ≤ most_divisions
  pub names : most_axes + k ≤ length place
  pub line : (i : ℕ) → i < length rows → Line (k + 10) (get_or rows i [])
  pub over : (i : ℕ) → i < length rows → pos 0 <ℤ den (get_or rows i [])
  pub near : (v : ℕ) → v < most_axes + k → get_or place v 0 < 72 + k
  pub spot : (v : ℕ) → v < most_axes + k → get_or place v 0 < 64 → get_or place v 0 < length rows

-- a sketch of n numbers
pub record Whole (n : ℕ) (s : Sketch) : Type 0 where
  pub line : Line n s.row
  pub waits : Line n s.waiting
  pub over : pos 0 <ℤ den s.row

-- so, over such a table: what waits is a row
pub record Sound (k : ℕ) (rows : List (List ℤ)) (place : List ℕ) (s : Sketch) : Type 0 where
  pub whole : Whole (k + 10) s
  pub spot : (v : ℕ) → v < most_axes + k → (get_or s.waiting (v + 2) (pos 0) ≡ pos 0 → ⊥) → get_or place v 0 < length rows

-- a sketch, and a row that is put in
pub record Ready (n : ℕ) (s : Sketch) (r : List ℤ) : Type 0 where
  pub whole : Whole n s
  pub line : Line n r
  pub over : pos 0 <ℤ den r

-- so, all within the bound
pub record Near (n : ℕ) (s : Sketch) (r : List ℤ) : Type 0 where
  pub ready : Ready n s r
  pub small : Small (bound 128) s.row
  pub waits : Small (bound 128) s.waiting
  pub near : Small (bound 128) r
