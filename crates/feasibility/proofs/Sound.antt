-- Sound tableaus, which the first one is and each exchange keeps, and which variables an exchange moves.
use mathlib.Core.Path.{◌≡◌, refl, sym, ap, ◌∙◌, subst}
use mathlib.Core.List.{List, [], ◌∷◌, map}
use Prim.Native.Nat.{ℕ, suc, ◌+◌, ◌<◌}
use lib.ListN.{length, get_or, length-set, length-map}
use lib.Seq.{get_or-set_same, get_or-set_other}
use Rattle.model.specs.Sets.{Constraint}
use Rattle.feasibility.specs.Tableau.{Row, Tableau, solved, replaced, exchange, no_row, first_rows, start}
use Rattle.feasibility.proofs.Exchange.{Shaped, Pivot, exchange-shaped}
use Rattle.feasibility.proofs.Verdicts.{row_var, col_var}
use Rattle.feasibility.proofs.Start.{start-shaped}
use Rattle.feasibility.proofs.Points.{Placed, replaced-at, exchange-placed, start-placed}

abbrev pub row_of : Tableau → ℕ → Row
row_of t i = get_or t.rows i no_row

-- ---- what an exchange does to rows, columns and their variables

pub length-cols : (i j : ℕ) (t : Tableau) → length (exchange i j t).cols ≡ length t.cols
unfolding exchange
length-cols i j t = length-set t.cols j (row_var t i)

pub col-other : (i j : ℕ) (t : Tableau) (m : ℕ) → (m ≡ j → ⊥) → col_var (exchange i j t) m ≡ col_var t m
unfolding exchange
col-other i j t m n = get_or-set_other t.cols j m (row_var t i) 0 n

pub col-new : (i j : ℕ) (t : Tableau) → j < length t.cols → col_var (exchange i j t) j ≡ row_var t i
unfolding exchange
col-new i j t h = get_or-set_same t.cols j (row_var t i) 0 h

module _ (i j : ℕ) (t : Tableau) where
  abbrev mapped : List Row
  mapped = map (replaced (row_of t i) j) t.rows

  mapped-length : length mapped ≡ length t.rows
  mapped-length = length-map t.rows (replaced (row_of t i) j)

  pub length-rows : length (exchange i j t).rows ≡ length t.rows
  unfolding exchange
  length-rows = length-set mapped i (solved (row_of t i) j (col_var t j)) ∙ mapped-length

  pub row_new : i < length t.rows → row_var (exchange i j t) i ≡ col_var t j
  unfolding exchange
  row_new h = ap (λ (r : Row). r.var) (get_or-set_same mapped i (solved (row_of t i) j (col_var t j)) no_row (subst (λ (m : ℕ). i < m) (sym mapped-length) h))

  pub row_other : (m : ℕ) → m < length t.rows → (m ≡ i → ⊥) → row_var (exchange i j t) m ≡ row_var t m
  unfolding exchange
  row_other m h n = ap (λ (r : Row). r.var) (get_or-set_other mapped i m (solved (row_of t i) j (col_var t j)) no_row n) ∙ replaced-at (row_of t i) j t.rows m h

-- ---- what every tableau of a test has

-- a number for each column in every row, positive denominators, each variable at one place
pub record Sound (t : Tableau) : Type 0 where
  pub shaped : Shaped (length t.cols) t.rows
  pub placed : Placed t

pub exchange-sound : (i j : ℕ) (t : Tableau) → Pivot i j t → Sound t → Sound (exchange i j t)
exchange-sound i j t p g = record { shaped = exchange-shaped i j t p g.shaped; placed = exchange-placed i j t p g.placed }

pub start-sound : (k : ℕ) (rs : List Constraint) → Sound (start k rs)
start-sound k rs = record { shaped = start-shaped k (8 + k) rs; placed = start-placed k rs }

pub first-length : (k v : ℕ) (rs : List Constraint) → length (first_rows k v rs) ≡ length rs
first-length k v [] = refl
first-length k v (r ∷ rs) = ap suc (first-length k (suc v) rs)
