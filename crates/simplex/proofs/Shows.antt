-- What a table shows of a tableau, and that its exchange is the tableau's. Assumes nothing.
use mathlib.Core.Path.{◌≡◌, refl, sym, ap, ap₂, ◌∙◌, subst}
use mathlib.Core.Bool.{Bool, true, false}
use mathlib.Core.List.{List, [], ◌∷◌, map}
use mathlib.Core.Logic.{◌⊎◌, inl, inr, ⊎_elim}
use Prim.Native.Nat.{ℕ, ◌+◌, ◌-◌, ◌≤◌, ◌<◌}
use native.Mathlib.Omega.{arith}
use borrow.Author.Tests.{eqb-true, eqb-false}
use lib.Dec.{eqb}
use lib.ListN.{length, get_or, set, length-set, length-map}
use lib.Seq.{get_or-set_same, get_or-set_other}
use lib.IntN.{ℤ, pos}
use Rattle.model.proofs.Lists.{map_get, map-set}
use Rattle.feasibility.specs.Tableau.{Row, Tableau, exchange, solved, replaced, no_row}
use Rattle.tableau.specs.Rows.{den, solve_row, rebuild_row, exchange_rows, exchange_by}
use Rattle.simplex.specs.Table.{column_of, standing, layout, pivot_rows, pivot_place}
use Rattle.feasibility.proofs.Exchange as X
use Rattle.feasibility.proofs.Exchange.{Shape, Shaped, shape_at, exchange-shaped}
use Rattle.feasibility.proofs.Points.{replaced-at}
use Rattle.feasibility.proofs.Verdicts.{row_var, col_var}
use Rattle.simplex.proofs.Columns.{standing-column}
use Rattle.simplex.proofs.Shown.{solve-shows, rebuild-shows}

-- ---- what a table shows

-- variable v of the tableau
pub data Named (t : Tableau) (v : ℕ) : Type 0 where
  in-row : (i : ℕ) → i < length t.rows → row_var t i ≡ v → Named t v
  in-col : (j : ℕ) → j < length t.cols → col_var t j ≡ v → Named t v

pub record Shows (k : ℕ) (rows : List (List ℤ)) (place : List ℕ) (t : Tableau) : Type 0 where
  pub few : k ≤ 8
  pub count : length t.rows ≤ 64
  pub width : length t.cols ≡ 8 + k
  pub shaped : Shaped (length t.cols) t.rows
  pub rows_are : rows ≡ map (layout k) t.rows
  pub rows_at : (i : ℕ) → i < length t.rows → (row_var t i < length place) × (get_or place (row_var t i) 0 ≡ i)
  pub cols_at : (j : ℕ) → j < length t.cols → (col_var t j < length place) × (get_or place (col_var t j) 0 ≡ 64 + column_of k j)
  pub whose : (v : ℕ) → v < length place → Named t v

-- ---- lists

pub map_at : (f : Row → List ℤ) (rs : List Row) (i : ℕ) → i < length rs → get_or (map f rs) i [] ≡ f (get_or rs i no_row)
map_at f rs i h = map_get f rs i no_row [] h

-- ---- the exchange

module _ (k : ℕ) (i j : ℕ) (t : Tableau) (p : X.Pivot i j t) (rows : List (List ℤ)) (place : List ℕ) (s : Shows k rows place t) where
  abbrev pub r : Row
  r = get_or t.rows i no_row

  abbrev pub a : ℕ
  a = row_var t i

  abbrev pub c : ℕ
  c = col_var t j

  pub jin : j < 8 + k
  jin = subst (λ n. j < n) s.width p.col

  shaped-k : Shaped (8 + k) t.rows
  shaped-k = subst (λ n. Shaped n t.rows) s.width s.shaped

  pub r-shape : Shape (8 + k) r
  r-shape = shape_at (8 + k) t.rows i p.row shaped-k

  pub solved-is : solve_row (get_or rows i []) (column_of k j) ≡ layout k (solved r j c)
  solved-is = ap (λ l. solve_row l (column_of k j)) (ap (λ u. get_or u i []) s.rows_are ∙ map_at (layout k) t.rows i p.row) ∙ solve-shows k s.few r j c jin r-shape p.entry

  abbrev pub q : List ℤ
  q = layout k (solved r j c)

  rebuilt-are : (rs : List Row) → Shaped (8 + k) rs → map (rebuild_row (column_of k j) (den q) (set q 0 (pos 0))) (map (layout k) rs) ≡ map (layout k) (map (replaced r j) rs)
  rebuilt-are [] sh = refl
  rebuilt-are (u ∷ rs) sh = ap₂ ◌∷◌ (rebuild-shows k s.few r j c jin r-shape p.entry u sh.0) (rebuilt-are rs sh.1)

  rows_now : exchange_rows rows i (column_of k j) ≡ map (layout k) (exchange i j t).rows
  unfolding exchange_rows exchange
  rows_now =
      ap₂ (λ u l. exchange_by u l i (column_of k j)) solved-is s.rows_are
      ∙ ap (λ l. set l i q) (rebuilt-are t.rows shaped-k)
      ∙ sym (map-set (layout k) (map (replaced r j) t.rows) i (solved r j c))

  pub a-place : get_or place a 0 ≡ i
  a-place = (s.rows_at i p.row).1

  c-place : get_or place c 0 ≡ 64 + column_of k j
  c-place = (s.cols_at j p.col).1

  rows-pivoted : pivot_rows rows place a c ≡ map (layout k) (exchange i j t).rows
  unfolding pivot_rows
  rows-pivoted = ap₂ (λ m n. exchange_rows rows m (n - 64)) a-place c-place ∙ ap (exchange_rows rows i) minus ∙ rows_now
    where
      minus : 64 + column_of k j - 64 ≡ column_of k j
      minus = omega arith

  -- a variable of a row is none of a column
  row-col : (m n : ℕ) → m < length t.rows → n < length t.cols → row_var t m ≡ col_var t n → ⊥
  row-col m n hm hn e =
      let x = (s.rows_at m hm).1 in
      let y = (s.cols_at n hn).1 in
      let z : get_or place (row_var t m) 0 ≡ get_or place (col_var t n) 0 = ap (λ v. get_or place v 0) e in
      let b = s.count in
      omega arith

  row-row : (m n : ℕ) → m < length t.rows → n < length t.rows → row_var t m ≡ row_var t n → m ≡ n
  row-row m n hm hn e = sym (s.rows_at m hm).1 ∙ ap (λ v. get_or place v 0) e ∙ (s.rows_at n hn).1

  col-col : (m n : ℕ) → m < length t.cols → n < length t.cols → col_var t m ≡ col_var t n → m ≡ n
  col-col m n hm hn e =
      let z : 64 + column_of k m ≡ 64 + column_of k n = sym (s.cols_at m hm).1 ∙ ap (λ v. get_or place v 0) e ∙ (s.cols_at n hn).1 in
      let w : column_of k m ≡ column_of k n = omega arith in
      sym (standing-column k m) ∙ ap (standing k) w ∙ standing-column k n

  abbrev place' : List ℕ
  place' = set (set place a (get_or place c 0)) c (get_or place a 0)

  place-long : length place' ≡ length place
  place-long = length-set (set place a (get_or place c 0)) c (get_or place a 0) ∙ length-set place a (get_or place c 0)

  at_c : get_or place' c 0 ≡ i
  at_c = get_or-set_same (set place a (get_or place c 0)) c (get_or place a 0) 0 (subst (λ n. c < n) (sym (length-set place a (get_or place c 0))) (s.cols_at j p.col).0) ∙ a-place

  at_a : get_or place' a 0 ≡ 64 + column_of k j
  at_a =
      get_or-set_other (set place a (get_or place c 0)) c a (get_or place a 0) 0 (row-col i j p.row p.col)
      ∙ get_or-set_same place a (get_or place c 0) 0 (s.rows_at i p.row).0
      ∙ c-place

  at-v : (v : ℕ) → (v ≡ a → ⊥) → (v ≡ c → ⊥) → get_or place' v 0 ≡ get_or place v 0
  at-v v n m = get_or-set_other (set place a (get_or place c 0)) c v (get_or place a 0) 0 m ∙ get_or-set_other place a v (get_or place c 0) 0 n

  abbrev t' : Tableau
  t' = exchange i j t

  pub rows_long : length t'.rows ≡ length t.rows
  unfolding exchange
  rows_long = length-set (map (replaced r j) t.rows) i (solved r j c) ∙ length-map t.rows (replaced r j)

  cols-long : length t'.cols ≡ length t.cols
  unfolding exchange
  cols-long = length-set t.cols j a

  var-i : row_var t' i ≡ c
  unfolding exchange
  var-i = ap (λ (u : Row). u.var) (get_or-set_same (map (replaced r j) t.rows) i (solved r j c) no_row (subst (λ n. i < n) (sym (length-map t.rows (replaced r j))) p.row))

  var-m : (m : ℕ) → m < length t.rows → (m ≡ i → ⊥) → row_var t' m ≡ row_var t m
  unfolding exchange
  var-m m h n = ap (λ (u : Row). u.var) (get_or-set_other (map (replaced r j) t.rows) i m (solved r j c) no_row n) ∙ replaced-at r j t.rows m h

  var-j : col_var t' j ≡ a
  unfolding exchange
  var-j = get_or-set_same t.cols j a 0 p.col

  var-n : (n : ℕ) → (n ≡ j → ⊥) → col_var t' n ≡ col_var t n
  unfolding exchange
  var-n n h = get_or-set_other t.cols j n a 0 h

  equal : (m n : ℕ) → (m ≡ n) ⊎ (m ≡ n → ⊥)
  equal m n = at (eqb m n) refl
    where
      at : (b : Bool) → eqb m n ≡ b → (m ≡ n) ⊎ (m ≡ n → ⊥)
      at true e = inl (eqb-true m n e)
      at false e = inr (eqb-false m n e)

  rows-at' : (m : ℕ) → m < length t.rows → (row_var t' m < length place') × (get_or place' (row_var t' m) 0 ≡ m)
  rows-at' m h = ⊎_elim here there (equal m i)
    where
      here : m ≡ i → (row_var t' m < length place') × (get_or place' (row_var t' m) 0 ≡ m)
      here e =
          subst (λ n. (row_var t' n < length place') × (get_or place' (row_var t' n) 0 ≡ n)) (sym e)
          (subst (λ v. (v < length place') × (get_or place' v 0 ≡ i)) (sym var-i) (subst (λ n. c < n) (sym place-long) (s.cols_at j p.col).0, at_c))

      there : (m ≡ i → ⊥) → (row_var t' m < length place') × (get_or place' (row_var t' m) 0 ≡ m)
      there n =
          subst (λ v. (v < length place') × (get_or place' v 0 ≡ m)) (sym (var-m m h n))
          (subst (λ n. row_var t m < n) (sym place-long) (s.rows_at m h).0, at-v (row_var t m) (λ e. n (row-row m i h p.row e)) (row-col m j h p.col) ∙ (s.rows_at m h).1)

  cols-at' : (n : ℕ) → n < length t.cols → (col_var t' n < length place') × (get_or place' (col_var t' n) 0 ≡ 64 + column_of k n)
  cols-at' n h = ⊎_elim here there (equal n j)
    where
      here : n ≡ j → (col_var t' n < length place') × (get_or place' (col_var t' n) 0 ≡ 64 + column_of k n)
      here e =
          subst (λ n. (col_var t' n < length place') × (get_or place' (col_var t' n) 0 ≡ 64 + column_of k n)) (sym e)
          (subst (λ v. (v < length place') × (get_or place' v 0 ≡ 64 + column_of k j)) (sym var-j) (subst (λ n. a < n) (sym place-long) (s.rows_at i p.row).0, at_a))

      there : (n ≡ j → ⊥) → (col_var t' n < length place') × (get_or place' (col_var t' n) 0 ≡ 64 + column_of k n)
      there m =
          subst (λ v. (v < length place') × (get_or place' v 0 ≡ 64 + column_of k n)) (sym (var-n n m))
          (subst (λ m. col_var t n < m) (sym place-long) (s.cols_at n h).0, at-v (col_var t n) (λ e. row-col i n p.row h (sym e)) (λ e. m (col-col n j h p.col e)) ∙ (s.cols_at n h).1)

  renamed : (v : ℕ) → Named t v → Named t' v
  renamed v (in-row m h e) = ⊎_elim here there (equal m i)
    where
      here : m ≡ i → Named t' v
      here q = in-col j (subst (λ n. j < n) (sym cols-long) p.col) (var-j ∙ ap (row_var t) (sym q) ∙ e)

      there : (m ≡ i → ⊥) → Named t' v
      there n = in-row m (subst (λ n. m < n) (sym rows_long) h) (var-m m h n ∙ e)
  renamed v (in-col n h e) = ⊎_elim here there (equal n j)
    where
      here : n ≡ j → Named t' v
      here q = in-row i (subst (λ n. i < n) (sym rows_long) p.row) (var-i ∙ ap (col_var t) (sym q) ∙ e)

      there : (n ≡ j → ⊥) → Named t' v
      there m = in-col n (subst (λ m. n < m) (sym cols-long) h) (var-n n m ∙ e)

  pub exchange-shows : Shows k (pivot_rows rows place a c) (pivot_place place a c) t'
  unfolding pivot_place
  exchange-shows =
      record {
        few = s.few;
        count = subst (λ n. n ≤ 64) (sym rows_long) s.count;
        width = cols-long ∙ s.width;
        shaped = exchange-shaped i j t p s.shaped;
        rows_are = rows-pivoted;
        rows_at = λ m h. rows-at' m (subst (λ n. m < n) rows_long h);
        cols_at = λ n h. cols-at' n (subst (λ m. n < m) cols-long h);
        whose = λ v h. renamed v (s.whose v (subst (λ n. v < n) place-long h));
      }
