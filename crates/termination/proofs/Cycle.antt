-- Why a variable of the test does not both leave and come in: r leaves one tableau and enters another with the same solutions. The other's row,
-- at the first's basic solution, has its two sides on different sides of 0, unless a column of it above r is no column of the first.
use mathlib.Core.Path.{◌≡◌, refl, sym, ap, ◌∙◌, subst}
use mathlib.Core.Bool.{Bool, true, false, not}
use mathlib.Core.Logic.{⊎_elim}
use mathlib.Core.List.{List, [], ◌∷◌, map, tail}
use mathlib.Core.Option.{Option, none, some}
use Prim.Native.Nat.{ℕ, suc, ◌≤◌, ◌<◌, suc-le-suc}
use native.Mathlib.Nat.{zero-lt-suc}
use native.Mathlib.Omega.{arith}
use lib.Dec.{T, not_T}
use lib.IntN.{ℤ, pos, ◌*ℤ◌}
use lib.Signed.{◌≤ℤ◌, ◌<ℤ◌}
use lib.ListN.{length, get_or}
use Rattle.integers.specs.Part.{lt-or-le}
use Rattle.integers.specs.Lin.{le, eq, lin, lia-le, lia-eq}
use Rattle.integers.specs.Order.{mul-nonneg, mul-nonpos-nonpos, <ℤ-≤ℤ}
use Rattle.model.specs.Sets.{dot, Kind, equality, inequality}
use Rattle.feasibility.specs.Tableau.{Row, Tableau, entry, constant_of, violates, helps}
use Rattle.feasibility.proofs.Exchange.{Solves, shape_at}
use Rattle.feasibility.proofs.Verdicts.{Turn, row_var, col_var, tail-entry, away, stuck-row}
use Rattle.feasibility.proofs.Points.{Placed, in_col, w-meets, w-col, w-row, others, others-pos}
use Rattle.feasibility.proofs.Sound.{row_of, Sound}
use Rattle.optimum.proofs.Direction.{row-eq}
use Rattle.optimum.proofs.Moves.{below}
use Rattle.optimum.proofs.Feasible.{basic, over, over-pos}
use Rattle.termination.specs.Unlimited.{in_cols}
use Rattle.termination.proofs.Columns.{col-yes, col-at}

-- ---- a sum of which no part is on the wrong side

dot-away : (z : ℤ) (w : ℕ → ℤ) (cols : List ℕ) (es : List ℤ) → ((k : ℕ) → k < length cols → pos 0 ≤ℤ (z *ℤ (get_or es k (pos 0) *ℤ w (get_or cols k 0)))) → pos 0 ≤ℤ (z *ℤ dot es (map w cols))
dot-away z w [] [] f = lia-le (z ∷ []) [] (search lin depth 30) (omega arith)
dot-away z w [] (a ∷ es) f = lia-le (z ∷ []) [] (search lin depth 30) (omega arith)
dot-away z w (c ∷ cols) [] f = lia-le (z ∷ []) [] (search lin depth 30) (omega arith)
dot-away z w (c ∷ cols) (a ∷ es) f =
    lia-le (z ∷ a ∷ w c ∷ dot es (map w cols) ∷ []) (le (f 0 (zero-lt-suc (length cols))) ∷ le (dot-away z w cols es (λ k h. f (suc k) (suc-le-suc h))) ∷ []) (search lin depth 30) (omega arith)

-- a column that helps, at a value on its wrong side
pub opposite : (s : Option Kind) (z a c k : ℤ) → T (helps s z a) → T (violates s c) → pos 0 <ℤ k → pos 0 ≤ℤ (z *ℤ (a *ℤ (c *ℤ k)))
opposite none z a c k h v p = absurd v
opposite (some equality) z a c k h v p = absurd h
opposite (some inequality) z a c k h v p =
    lia-le (z ∷ a ∷ c ∷ k ∷ []) (le (mul-nonneg (mul-nonpos-nonpos (<ℤ-≤ℤ (below (z *ℤ a) h)) (<ℤ-≤ℤ (below c v))) (<ℤ-≤ℤ p)) ∷ []) (search lin depth 30) (omega arith)

-- column j, of number r, is the lowest-numbered of u that brings row i towards 0 from the side of z; what x is at the columns below r, at r and above
module _
    (sort : ℕ → Option Kind) (u : Tableau) (pl : Placed u) (i : ℕ) (z : ℤ) (j : ℕ) (jin : j < length u.cols)
    (first : (m : ℕ) → m < length u.cols → T (helps (sort (col_var u m)) z (entry (row_of u i) m)) → col_var u j ≤ col_var u m) (x : ℕ → ℤ)
    (lower : (m : ℕ) → m < length u.cols → col_var u m < col_var u j → T (not (violates (sort (col_var u m)) (x (col_var u m)))))
    (here : pos 0 ≤ℤ (z *ℤ (entry (row_of u i) j *ℤ x (col_var u j)))) (upper : (v : ℕ) → col_var u j < v → in_cols u v ≡ true → x v ≡ pos 0)
  where
    one : (m : ℕ) → m < length u.cols → pos 0 ≤ℤ (z *ℤ (entry (row_of u i) m *ℤ x (col_var u m)))
    one m h = ⊎_elim low (λ g. ⊎_elim high (λ l. at_j (omega arith)) (lt-or-le (col_var u j) (col_var u m))) (lt-or-le (col_var u m) (col_var u j))
      where
        no : col_var u m < col_var u j → (b : Bool) → helps (sort (col_var u m)) z (entry (row_of u i) m) ≡ b → b ≡ false
        no l false q = refl
        no l true q = absurd (clash (first m h (subst T (sym q) tt)))
          where
            clash : col_var u j ≤ col_var u m → ⊥
            clash g = omega arith

        low : col_var u m < col_var u j → pos 0 ≤ℤ (z *ℤ (entry (row_of u i) m *ℤ x (col_var u m)))
        low l = away (sort (col_var u m)) z (entry (row_of u i) m) (x (col_var u m)) (no l (helps (sort (col_var u m)) z (entry (row_of u i) m)) refl) (lower m h l)

        high : col_var u j < col_var u m → pos 0 ≤ℤ (z *ℤ (entry (row_of u i) m *ℤ x (col_var u m)))
        high l =
            subst (λ (v : ℤ). pos 0 ≤ℤ (z *ℤ (entry (row_of u i) m *ℤ v))) (sym (upper (col_var u m) l (col-yes u m h)))
            (lia-le (z ∷ entry (row_of u i) m ∷ []) [] (search lin depth 30) (omega arith))

        at_j : col_var u m ≡ col_var u j → pos 0 ≤ℤ (z *ℤ (entry (row_of u i) m *ℤ x (col_var u m)))
        at_j e = subst (λ (n : ℕ). pos 0 ≤ℤ (z *ℤ (entry (row_of u i) n *ℤ x (col_var u n)))) (sym (inj (sym (pl.cols_at m h) ∙ ap pl.loc e ∙ pl.cols_at j jin))) here
          where
            inj : {a b : ℕ} → in_col a ≡ in_col b → a ≡ b
            inj q = cc

    pub sum_away : pos 0 ≤ℤ (z *ℤ dot (tail (row_of u i).nums) (map x u.cols))
    sum_away =
        dot-away z x u.cols (tail (row_of u i).nums)
        (λ m h. subst (λ (a : ℤ). pos 0 ≤ℤ (z *ℤ (a *ℤ x (col_var u m)))) (sym (tail-entry (row_of u i).nums m)) (one m h))

-- ---- r leaves t, and enters u

module _ (sort : ℕ → Option Kind) (t : Tableau) (g : Sound t) (i j : ℕ) (turn : Turn sort i j t) where
  abbrev r : ℕ
  r = row_var t i

  abbrev x : ℕ → ℤ
  x = basic t g

  -- below r every variable meets its condition, with t's columns at 0
  lower-meets : (v : ℕ) → v < r → T (not (violates (sort v) (x v)))
  lower-meets v h = w-meets t g.shaped g.placed sort v (λ k q. not_T (violates (sort v) (constant_of (row_of t k))) (λ b. clash k q (turn.rows_first k (subst (λ (u : ℕ). T (violates (sort u) (constant_of (row_of t k)))) (sym q) b))))
    where
      clash : (k : ℕ) → row_var t k ≡ v → row_var t i ≤ row_var t k → ⊥
      clash k q l = omega arith

  module _
      (u : Tableau) (g' : Sound u) (i' j' : ℕ) (turn' : Turn sort i' j' u) (enters : col_var u j' ≡ r)
      (solved : Solves x (over t) u.cols u.rows) (lower : row_var u i' < r) (beyond : (v : ℕ) → r < v → in_cols u v ≡ in_cols t v)
    where
      abbrev row' : Row
      row' = row_of u i'

      at-r : pos 0 ≤ℤ (constant_of row' *ℤ (entry row' j' *ℤ x (col_var u j')))
      at-r =
          subst (λ (v : ℤ). pos 0 ≤ℤ (constant_of row' *ℤ (entry row' j' *ℤ v))) (sym (ap x enters ∙ w-row t g.shaped g.placed i turn.pivots.row))
          (opposite (sort r) (constant_of row') (entry row' j') (constant_of (row_of t i)) (others t.rows i)
          (subst (λ (v : ℕ). T (helps (sort v) (constant_of row') (entry row' j'))) enters turn'.helpful) turn.violated (others-pos (length t.cols) t.rows g.shaped i))

      above-r : (v : ℕ) → col_var u j' < v → in_cols u v ≡ true → x v ≡ pos 0
      above-r v h e =
          let p = col-at t v (sym (beyond v (subst (λ (n : ℕ). n < v) enters h)) ∙ e) in
          ap x (sym p.is) ∙ w-col t g.shaped g.placed p.place p.inside

      pub never : ⊥
      never =
          let d : ℤ = dot (tail row'.nums) (map x u.cols) in
          stuck-row (sort (row_var u i')) row'.den (x (row_var u i')) (constant_of row') (over t) d
          (shape_at (length u.cols) u.rows i' turn'.pivots.row g'.shaped).positive (over-pos t g) turn'.violated (lower-meets (row_var u i') lower)
          (sum_away sort u g'.placed i' (constant_of row') j' turn'.pivots.col turn'.cols_first x (λ m h l. lower-meets (col_var u m) (subst (λ (n : ℕ). col_var u m < n) enters l)) at-r above-r)
          (lia-eq (row'.den ∷ x (row_var u i') ∷ constant_of row' ∷ over t ∷ d ∷ []) (eq (row-eq u g' x (over t) solved i' turn'.pivots.row) ∷ []) {b = pos 0} (search lin depth 30) (omega arith))
