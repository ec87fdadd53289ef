-- Solutions and one column: what a row says of a solution that is 0 at the other columns, and the direction in which a column moves the rows.
use mathlib.Core.Path.{◌≡◌, refl, sym, ap, ap₂, ◌∙◌, subst}
use mathlib.Core.Bool.{Bool, true, false, not, cond}
use mathlib.Core.List.{List, [], ◌∷◌, map, tail}
use mathlib.Core.Option.{Option}
use Prim.Native.Nat.{ℕ, zero, suc, ◌<◌, suc-le-suc}
use native.Mathlib.Nat.{le_of_suc-le-suc, not-suc-le-zero, zero-lt-suc}
use native.Mathlib.Omega.{arith}
use lib.Dec.{T, ltb, ltb→lt, lt→ltb, eqb, eqb→eq, eqb_refl}
use lib.IntN.{ℤ, pos, ◌+ℤ◌, ◌-ℤ◌, ◌*ℤ◌}
use lib.ListN.{length, get_or}
use Rattle.integers.specs.Ring.{ring, quote}
use Rattle.integers.specs.Lin.{eq, lin, lia-eq}
use Rattle.model.specs.Sets.{dot, Kind}
use Rattle.feasibility.specs.Tableau.{Row, Tableau, entry, constant_of, violates, no_row}
use Rattle.model.proofs.Count.{from-T, no-suc, suc_inj}
use Rattle.feasibility.proofs.Rows.{rest}
use Rattle.feasibility.proofs.Exchange.{Holds, Solves, shape_at, solves-at}
use Rattle.feasibility.proofs.Verdicts.{row_var, col_var, true-false, tail-entry}
use Rattle.feasibility.proofs.Points.{Place, in_col, in_row, col-row, product, product-others, others, zero-meets, Vanishes, dot-vanishes, solves-each}
use Rattle.feasibility.proofs.Sound.{row_of, Sound}

-- ---- solutions that are 0 at columns

-- x is 0 at every column but j
abbrev pub VanishesBut : ℕ → (ℕ → ℤ) → List ℕ → Type 0
VanishesBut j x cols = (m : ℕ) → m < length cols → (m ≡ j → ⊥) → x (get_or cols m 0) ≡ pos 0

dot-one : (x : ℕ → ℤ) (cols : List ℕ) (es : List ℤ) (j : ℕ) → j < length cols → VanishesBut j x cols → dot es (map x cols) ≡ get_or es j (pos 0) *ℤ x (get_or cols j 0)
dot-one x [] es j h z = absurd (not-suc-le-zero h)
dot-one x (c ∷ cols) [] j h z = ring (x (get_or (c ∷ cols) j 0) ∷ []) (search quote depth 30) tt
dot-one x (c ∷ cols) (a ∷ es) zero h z =
    ap (λ (v : ℤ). a *ℤ x c +ℤ v) (dot-vanishes x cols es (λ m k. z (suc m) (suc-le-suc k) (λ e. no-suc e))) ∙ ring (a ∷ x c ∷ []) (search quote depth 30) tt
dot-one x (c ∷ cols) (a ∷ es) (suc j) h z =
    ap₂ (λ (u v : ℤ). a *ℤ u +ℤ v) (z 0 (zero-lt-suc (length cols)) (λ e. no-suc (sym e))) (dot-one x cols es j (le_of_suc-le-suc h) (λ m k n. z (suc m) (suc-le-suc k) (λ e. n (suc_inj e))))
    ∙ ring (a ∷ get_or es j (pos 0) ∷ x (get_or cols j 0) ∷ []) (search quote depth 30) tt

module _ (t : Tableau) (g : Sound t) (x : ℕ → ℤ) (D : ℤ) (sol : Solves x D t.cols t.rows) (i : ℕ) (h : i < length t.rows) where
  pub row-eq : (row_of t i).den *ℤ x (row_var t i) ≡ constant_of (row_of t i) *ℤ D +ℤ dot (tail (row_of t i).nums) (map x t.cols)
  row-eq = at (row_of t i).nums refl
    where
      at : (ns : List ℤ) → (row_of t i).nums ≡ ns → (row_of t i).den *ℤ x (row_var t i) ≡ constant_of (row_of t i) *ℤ D +ℤ dot (tail (row_of t i).nums) (map x t.cols)
      at [] q = no-suc (sym (shape_at (length t.cols) t.rows i h g.shaped).long ∙ ap length q)
      at (c ∷ es) q =
          let k : (row_of t i).den *ℤ x (row_var t i) -ℤ (c *ℤ D +ℤ dot es (map x t.cols)) ≡ pos 0 = subst (λ (l : List ℤ). rest (row_of t i).den l (x (row_var t i)) (D ∷ map x t.cols) ≡ pos 0) q (solves-at x D t.cols t.rows i h sol) in
          lia-eq ((row_of t i).den ∷ x (row_var t i) ∷ c ∷ D ∷ dot es (map x t.cols) ∷ []) (eq k ∷ []) {b = c *ℤ D +ℤ dot es (map x t.cols)} (search lin depth 30) (omega arith)
          ∙ ap (λ (l : List ℤ). get_or l 0 (pos 0) *ℤ D +ℤ dot (tail l) (map x t.cols)) (sym q)

  pub row-none : Vanishes x t.cols → (row_of t i).den *ℤ x (row_var t i) ≡ constant_of (row_of t i) *ℤ D
  row-none z =
      row-eq ∙ ap (λ (v : ℤ). constant_of (row_of t i) *ℤ D +ℤ v) (dot-vanishes x t.cols (tail (row_of t i).nums) z)
      ∙ ring (constant_of (row_of t i) ∷ D ∷ []) (search quote depth 30) tt

  pub row_one : (j : ℕ) → j < length t.cols → VanishesBut j x t.cols → (row_of t i).den *ℤ x (row_var t i) ≡ constant_of (row_of t i) *ℤ D +ℤ entry (row_of t i) j *ℤ x (col_var t j)
  row_one j k z =
      row-eq
      ∙ ap (λ (v : ℤ). constant_of (row_of t i) *ℤ D +ℤ v)
      (dot-one x t.cols (tail (row_of t i).nums) j k z ∙ ap (λ (a : ℤ). a *ℤ x (col_var t j)) (tail-entry (row_of t i).nums j))

-- ---- the direction of column j, moved by y: a solution over 0

module _ (t : Tableau) (g : Sound t) (j : ℕ) (jin : j < length t.cols) (y : ℤ) where
  abbrev at_place : ℕ → Place → ℤ
  at_place v (in_col m) = pos 0
  at_place v (in_row i) = cond (eqb (row_var t i) v) (entry (row_of t i) j *ℤ y *ℤ others t.rows i) (pos 0)

  abbrev pub direction : ℕ → ℤ
  direction v = cond (eqb v (col_var t j)) (y *ℤ product t.rows) (at_place v (g.placed.loc v))

  yes : (v : ℕ) → eqb v v ≡ true
  yes v = from-T (eqb v v) (eqb_refl v)

  no_eqb : (v u : ℕ) → (v ≡ u → ⊥) → eqb v u ≡ false
  no_eqb v u n = at (eqb v u) refl
    where
      at : (b : Bool) → eqb v u ≡ b → b ≡ false
      at true e = absurd (n (eqb→eq v u (subst T (sym e) tt)))
      at false e = refl

  direction-col : direction (col_var t j) ≡ y *ℤ product t.rows
  direction-col = ap (λ (b : Bool). cond b (y *ℤ product t.rows) (at_place (col_var t j) (g.placed.loc (col_var t j)))) (yes (col_var t j))

  pub direction-others : VanishesBut j direction t.cols
  direction-others m h n =
      ap (λ (b : Bool). cond b (y *ℤ product t.rows) (at_place (col_var t m) (g.placed.loc (col_var t m)))) (no_eqb (col_var t m) (col_var t j) (λ e. n (inj (sym (g.placed.cols_at m h) ∙ ap g.placed.loc e ∙ g.placed.cols_at j jin))))
      ∙ ap (at_place (col_var t m)) (g.placed.cols_at m h)
    where
      inj : {a b : ℕ} → in_col a ≡ in_col b → a ≡ b
      inj e = cc

  pub direction-row : (i : ℕ) → i < length t.rows → direction (row_var t i) ≡ entry (row_of t i) j *ℤ y *ℤ others t.rows i
  direction-row i h =
      ap (λ (b : Bool). cond b (y *ℤ product t.rows) (at_place (row_var t i) (g.placed.loc (row_var t i)))) (no_eqb (row_var t i) (col_var t j) (λ e. col-row (sym (g.placed.cols_at j jin) ∙ ap g.placed.loc (sym e) ∙ g.placed.rows_at i h)))
      ∙ ap (at_place (row_var t i)) (g.placed.rows_at i h)
      ∙ ap (λ (b : Bool). cond b (entry (row_of t i) j *ℤ y *ℤ others t.rows i) (pos 0)) (yes (row_var t i))

  holds : (i : ℕ) → i < length t.rows → Holds direction (pos 0) t.cols (row_of t i)
  holds i h = at (row_of t i).nums refl
    where
      at : (ns : List ℤ) → (row_of t i).nums ≡ ns → Holds direction (pos 0) t.cols (row_of t i)
      at [] q = no-suc (sym (shape_at (length t.cols) t.rows i h g.shaped).long ∙ ap length q)
      at (c ∷ es) q =
          let a : ℤ = get_or es j (pos 0) in
          let ea : entry (row_of t i) j ≡ a = ap (λ (l : List ℤ). get_or l (suc j) (pos 0)) q in
          ap₂ (λ (u : ℤ) (l : List ℤ). (row_of t i).den *ℤ u -ℤ dot l (pos 0 ∷ map direction t.cols)) (direction-row i h ∙ ap (λ (e : ℤ). e *ℤ y *ℤ others t.rows i) ea) q
          ∙ ap (λ (v : ℤ). (row_of t i).den *ℤ (a *ℤ y *ℤ others t.rows i) -ℤ (c *ℤ pos 0 +ℤ v)) (dot-one direction t.cols es j jin direction-others ∙ ap (λ (v : ℤ). a *ℤ v) (direction-col ∙ ap (λ (p : ℤ). y *ℤ p) (sym (product-others t.rows i h))))
          ∙ ring ((row_of t i).den ∷ a ∷ y ∷ others t.rows i ∷ c ∷ []) (search quote depth 30) tt

  pub direction-solves : Solves direction (pos 0) t.cols t.rows
  direction-solves = solves-each direction (pos 0) t.cols t.rows holds

  -- v meets its condition there, if it does as the column and as a row
  pub direction-meets : (sort : ℕ → Option Kind) (v : ℕ) → (v ≡ col_var t j → T (not (violates (sort v) (y *ℤ product t.rows))))
      → ((i : ℕ) → i < length t.rows → row_var t i ≡ v → T (not (violates (sort v) (entry (row_of t i) j *ℤ y *ℤ others t.rows i)))) → T (not (violates (sort v) (direction v)))
  direction-meets sort v as-col as_row = at (eqb v (col_var t j)) refl
    where
      zero-entry : (y o : ℤ) → pos 0 *ℤ y *ℤ o ≡ pos 0
      zero-entry y o = ring (y ∷ o ∷ []) (search quote depth 30) tt

      outside : (rs : List Row) (i : ℕ) → ((i < length rs) → ⊥) → get_or rs i no_row ≡ no_row
      outside [] i n = refl
      outside (r ∷ rs) zero n = absurd (n (zero-lt-suc (length rs)))
      outside (r ∷ rs) (suc i) n = outside rs i (λ h. n (suc-le-suc h))

      in-row : (i : ℕ) (b : Bool) → eqb (row_var t i) v ≡ b → (c : Bool) → ltb i (length t.rows) ≡ c → T (not (violates (sort v) (cond b (entry (row_of t i) j *ℤ y *ℤ others t.rows i) (pos 0))))
      in-row i false e c q = zero-meets (sort v)
      in-row i true e true q = as_row i (ltb→lt i (length t.rows) (subst T (sym q) tt)) (eqb→eq (row_var t i) v (subst T (sym e) tt))
      in-row i true e false q =
          subst (λ (z : ℤ). T (not (violates (sort v) z)))
          (sym (ap (λ (r : Row). entry r j *ℤ y *ℤ others t.rows i) (outside t.rows i (λ h. true-false (sym (from-T (ltb i (length t.rows)) (lt→ltb i (length t.rows) h)) ∙ q))) ∙ zero-entry y (others t.rows i)))
          (zero-meets (sort v))

      place : (p : Place) → T (not (violates (sort v) (at_place v p)))
      place (in_col m) = zero-meets (sort v)
      place (in_row i) = in-row i (eqb (row_var t i) v) refl (ltb i (length t.rows)) refl

      at : (b : Bool) → eqb v (col_var t j) ≡ b → T (not (violates (sort v) (cond b (y *ℤ product t.rows) (at_place v (g.placed.loc v)))))
      at true e = as-col (eqb→eq v (col_var t j) (subst T (sym e) tt))
      at false e = place (g.placed.loc v)
