-- The searches of a table and what they choose are those of the tableau that it shows. Assumes nothing.
use mathlib.Core.Path.{◌≡◌, refl, sym, ap, ap₂, ◌∙◌, subst}
use mathlib.Core.Bool.{Bool, true, false, not, ◌&&◌, ◌||◌, cond}
use mathlib.Core.List.{List, [], ◌∷◌, map, tail}
use mathlib.Core.Option.{Option, none, some}
use mathlib.Core.Logic.{⊎_elim}
use Prim.Native.Nat.{ℕ, zero, suc, ◌+◌, ◌-◌, ◌≤◌, ◌<◌, zero-le, suc-le-suc}
use native.Mathlib.Nat.{not-suc-le-zero, zero-add, le_refl}
use native.Mathlib.Omega.{arith}
use borrow.Author.Tests.{lt-ltb, le-ltb, eqb-true, eqb-false}
use lib.Dec.{T, ltb, leb, eqb, ltb→lt, lt→ltb}
use lib.ListN.{length, get_or}
use lib.IntN.{ℤ, pos, negsuc, nat_abs, ◌*ℤ◌, *ℤ-zero, *ℤ_comm}
use lib.Signed.{non_neg, lt_z, ◌<ℤ◌}
use Rattle.integers.specs.Order.{mul-neg-pos}
use Rattle.integers.specs.Part.{lt-or-le}
use Rattle.model.specs.Sets.{Kind, equality, inequality, is_zero}
use Rattle.model.specs.Lists.{all}
use Rattle.model.proofs.Count.{from-T, to-T}
use Rattle.feasibility.specs.Tableau as T
use Rattle.feasibility.specs.Tableau.{Row, Tableau, constant_of, violates, helps, lowest, violated_rows, helpful_cols, look, row, column, none_violated, none_helps, pivot, no_row}
use Rattle.simplex.specs.declared.Verdict.TheVariants.{Point, Dropped, Long, Wide}
use Rattle.simplex.specs.declared.Move.TheVariants.{Stop, Pivot}
use Rattle.tableau.specs.Rows.{narrow_rows_at, first, violated_by, violated_at, violated, helps_by, helps_at, helping}
use Rattle.simplex.specs.Table.{column_of, number_at, layout, kind_number, move_at}
use Rattle.feasibility.proofs.Exchange as X
use Rattle.feasibility.proofs.Exchange.{Shaped}
use Rattle.feasibility.proofs.Points.{calm-at}
use Rattle.feasibility.proofs.Verdicts.{row_var, col_var, Violated, lowest-some, lowest-none, lowest-least, found-row, listed-row, found-col, listed-col, helps-nonzero, zero-calm, tail-entry}
use Rattle.simplex.proofs.Columns.{lay_at, lay-entry}
use Rattle.simplex.proofs.Shown.{narrow-shows}
use Rattle.simplex.proofs.Moves.{choose-point_at, choose-dropped_at, choose-long_at, choose-last_at}
use Rattle.simplex.proofs.Shows.{Named, in-row, in-col, Shows, map_at}

-- ---- the searches

not_equal : (s v : ℕ) → s ≤ v → (s ≡ v → ⊥) → s < v
not_equal s v h z = ⊎_elim (λ x. x) (λ x. absurd (z (omega arith))) (lt-or-le s v)

pub first-from : (p : ℕ → Bool) (n s v : ℕ) → s ≤ v → v < s + n → p v ≡ true → ((u : ℕ) → s ≤ u → u < v → p u ≡ false) → first p n s ≡ v
unfolding first
first-from p zero s v h l e f = absurd (omega arith)
first-from p (suc n) s v h l e f = at (eqb s v) refl (λ b. first-from p n (suc s) v b (omega arith) e (λ u x y. f u (omega arith) y))
  where
    at : (b : Bool) → eqb s v ≡ b → (s < v → first p n (suc s) ≡ v) → cond (p s) s (first p n (suc s)) ≡ v
    at true q g = let z = eqb-true s v q in ap (λ b. cond b s (first p n (suc s))) (ap p z ∙ e) ∙ z
    at false q g =
        let z = not_equal s v h (eqb-false s v q) in ap (λ b. cond b s (first p n (suc s))) (f s (le_refl s) z) ∙ g z

pub first-none : (p : ℕ → Bool) (n s : ℕ) → ((u : ℕ) → s ≤ u → u < s + n → p u ≡ false) → first p n s ≡ s + n
unfolding first
first-none p zero s f = omega arith
first-none p (suc n) s f =
    ap (λ b. cond b s (first p n (suc s))) (f s (le_refl s) (omega arith)) ∙ first-none p n (suc s) (λ u a b. f u (omega arith) (omega arith)) ∙ shift
  where
    shift : suc s + n ≡ s + suc n
    shift = omega arith

-- ---- a value that its condition does not allow, an entry that helps

pub violated-same : (s : Option Kind) (z : ℤ) → violated_by (kind_number s) z ≡ violates s z
violated-same none z = refl
violated-same (some equality) z = refl
violated-same (some inequality) (pos n) = le-ltb n 0 zero-le
violated-same (some inequality) (negsuc n) = refl

below-zero : (z : ℤ) → z <ℤ pos 0 → not (non_neg z) ≡ true
below-zero (pos n) h = absurd (not-suc-le-zero (ltb→lt n 0 h.lt))
below-zero (negsuc n) h = refl

neg-lt : (n : ℕ) → negsuc n <ℤ pos 0
neg-lt n = record { lt = tt }

pos-lt : (n : ℕ) → pos 0 <ℤ pos (suc n)
pos-lt n = record { lt = lt→ltb 0 (suc n) (suc-le-suc zero-le) }

helps-same : (s : Option Kind) (z e : ℤ) → (z ≡ pos 0 → ⊥) → helps_by (kind_number s) z e ≡ helps s z e
helps-same none z e n = refl
helps-same (some equality) z e n = refl
helps-same (some inequality) (pos zero) e n = absurd (n refl)
helps-same (some inequality) (pos (suc m)) (pos k) n = ap (λ b. cond b (lt_z (pos 0) (pos k)) (lt_z (pos k) (pos 0))) (le-ltb (suc m) 0 zero-le) ∙ le-ltb k 0 zero-le
helps-same (some inequality) (pos (suc m)) (negsuc k) n =
    ap (λ b. cond b (lt_z (pos 0) (negsuc k)) (lt_z (negsuc k) (pos 0))) (le-ltb (suc m) 0 zero-le)
    ∙ sym (below-zero (pos (suc m) *ℤ negsuc k) (subst (λ x. x <ℤ pos 0) (*ℤ_comm (negsuc k) (pos (suc m))) (mul-neg-pos (neg-lt k) (pos-lt m))))
helps-same (some inequality) (negsuc m) (pos zero) n = sym (ap (λ x. not (non_neg x)) (*ℤ-zero (negsuc m)))
helps-same (some inequality) (negsuc m) (pos (suc k)) n = lt-ltb 0 (suc k) (suc-le-suc zero-le) ∙ sym (below-zero (negsuc m *ℤ pos (suc k)) (mul-neg-pos (neg-lt m) (pos-lt k)))
helps-same (some inequality) (negsuc m) (negsuc k) n = refl

-- ---- what to do next

module _ (k : ℕ) (sort : ℕ → Option Kind) (t : Tableau) (rows : List (List ℤ)) (place kinds : List ℕ) (s : Shows k rows place t)
    (kinds_are : (v : ℕ) → v < length place → get_or kinds v 0 ≡ kind_number (sort v)) where
  abbrev row_of : ℕ → Row
  row_of i = get_or t.rows i no_row

  pub constant-at : (i : ℕ) → i < length t.rows → get_or (get_or rows i []) 1 (pos 0) ≡ constant_of (row_of i)
  unfolding number_at
  constant-at i h =
      ap (λ l. get_or l 1 (pos 0)) (ap (λ u. get_or u i []) s.rows_are ∙ map_at (layout k) t.rows i h)
      ∙ lay_at k s.few (row_of i).den (row_of i).nums 1 (omega arith)

  row-violated : (i : ℕ) → i < length t.rows → violated_at rows place kinds (row_var t i) ≡ violates (sort (row_var t i)) (constant_of (row_of i))
  unfolding violated_at
  row-violated i h =
      let v = row_var t i in
      let x = s.rows_at i h in
      let b = s.count in
      ap (λ n. cond (ltb n 64) (violated_by (get_or kinds v 0) (get_or (get_or rows n []) 1 (pos 0))) false) x.1
      ∙ ap (λ b. cond b (violated_by (get_or kinds v 0) (get_or (get_or rows i []) 1 (pos 0))) false) (lt-ltb i 64 (omega arith))
      ∙ ap₂ violated_by (kinds_are v x.0) (constant-at i h)
      ∙ violated-same (sort v) (constant_of (row_of i))

  col-calm : (j : ℕ) → j < length t.cols → violated_at rows place kinds (col_var t j) ≡ false
  unfolding violated_at
  col-calm j h =
      let v = col_var t j in
      let x = s.cols_at j h in
      ap (λ n. cond (ltb n 64) (violated_by (get_or kinds v 0) (get_or (get_or rows n []) 1 (pos 0))) false) x.1
      ∙ ap (λ b. cond b (violated_by (get_or kinds v 0) (get_or (get_or rows (64 + column_of k j) []) 1 (pos 0))) false) (le-ltb (64 + column_of k j) 64 (omega arith))

  none-violated : lowest 0 (violated_rows sort t.rows) ≡ none → violated rows place kinds ≡ length place
  unfolding violated
  none-violated e = first-none (violated_at rows place kinds) (length place) 0 (λ u a b. calm u (s.whose u (omega arith))) ∙ zero-add (length place)
    where
      calm : (u : ℕ) → Named t u → violated_at rows place kinds u ≡ false
      calm u (in-row i h q) = ap (violated_at rows place kinds) (sym q) ∙ row-violated i h ∙ falsely (violates (sort (row_var t i)) (constant_of (get_or t.rows i no_row))) (calm-at sort t.rows 0 e i)
        where
          falsely : (b : Bool) → T (not b) → b ≡ false
          falsely true x = absurd x
          falsely false x = refl
      calm u (in-col j h q) = ap (violated_at rows place kinds) (sym q) ∙ col-calm j h

  -- row i is violated, and no row of a lower number is
  violated-is : (i : ℕ) → i < length t.rows → Violated sort t.rows i → ((m : ℕ) → Violated sort t.rows m → row_var t i ≤ row_var t m) → violated rows place kinds ≡ row_var t i
  unfolding violated
  violated-is i h x f =
      first-from (violated_at rows place kinds) (length place) 0 (row_var t i) zero-le (subst (λ n. row_var t i < n) (sym (zero-add (length place))) (s.rows_at i h).0)
      (row-violated i h ∙ from-T _ x)
      (λ u a b. at u b (violated_at rows place kinds u) refl (s.whose u (before u b)))
    where
      before : (u : ℕ) → u < row_var t i → u < length place
      before u b = let z = (s.rows_at i h).0 in omega arith

      at : (u : ℕ) → u < row_var t i → (c : Bool) → violated_at rows place kinds u ≡ c → Named t u → c ≡ false
      at u b false e w = refl
      at u b true e (in-row m l q) =
          absurd (let z = f m (to-T _ (sym (row-violated m l) ∙ ap (violated_at rows place kinds) q ∙ e)) in omega arith)
      at u b true e (in-col j l q) = sym e ∙ ap (violated_at rows place kinds) (sym q) ∙ col-calm j l

  -- ---- the columns that help a row of constant z, whose numbers are `line`

  pub entry_at : (i : ℕ) → i < length t.rows → (j : ℕ) → j < length t.cols → get_or (get_or rows i []) (column_of k j + 2) (pos 0) ≡ T.entry (row_of i) j
  entry_at i h j b =
      ap (λ l. get_or l (column_of k j + 2) (pos 0)) (ap (λ u. get_or u i []) s.rows_are ∙ map_at (layout k) t.rows i h)
      ∙ lay-entry k s.few (row_of i).den (row_of i).nums j (subst (λ n. j < n) s.width b)

  module _ (line : List ℤ) (z : ℤ) (r : Row) (z-not : z ≡ pos 0 → ⊥) (constant-is : get_or line 1 (pos 0) ≡ z)
      (entry-is : (j : ℕ) → j < length t.cols → get_or line (column_of k j + 2) (pos 0) ≡ T.entry r j) where
    abbrev Helps : ℕ → Type 0
    Helps j = T (helps (sort (col_var t j)) z (T.entry r j))

    col-helps : (j : ℕ) → j < length t.cols → helps_at line place kinds (col_var t j) ≡ helps (sort (col_var t j)) z (T.entry r j)
    unfolding helps_at
    col-helps j b =
        let v = col_var t j in
        let y = s.cols_at j b in
        ap (λ n. cond (ltb n 64) false (helps_by (get_or kinds v 0) (get_or line 1 (pos 0)) (get_or line (n - 64 + 2) (pos 0)))) y.1
        ∙ ap (λ c. cond c false (helps_by (get_or kinds v 0) (get_or line 1 (pos 0)) (get_or line (64 + column_of k j - 64 + 2) (pos 0)))) (le-ltb (64 + column_of k j) 64 (omega arith))
        ∙ ap (λ n. helps_by (get_or kinds v 0) (get_or line 1 (pos 0)) (get_or line (n + 2) (pos 0))) minus
        ∙ ap₂ (λ n c. helps_by n c (get_or line (column_of k j + 2) (pos 0))) (kinds_are v y.0) constant-is
        ∙ ap (helps_by (kind_number (sort v)) z) (entry-is j b)
        ∙ helps-same (sort v) z (T.entry r j) z-not
      where
        minus : 64 + column_of k j - 64 ≡ column_of k j
        minus = omega arith

    row-helps : (m : ℕ) → m < length t.rows → helps_at line place kinds (row_var t m) ≡ false
    unfolding helps_at
    row-helps m b =
        let y = s.rows_at m b in
        let w = s.count in
        ap (λ n. cond (ltb n 64) false (helps_by (get_or kinds (row_var t m) 0) (get_or line 1 (pos 0)) (get_or line (n - 64 + 2) (pos 0)))) y.1
        ∙ ap (λ c. cond c false (helps_by (get_or kinds (row_var t m) 0) (get_or line 1 (pos 0)) (get_or line (m - 64 + 2) (pos 0)))) (lt-ltb m 64 (omega arith))

    none-helping : ((j : ℕ) → j < length t.cols → Helps j → ⊥) → helping line place kinds ≡ length place
    unfolding helping
    none-helping f = first-none (helps_at line place kinds) (length place) 0 (λ u a b. calm u (s.whose u (omega arith))) ∙ zero-add (length place)
      where
        calm : (u : ℕ) → Named t u → helps_at line place kinds u ≡ false
        calm u (in-row m l q) = ap (helps_at line place kinds) (sym q) ∙ row-helps m l
        calm u (in-col j l q) = ap (helps_at line place kinds) (sym q) ∙ col-helps j l ∙ falsely (helps (sort (col_var t j)) z (T.entry r j)) (f j l)
          where
            falsely : (b : Bool) → (T b → ⊥) → b ≡ false
            falsely true x = absurd (x tt)
            falsely false x = refl

    helping-is : (j : ℕ) → j < length t.cols → Helps j → ((m : ℕ) → m < length t.cols → Helps m → col_var t j ≤ col_var t m) → helping line place kinds ≡ col_var t j
    unfolding helping
    helping-is j l y f =
        first-from (helps_at line place kinds) (length place) 0 (col_var t j) zero-le (subst (λ n. col_var t j < n) (sym (zero-add (length place))) (s.cols_at j l).0)
        (col-helps j l ∙ from-T _ y)
        (λ u a b. at u b (helps_at line place kinds u) refl (s.whose u (before u b)))
      where
        before : (u : ℕ) → u < col_var t j → u < length place
        before u b = let z = (s.cols_at j l).0 in omega arith

        at : (u : ℕ) → u < col_var t j → (c : Bool) → helps_at line place kinds u ≡ c → Named t u → c ≡ false
        at u b false e w = refl
        at u b true e (in-row m l q) = sym e ∙ ap (helps_at line place kinds) (sym q) ∙ row-helps m l
        at u b true e (in-col m l q) =
            absurd (let z = f m l (to-T _ (sym (col-helps m l) ∙ ap (helps_at line place kinds) q ∙ e)) in omega arith)

    -- what the search finds, where the tableau's finds this
    pub data Helped : Option (ℕ × ℕ) → Type 0 where
      no-column : helping line place kinds ≡ length place → Helped none
      at-column : (g : ℕ × ℕ) → g.1 < length t.cols → Helps g.1 → helping line place kinds ≡ col_var t g.1 → Helped (some g)

    pub helped : (o : Option (ℕ × ℕ)) → lowest 0 (helpful_cols sort z t.cols (tail r.nums)) ≡ o → Helped o
    helped none e =
        no-column (none-helping (λ j b y. lowest-none 0 (helpful_cols sort z t.cols (tail r.nums)) e j (col_var t j)
        (listed-col sort z t.cols (tail r.nums) j b (subst (λ a. T (helps (sort (col_var t j)) z a)) (sym (tail-entry r.nums j)) y))))
    helped (some g) e =
        let es : List ℤ = tail r.nums in
        let l = lowest-some 0 (helpful_cols sort z t.cols es) g e in
        let c = found-col sort z t.cols es l.m g.0 l.found in
        let p : g.1 ≡ l.m = l.place ∙ zero-add l.m in
        let help : Helps l.m = subst (λ (x : ℤ). T (helps (sort (col_var t l.m)) z x)) (tail-entry r.nums l.m) c.1 in
        at-column g (subst (λ j. j < length t.cols) (sym p) c.0) (subst Helps (sym p) help)
        (helping-is l.m c.0 help
        (λ m b y. subst (λ (n : ℕ). n ≤ col_var t m) (sym c.2)
        (lowest-least 0 (helpful_cols sort z t.cols es) g e m (col_var t m)
        (listed-col sort z t.cols es m b (subst (λ (x : ℤ). T (helps (sort (col_var t m)) z x)) (sym (tail-entry r.nums m)) y))))
        ∙ ap (col_var t) (sym p))

  -- ---- the number test

  module _ (bnd : ℕ) where
    narrow-rows : (j : ℕ) → j < 8 + k → (rs : List Row) → Shaped (8 + k) rs → narrow_rows_at bnd (column_of k j) (map (layout k) rs) ≡ all (λ (r : Row). is_zero (T.entry r j) || all (λ (z : ℤ). leb (nat_abs z) bnd) (r.den ∷ r.nums)) rs
    unfolding narrow_rows_at
    narrow-rows j b [] sh = refl
    narrow-rows j b (r ∷ rs) sh =
        ap₂ (λ x y. cond x y false) (narrow-shows k s.few bnd r j b sh.0) (narrow-rows j b rs sh.1)
        ∙ and_is (is_zero (T.entry r j) || all (λ (z : ℤ). leb (nat_abs z) bnd) (r.den ∷ r.nums)) _
      where
        and_is : (a b : Bool) → cond a b false ≡ (a && b)
        and_is true b = refl
        and_is false b = refl

    pub narrow-is : (j : ℕ) → j < length t.cols → narrow_rows_at bnd (get_or place (col_var t j) 0 - 64) rows ≡ T.narrow bnd j t
    narrow-is j b =
        let jin : j < 8 + k = subst (λ n. j < n) s.width b in
        ap₂ (λ n u. narrow_rows_at bnd (n - 64) u) (s.cols_at j b).1 s.rows_are
        ∙ ap (λ n. narrow_rows_at bnd n (map (layout k) t.rows)) minus
        ∙ narrow-rows j jin t.rows (subst (λ n. Shaped n t.rows) s.width s.shaped)
      where
        minus : 64 + column_of k j - 64 ≡ column_of k j
        minus = omega arith

    -- ---- what look finds, and what the code chooses with n pivots left

    pub data Chosen (n : ℕ) : T.Look → Type 0 where
      calm : move_at bnd rows place kinds n ≡ Stop Point → Chosen n none_violated
      stuck : move_at bnd rows place kinds n ≡ Stop Dropped → Chosen n none_helps
      spent : (i j : ℕ) → n ≡ 0 → move_at bnd rows place kinds n ≡ Stop Long → Chosen n (pivot i j)
      turns : (i j : ℕ) → X.Pivot i j t → (n ≡ 0 → ⊥) → cond (T.narrow bnd j t) (Pivot (row_var t i) (col_var t j)) (Stop Wide) ≡ move_at bnd rows place kinds n → Chosen n (pivot i j)

    -- the column that row i, which is violated, is helped by
    module _ (n i : ℕ) (h : i < length t.rows) (x : Violated sort t.rows i) (f : (m : ℕ) → Violated sort t.rows m → row_var t i ≤ row_var t m) where
      abbrev line : List ℤ
      line = get_or rows i []

      abbrev z : ℤ
      z = constant_of (row_of i)

      z-not : z ≡ pos 0 → ⊥
      z-not e = zero-calm (sort (row_var t i)) (subst (λ y. T (violates (sort (row_var t i)) y)) e x)

      here : (w : ℕ) → helping line place kinds ≡ w → w ≡ helping (get_or rows (get_or place (row_var t i) 0) []) place kinds
      here w e = sym (ap (λ m. helping (get_or rows m []) place kinds) (s.rows_at i h).1 ∙ e)

      chosen-column : (o : Option (ℕ × ℕ)) → Helped line z (row_of i) z-not (constant-at i h) (entry_at i h) o → Chosen n (column i o)
      chosen-column _ (no-column e) =
          stuck (sym (choose-dropped_at bnd rows place kinds n (row_var t i) (sym (violated-is i h x f)) (s.rows_at i h).0 (length place) (here (length place) e) (le_refl (length place))))
      chosen-column _ (at-column g b y e) = on n
        where
          j : ℕ
          j = g.1

          on : (n : ℕ) → Chosen n (pivot i j)
          on zero =
              spent i j refl
              (sym (choose-long_at bnd rows place kinds 0 (row_var t i) (sym (violated-is i h x f)) (s.rows_at i h).0 (col_var t j) (here (col_var t j) e) (s.cols_at j b).0 refl))
          on (suc n) =
              turns i j (record { row = h; col = b; entry = helps-nonzero (sort (col_var t j)) z (T.entry (row_of i) j) y }) (λ e. omega arith)
              (choose-last_at bnd rows place kinds (suc n) (row_var t i) (sym (violated-is i h x f)) (s.rows_at i h).0 (col_var t j) (here (col_var t j) e) (T.narrow bnd j t) (s.cols_at j b).0 (λ e. omega arith) (narrow-is j b))

    chosen-row : (n : ℕ) (o : Option (ℕ × ℕ)) → lowest 0 (violated_rows sort t.rows) ≡ o → Chosen n (row sort t o)
    chosen-row n none e = calm (sym (choose-point_at bnd rows place kinds n (length place) (sym (none-violated e)) (le_refl (length place))))
    chosen-row n (some g) e =
        let l = lowest-some 0 (violated_rows sort t.rows) g e in
        let c = found-row sort t.rows l.m g.0 l.found in
        let p : g.1 ≡ l.m = l.place ∙ zero-add l.m in
        let h : g.1 < length t.rows = subst (λ (k : ℕ). k < length t.rows) (sym p) c.0 in
        let x : Violated sort t.rows g.1 = subst (λ (k : ℕ). Violated sort t.rows k) (sym p) c.1 in
        let o : Option (ℕ × ℕ) = lowest 0 (helpful_cols sort (constant_of (row_of g.1)) t.cols (tail (row_of g.1).nums)) in
        chosen-column n g.1 h x
        (λ k u. subst (λ (n : ℕ). n ≤ row_var t k) (sym (ap (row_var t) p ∙ c.2)) (lowest-least 0 (violated_rows sort t.rows) g e k (row_var t k) (listed-row sort t.rows k u)))
        o (helped (get_or rows g.1 []) (constant_of (row_of g.1)) (row_of g.1) (z-not n g.1 h x _) (constant-at g.1 h) (entry_at g.1 h) o refl)

    pub chosen : (n : ℕ) → Chosen n (look sort t)
    unfolding look
    chosen n = chosen-row n (lowest 0 (violated_rows sort t.rows)) refl
