-- Over a table that shows a tableau the code's row of a rule is planning's, laid out. Assumes nothing.
use mathlib.Core.Path.{◌≡◌, refl, sym, ap, ap₂, ◌∙◌, subst}
use mathlib.Core.Bool.{Bool, true, false, not, cond}
use mathlib.Core.List.{List, [], ◌∷◌, ◌++◌, map}
use mathlib.Core.Option.{Option, none, some}
use mathlib.Core.Logic.{⊎_elim}
use Prim.Native.Nat.{ℕ, zero, suc, ◌+◌, ◌-◌, ◌≤◌, ◌<◌}
use native.Mathlib.Nat.{le_of_suc-le-suc, not-suc-le-zero, zero-add}
use native.Mathlib.Numerals.{add-two}
use native.Mathlib.Omega.{arith}
use borrow.Author.Tests.{lt-ltb, le-ltb, ltb-true, ltb-false}
use lib.Dec.{ltb}
use lib.ListN.{length, get_or, set, length-set, length-map, get_or-append}
use lib.Seq.{get_or-set_same, get_or-set_other, get_or-append-add}
use lib.IntN.{ℤ, pos}
use Rattle.integers.specs.Part.{lt-or-le}
use Rattle.model.specs.Sets.{Constraint, is_zero}
use Rattle.model.proofs.Lists.{map_get}
use Rattle.feasibility.specs.Tableau.{Tableau, no_row, pad, from}
use Rattle.feasibility.proofs.Exchange.{Shape, Shaped, shape_at}
use Rattle.feasibility.proofs.Points.{Place, Placed, in_row, in_col, from_at}
use Rattle.feasibility.proofs.Start.{length_from, length-pad}
use Rattle.feasibility.proofs.Verdicts.{row_var, col_var}
use Rattle.termination.specs.Unlimited.{in_cols}
use Rattle.termination.proofs.Columns.{same_or_not, At, col-yes, col-no}
use Rattle.tableau.proofs.Lines as L
use Rattle.tableau.specs.Rows.{Whole}
use Rattle.wide_tableau.proofs.Signs.{zero-no}
use Rattle.simplex.specs.Table.{number_at, column_of, standing, layout}
use Rattle.simplex.proofs.Columns.{lay-is, column-in, column-standing, standing-column, standing-low, standing-mid, standing-high}
use Rattle.simplex.proofs.Fills.{past_end}
use Rattle.simplex.proofs.Shows.{Named, in-row, in-col, Shows, map_at}
use Rattle.simplex.proofs.Filled.{layout-whole}
use Rattle.planning.specs.Draft as P
use Rattle.planning.specs.Draft.{Draft, row_for}
use Rattle.planning.proofs.Places.{row_for-is}
use Rattle.drafting.specs.Sketch.{Sketch, coefficient_at, put_at, put_from, bare, begun, substituted, both_small, replaced_by, settled_at, and_then, settled_from, row_in, rule_row, Laid, Sound}
use Rattle.drafting.proofs.Sketches.{begun-sound, settle-sound}
use Rattle.drafting.proofs.Making.{settled-none, settled-one}
use Rattle.drafting.proofs.Draws.{waiting_in, row_of, Draws, both-shows, substituted-draws}

-- ---- numbers stored one after another

module _ (hit : ℕ → Bool) (to : ℕ → ℕ) (x : ℕ → ℤ) where
  abbrev store : ℕ → List ℤ → List ℤ
  store v l = cond (hit v) (set l (to v) (x v)) l

  -- those of the numbers from v on, f of them
  abbrev stores : ℕ → ℕ → List ℤ → List ℤ
  stores zero v l = l
  stores (suc f) v l = stores f (suc v) (store v l)

  store_long : (v : ℕ) (l : List ℤ) → length (store v l) ≡ length l
  store_long v l = at (hit v)
    where
      at : (b : Bool) → length (cond b (set l (to v) (x v)) l) ≡ length l
      at true = length-set l (to v) (x v)
      at false = refl

  store_other : (v : ℕ) (l : List ℤ) (p : ℕ) → (hit v ≡ true → to v ≡ p → ⊥) → get_or (store v l) p (pos 0) ≡ get_or l p (pos 0)
  store_other v l p h = at (hit v) refl
    where
      at : (b : Bool) → hit v ≡ b → get_or (cond b (set l (to v) (x v)) l) p (pos 0) ≡ get_or l p (pos 0)
      at true e = get_or-set_other l (to v) p (x v) (pos 0) (λ q. h e (sym q))
      at false e = refl

  store-here : (v : ℕ) (l : List ℤ) (p : ℕ) → hit v ≡ true → to v ≡ p → p < length l → get_or (store v l) p (pos 0) ≡ x v
  store-here v l p e q h =
      ap (λ b. get_or (cond b (set l (to v) (x v)) l) p (pos 0)) e ∙ ap (λ n. get_or (set l n (x v)) p (pos 0)) q ∙ get_or-set_same l p (x v) (pos 0) h

  never : (f v : ℕ) (l : List ℤ) (p : ℕ) → ((u : ℕ) → v ≤ u → u < v + f → hit u ≡ true → to u ≡ p → ⊥) → get_or (stores f v l) p (pos 0) ≡ get_or l p (pos 0)
  never zero v l p h = refl
  never (suc f) v l p h = never f (suc v) (store v l) p (λ u a b. h u (omega arith) (omega arith)) ∙ store_other v l p (h v (omega arith) (omega arith))

  once : (f v : ℕ) (l : List ℤ) (p u : ℕ) → v ≤ u → u < v + f → hit u ≡ true → to u ≡ p → p < length l → ((w : ℕ) → v ≤ w → w < v + f → hit w ≡ true → to w ≡ p → w ≡ u) → get_or (stores f v l) p (pos 0) ≡ x u
  once zero v l p u a b e q h g = absurd (omega arith)
  once (suc f) v l p u a b e q h g =
      ⊎_elim
      (λ c.
      never f (suc v) (store v l) p (λ w a' b' e' q'. let z = g w (omega arith) (omega arith) e' q' in omega arith)
      ∙ ap (λ w. get_or (store w l) p (pos 0)) c
      ∙ store-here u l p e q h)
      (λ c. once f (suc v) (store v l) p u (omega arith) (omega arith) e q (subst (λ n. p < n) (sym (store_long v l)) h) (λ w a' b' e' q'. g w (omega arith) (omega arith) e' q'))
      (same_or_not v u)

-- a column's coefficient is stored in the row, a row's in what waits
module _ (r : Constraint) (place : List ℕ) where
  abbrev is_row : ℕ → Bool
  is_row v = ltb (get_or place v 0) 64

  abbrev is_column : ℕ → Bool
  is_column v = not (is_row v)

  abbrev spot_of : ℕ → ℕ
  spot_of v = get_or place v 0 - 64 + 2

  row-stores : (f v : ℕ) (s : Sketch) → (put_from r place f v s).row ≡ stores is_column spot_of (coefficient_at r) f v s.row
  unfolding put_from
  row-stores zero v s = refl
  row-stores (suc f) v s =
      row-stores f (suc v) (put_at v (get_or place v 0) (coefficient_at r v) s)
      ∙ ap (stores is_column spot_of (coefficient_at r) f (suc v)) (other (is_row v) s.row (set s.row (spot_of v) (coefficient_at r v)))
    where
      other : (b : Bool) (l m : List ℤ) → cond b l m ≡ cond (not b) m l
      other true l m = refl
      other false l m = refl

  waiting-stores : (f v : ℕ) (s : Sketch) → (put_from r place f v s).waiting ≡ stores is_row (λ v. v + 2) (coefficient_at r) f v s.waiting
  unfolding put_from
  waiting-stores zero v s = refl
  waiting-stores (suc f) v s = waiting-stores f (suc v) (put_at v (get_or place v 0) (coefficient_at r v) s)

not-row : (b : Bool) → not b ≡ true → b ≡ false
not-row true e = sym e
not-row false e = refl

-- ---- a rule's coefficients

pad-at : (k : ℕ) (l : List ℤ) (i : ℕ) → i < k → get_or (pad k l) i (pos 0) ≡ get_or l i (pos 0)
pad-at zero l i h = absurd (not-suc-le-zero h)
pad-at (suc k) [] zero h = refl
pad-at (suc k) [] (suc i) h = pad-at k [] i (le_of_suc-le-suc h)
pad-at (suc k) (x ∷ l) zero h = refl
pad-at (suc k) (x ∷ l) (suc i) h = pad-at k l i (le_of_suc-le-suc h)

module _ (k : ℕ) (r : Constraint) where
  free-long : length (pad 8 r.axes ++ pad k r.divisions) ≡ 8 + k
  free-long = lib.ListN.length-append (pad 8 r.axes) (pad k r.divisions) ∙ ap₂ ◌+◌ (length-pad 8 r.axes) (length-pad k r.divisions)

  coefficient-is : (v : ℕ) → v < 8 + k → coefficient_at r v ≡ P.coefficient_of k r v
  coefficient-is v h = ⊎_elim low high (lt-or-le v 8)
    where
      low : v < 8 → coefficient_at r v ≡ P.coefficient_of k r v
      low l =
          ap (λ b. cond b (get_or r.axes v (pos 0)) (get_or r.divisions (v - 8) (pos 0))) (lt-ltb v 8 l)
          ∙ sym (get_or-append (pad 8 r.axes) (pad k r.divisions) (pos 0) v (subst (λ n. v < n) (sym (length-pad 8 r.axes)) l) ∙ pad-at 8 r.axes v l)

      high : 8 ≤ v → coefficient_at r v ≡ P.coefficient_of k r v
      high l =
          let c : v ≡ 8 + (v - 8) = omega arith in
          let e : v ≡ length (pad 8 r.axes) + (v - 8) = c ∙ ap (λ n. n + (v - 8)) (sym (length-pad 8 r.axes)) in
          ap (λ b. cond b (get_or r.axes v (pos 0)) (get_or r.divisions (v - 8) (pos 0))) (le-ltb v 8 l)
          ∙ sym (ap (λ n. get_or (pad 8 r.axes ++ pad k r.divisions) n (pos 0)) e ∙ get_or-append-add (pad 8 r.axes) (pad k r.divisions) (v - 8) (pos 0) ∙ pad-at k r.divisions (v - 8) (omega arith))

  coefficient-none : (v : ℕ) → 8 + k ≤ v → P.coefficient_of k r v ≡ pos 0
  coefficient-none v h = past_end (pad 8 r.axes ++ pad k r.divisions) v (subst (λ n. n ≤ v) (sym free-long) h)

-- ---- a table that shows a tableau

module _ (k : ℕ) (rows : List (List ℤ)) (place : List ℕ) (t : Tableau) (s : Shows k rows place t) (names : 8 + k ≤ length place) where
  named : (v : ℕ) → v < 8 + k → Named t v
  named v h = s.whose v (omega arith)

  col-place : (j : ℕ) → j < length t.cols → get_or place (col_var t j) 0 ≡ 64 + column_of k j
  col-place j h = (s.cols_at j h).1

  col-in : (j : ℕ) → j < length t.cols → j < 8 + k
  col-in j h = subst (λ n. j < n) s.width h

  rows_long : length rows ≡ length t.rows
  rows_long = ap length s.rows_are ∙ length-map t.rows (layout k)

  shape : (i : ℕ) → i < length t.rows → Shape (8 + k) (get_or t.rows i no_row)
  shape i h = shape_at (8 + k) t.rows i h (subst (λ n. Shaped n t.rows) s.width s.shaped)

  near : (v : ℕ) → Named t v → get_or place v 0 < 72 + k
  near v (in-row i h e) = let c = s.count in let q = (s.rows_at i h).1 in subst (λ u. get_or place u 0 < 72 + k) e (omega arith)
  near v (in-col j h e) = let q = col-place j h in let c = column-in k j (col-in j h) in subst (λ u. get_or place u 0 < 72 + k) e (omega arith)

  spot : (v : ℕ) → Named t v → get_or place v 0 < 64 → get_or place v 0 < length rows
  spot v (in-row i h e) l = let q = (s.rows_at i h).1 in subst (λ u. get_or place u 0 < length rows) e (subst (λ n. get_or place (row_var t i) 0 < n) (sym rows_long) (omega arith))
  spot v (in-col j h e) l = let q = col-place j h in let w : get_or place (col_var t j) 0 < 64 = subst (λ u. get_or place u 0 < 64) (sym e) l in absurd (omega arith)

  row_is : (i : ℕ) → i < length t.rows → get_or rows i [] ≡ layout k (get_or t.rows i no_row)
  row_is i h = ap (λ l. get_or l i []) s.rows_are ∙ map_at (layout k) t.rows i h

  whole : (i : ℕ) → i < length rows → Whole (k + 10) (get_or rows i [])
  whole i h =
      let b : i < length t.rows = subst (λ n. i < n) rows_long h in
      subst (Whole (k + 10)) (sym (row_is i b)) (layout-whole k s.few (get_or t.rows i no_row) (shape i b))

  pub laid : Laid k rows place
  laid =
      record {
        few = s.few;
        names = names;
        line = λ i h. (whole i h).line;
        over = λ i h. (whole i h).over;
        near = λ v h. near v (named v h);
        spot = λ v h. spot v (named v h);
      }

  placed : Placed t
  placed = record { loc = λ v. loc (get_or place v 0); cols_at = cols_at; rows_at = rows_at }
    where
      loc : ℕ → Place
      loc p = cond (ltb p 64) (in_row p) (in_col (standing k (p - 64)))

      cols_at : (j : ℕ) → j < length t.cols → loc (get_or place (col_var t j) 0) ≡ in_col j
      cols_at j h =
          let p = 64 + column_of k j in
          let m : p - 64 ≡ column_of k j = omega arith in
          ap loc (col-place j h) ∙ ap (λ b. cond b (in_row p) (in_col (standing k (p - 64)))) (le-ltb p 64 (omega arith)) ∙ ap in_col (ap (standing k) m ∙ standing-column k j)

      rows_at : (i : ℕ) → i < length t.rows → loc (get_or place (row_var t i) 0) ≡ in_row i
      rows_at i h = let c = s.count in ap loc (s.rows_at i h).1 ∙ ap (λ b. cond b (in_row i) (in_col (standing k (i - 64)))) (lt-ltb i 64 (omega arith))

  -- ---- the first sketch

  module _ (r : Constraint) where
    abbrev b : Sketch
    b = begun k place r

    b-sound : Sound k rows place b
    b-sound = begun-sound k rows place laid r

    abbrev z : ℤ
    z = r.constant

    row_at : (i : ℕ) → get_or b.row i (pos 0) ≡ get_or (stores (is_column r place) (spot_of r place) (coefficient_at r) (8 + k) 0 (bare z).row) i (pos 0)
    unfolding begun
    row_at i = ap (λ l. get_or l i (pos 0)) (row-stores r place (8 + k) 0 (bare z))

    waiting-at : (i : ℕ) → get_or b.waiting i (pos 0) ≡ get_or (stores (is_row r place) (λ v. v + 2) (coefficient_at r) (8 + k) 0 (bare z).waiting) i (pos 0)
    unfolding begun
    waiting-at i = ap (λ l. get_or l i (pos 0)) (waiting-stores r place (8 + k) 0 (bare z))

    -- whose coefficient is stored in column j
    owner : (u j : ℕ) → Named t u → is_column r place u ≡ true → spot_of r place u ≡ column_of k j + 2 → u ≡ col_var t j
    owner u j (in-row i h e) c q =
        let n = s.count in
        let p : get_or place u 0 ≡ i = ap (λ v. get_or place v 0) (sym e) ∙ (s.rows_at i h).1 in
        let l = ltb-false (get_or place u 0) 64 (not-row (is_row r place u) c) in
        absurd (omega arith)
    owner u j (in-col n h e) c q =
        let p : get_or place u 0 ≡ 64 + column_of k n = ap (λ v. get_or place v 0) (sym e) ∙ col-place n h in
        let w : column_of k n ≡ column_of k j = omega arith in
        sym e ∙ ap (col_var t) (sym (standing-column k n) ∙ ap (standing k) w ∙ standing-column k j)

    column-at : (j : ℕ) → j < length t.cols → get_or b.row (column_of k j + 2) (pos 0) ≡ P.coefficient_of k r (col_var t j)
    column-at j h = row_at (column_of k j + 2) ∙ ⊎_elim low high (lt-or-le (col_var t j) (8 + k))
      where
        p : get_or place (col_var t j) 0 ≡ 64 + column_of k j
        p = col-place j h

        c : column_of k j < 8 + k
        c = column-in k j (col-in j h)

        l : List ℤ
        l = stores (is_column r place) (spot_of r place) (coefficient_at r) (8 + k) 0 (bare z).row

        low : col_var t j < 8 + k → get_or l (column_of k j + 2) (pos 0) ≡ P.coefficient_of k r (col_var t j)
        low a =
            let q = p in
            let f = s.few in
            let i = c in
            once (is_column r place) (spot_of r place) (coefficient_at r) (8 + k) 0 (bare z).row (column_of k j + 2) (col_var t j) (omega arith) (omega arith)
            (ap not (le-ltb (get_or place (col_var t j) 0) 64 (omega arith))) (omega arith) (omega arith)
            (λ u a' b' e q. owner u j (named u (omega arith)) e q)
            ∙ coefficient-is k r (col_var t j) a

        high : 8 + k ≤ col_var t j → get_or l (column_of k j + 2) (pos 0) ≡ P.coefficient_of k r (col_var t j)
        high a =
            never (is_column r place) (spot_of r place) (coefficient_at r) (8 + k) 0 (bare z).row (column_of k j + 2)
            (λ u a' b' e q. let o = owner u j (named u (omega arith)) e q in omega arith)
            ∙ rw add-two (L.zeros-at 16 (column_of k j))
            ∙ sym (coefficient-none k r (col_var t j) a)

    abbrev nums : List ℤ
    nums = z ∷ map (P.coefficient_of k r) t.cols

    nums-long : length nums ≡ suc (8 + k)
    nums-long = ap suc (length-map t.cols (P.coefficient_of k r) ∙ s.width)

    standing-in : (c : ℕ) → c < 8 + k → standing k c < 8 + k
    standing-in c h = ⊎_elim (λ l. subst (λ n. n < 8 + k) (sym (standing-low k c l)) (omega arith)) (λ l. subst (λ n. n < 8 + k) (sym (standing-mid k c l h)) (omega arith)) (lt-or-le c k)

    number_is : (i : ℕ) → i < 18 → get_or b.row i (pos 0) ≡ number_at k (pos 1) nums i
    unfolding number_at
    number_is zero h = row_at 0 ∙ never (is_column r place) (spot_of r place) (coefficient_at r) (8 + k) 0 (bare z).row 0 (λ u a' b' e q. omega arith)
    number_is (suc zero) h = row_at 1 ∙ never (is_column r place) (spot_of r place) (coefficient_at r) (8 + k) 0 (bare z).row 1 (λ u a' b' e q. omega arith)
    number_is (suc (suc c)) h = ⊎_elim low high (lt-or-le c (8 + k))
      where
        low : c < 8 + k → get_or b.row (suc (suc c)) (pos 0) ≡ get_or nums (suc (standing k c)) (pos 0)
        low l =
            let i : standing k c < length t.cols = subst (λ n. standing k c < n) (sym s.width) (standing-in c l) in
            ap (λ n. get_or b.row n (pos 0)) (sym (add-two c) ∙ ap (λ n. n + 2) (sym (column-standing k c)))
            ∙ column-at (standing k c) i
            ∙ sym (map_get (P.coefficient_of k r) t.cols (standing k c) 0 (pos 0) i)

        high : 8 + k ≤ c → get_or b.row (suc (suc c)) (pos 0) ≡ get_or nums (suc (standing k c)) (pos 0)
        high l =
            b-sound.whole.line.blank (suc (suc c)) (omega arith)
            ∙ sym (past_end nums (suc (standing k c)) (subst (λ n. length nums ≤ suc n) (sym (standing-high k c l)) (subst (λ n. n ≤ suc c) (sym nums-long) (omega arith))))

    abbrev waits_for : ℕ → ℤ
    waits_for v = cond (in_cols t v) (pos 0) (P.coefficient_of k r v)

    waiting-is : (i : ℕ) → get_or b.waiting i (pos 0) ≡ get_or (waiting_in (map waits_for (from 0 (8 + k)))) i (pos 0)
    waiting-is zero = waiting-at 0 ∙ never (is_row r place) (λ v. v + 2) (coefficient_at r) (8 + k) 0 (bare z).waiting 0 (λ u a' b' e q. omega arith)
    waiting-is (suc zero) = waiting-at 1 ∙ never (is_row r place) (λ v. v + 2) (coefficient_at r) (8 + k) 0 (bare z).waiting 1 (λ u a' b' e q. omega arith)
    waiting-is (suc (suc v)) = waiting-at (suc (suc v)) ∙ ⊎_elim (λ h. at h (named v h)) high (lt-or-le v (8 + k))
      where
        l : List ℤ
        l = stores (is_row r place) (λ v. v + 2) (coefficient_at r) (8 + k) 0 (bare z).waiting

        long : length (map waits_for (from 0 (8 + k))) ≡ 8 + k
        long = length-map (from 0 (8 + k)) waits_for ∙ length_from 0 (8 + k)

        waits-is : v < 8 + k → get_or (map waits_for (from 0 (8 + k))) v (pos 0) ≡ waits_for v
        waits-is h = map_get waits_for (from 0 (8 + k)) v 0 (pos 0) (subst (λ n. v < n) (sym (length_from 0 (8 + k))) h) ∙ ap waits_for (from_at 0 (8 + k) v h ∙ zero-add v)

        no-column : (i : ℕ) → i < length t.rows → row_var t i ≡ v → At t v → ⊥
        no-column i h e a =
            let c = s.count in
            let p : get_or place v 0 ≡ i = ap (λ v. get_or place v 0) (sym e) ∙ (s.rows_at i h).1 in
            let q : get_or place v 0 ≡ 64 + column_of k a.place = ap (λ v. get_or place v 0) (sym a.is) ∙ col-place a.place a.inside in
            omega arith

        at : v < 8 + k → Named t v → get_or l (suc (suc v)) (pos 0) ≡ get_or (map waits_for (from 0 (8 + k))) v (pos 0)
        at h (in-row i b e) =
            let c = s.count in
            let f = s.few in
            let p : get_or place v 0 ≡ i = ap (λ v. get_or place v 0) (sym e) ∙ (s.rows_at i b).1 in
            once (is_row r place) (λ v. v + 2) (coefficient_at r) (8 + k) 0 (bare z).waiting (suc (suc v)) v (omega arith) (omega arith) (lt-ltb (get_or place v 0) 64 (omega arith)) (add-two v) (omega arith) (λ u a' b' e q. omega arith)
            ∙ coefficient-is k r v h
            ∙ sym (waits-is h ∙ ap (λ b. cond b (pos 0) (P.coefficient_of k r v)) (col-no t v (no-column i b e)))
        at h (in-col j b e) =
            let p : get_or place v 0 ≡ 64 + column_of k j = ap (λ v. get_or place v 0) (sym e) ∙ col-place j b in
            never (is_row r place) (λ v. v + 2) (coefficient_at r) (8 + k) 0 (bare z).waiting (suc (suc v))
            (λ u a' b' e q. let x : u ≡ v = omega arith in let y = ltb-true (get_or place u 0) 64 e in let w : get_or place u 0 ≡ get_or place v 0 = ap (λ v. get_or place v 0) x in omega arith)
            ∙ L.zeros-at 18 (suc (suc v))
            ∙ sym (waits-is h ∙ ap (λ b. cond b (pos 0) (P.coefficient_of k r v)) (ap (in_cols t) (sym e) ∙ col-yes t j b))

        high : 8 + k ≤ v → get_or l (suc (suc v)) (pos 0) ≡ get_or (map waits_for (from 0 (8 + k))) v (pos 0)
        high h =
            never (is_row r place) (λ v. v + 2) (coefficient_at r) (8 + k) 0 (bare z).waiting (suc (suc v)) (λ u a' b' e q. omega arith)
            ∙ L.zeros-at 18 (suc (suc v))
            ∙ sym (past_end (map waits_for (from 0 (8 + k))) v (subst (λ n. n ≤ v) (sym long) h))

    pub begun-draws : Draws k b (P.drafted k t r)
    begun-draws =
        record {
          row_is = lay-is k s.few b.row (pos 1) nums b-sound.whole.line.long number_is;
          waits = waiting-is;
          wide = b-sound.whole.waits.long;
          long = nums-long;
          free = length-map (from 0 (8 + k)) waits_for ∙ length_from 0 (8 + k);
          over = record { lt = tt };
        }

  -- ---- the variables replaced

  module _ (m : ℕ) where
    -- a variable that waits is a row, and stands there
    row-for : (v : ℕ) → Named t v → get_or place v 0 < length rows → (get_or rows (get_or place v 0) [] ≡ layout k (row_for t.rows v)) × Shape (8 + k) (row_for t.rows v)
    row-for v (in-row i h e) l =
        let p : get_or place v 0 ≡ i = ap (λ v. get_or place v 0) (sym e) ∙ (s.rows_at i h).1 in
        let q : row_for t.rows v ≡ get_or t.rows i no_row = ap (row_for t.rows) (sym e) ∙ row_for-is t placed i h in
        (ap (λ n. get_or rows n []) p ∙ row_is i h ∙ ap (layout k) (sym q), subst (Shape (8 + k)) (sym q) (shape i h))
    row-for v (in-col j h e) l =
        let c = s.count in
        let n = rows_long in
        let p : get_or place v 0 ≡ 64 + column_of k j = ap (λ v. get_or place v 0) (sym e) ∙ col-place j h in
        absurd (omega arith)

    -- what the code and planning have come to
    data Shown : Option Sketch → Option Draft → Type 0 where
      beyond : Shown none none
      drawn : {o : Sketch} {d : Draft} → Draws k o d → Shown (some o) (some d)

    settle-shows : (f v : ℕ) (o : Sketch) (d : Draft) → v + f ≤ 8 + k → Draws k o d → Sound k rows place o → Shown (settled_from m rows place f v o) (P.settled m t.rows (from v f) d)
    unfolding settled_from P.settled
    settle-shows zero v o d l h g = drawn h
    settle-shows (suc f) v o d l h g = at (is_zero (get_or d.waiting v (pos 0))) refl (settle-shows f (suc v))
      where
        Rest : Type 0
        Rest = (o : Sketch) (d : Draft) → suc v + f ≤ 8 + k → Draws k o d → Sound k rows place o → Shown (settled_from m rows place f (suc v) o) (P.settled m t.rows (from (suc v) f) d)

        same : get_or o.waiting (v + 2) (pos 0) ≡ get_or d.waiting v (pos 0)
        same = ap (λ i. get_or o.waiting i (pos 0)) (add-two v) ∙ h.waits (suc (suc v))

        fits : (c : Bool) → (get_or o.waiting (v + 2) (pos 0) ≡ pos 0 → ⊥) → both_small m o (layout k (row_for t.rows v)) ≡ c → settled_at m rows place v o ≡ cond c (some (substituted v (layout k (row_for t.rows v)) o)) none → Shape (8 + k) (row_for t.rows v) → Rest
            → Shown (and_then (settled_at m rows place v o) (settled_from m rows place f (suc v))) (elim c as (λ (c : Bool). Option Draft) [ false ↦ none | true ↦ P.settled m t.rows (from (suc v) f) (P.substituted v (row_for t.rows v) d) ])
        fits true n e q sh ih =
            subst (λ x. Shown (and_then x (settled_from m rows place f (suc v))) (P.settled m t.rows (from (suc v) f) (P.substituted v (row_for t.rows v) d))) (sym q)
            (ih (substituted v (layout k (row_for t.rows v)) o) (P.substituted v (row_for t.rows v) d) (omega arith) (substituted-draws k s.few v (row_for t.rows v) sh o d h) (settle-sound k rows place laid m v o _ (omega arith) g q))
        fits false n e q sh ih = subst (λ x. Shown (and_then x (settled_from m rows place f (suc v))) none) (sym q) beyond

        at : (c : Bool) → is_zero (get_or d.waiting v (pos 0)) ≡ c → Rest
            → Shown (and_then (settled_at m rows place v o) (settled_from m rows place f (suc v)))
            (elim c as (λ (c : Bool). Option Draft) [ true ↦ P.settled m t.rows (from (suc v) f) d | false ↦ elim (P.both_within m d (row_for t.rows v)) as (λ (c : Bool). Option Draft) [ false ↦ none | true ↦ P.settled m t.rows (from (suc v) f) (P.substituted v (row_for t.rows v) d) ] ])
        at true e ih =
            subst (λ x. Shown (and_then x (settled_from m rows place f (suc v))) (P.settled m t.rows (from (suc v) f) d)) (sym (settled-none m rows place v o (ap is_zero same ∙ e)))
            (ih o d (omega arith) h g)
        at false e ih =
            let q : is_zero (get_or o.waiting (v + 2) (pos 0)) ≡ false = ap is_zero same ∙ e in
            let n = zero-no (get_or o.waiting (v + 2) (pos 0)) q in
            let b : v < 8 + k = omega arith in
            let x = row-for v (named v b) (g.spot v b n) in
            let w = both-shows k s.few m o d (row_for t.rows v) h x.1.long in
            fits (P.both_within m d (row_for t.rows v)) n w (settled-one m rows place v o q ∙ ap (λ l. replaced_by m v l o) x.0 ∙ ap (λ b. cond b (some (substituted v (layout k (row_for t.rows v)) o)) none) w) x.1 ih

-- planning's row of a rule, laid out
abbrev pub laid_out : ℕ → Option Draft → Option (List ℤ)
laid_out k none = none
laid_out k (some d) = some (layout k (row_of d))

pub rule-shows : (m k : ℕ) (rows : List (List ℤ)) (place : List ℕ) (t : Tableau) → Shows k rows place t → 8 + k ≤ length place → (r : Constraint)
    → rule_row m k rows place r ≡ laid_out k (P.settled m t.rows (from 0 (8 + k)) (P.drafted k t r))
unfolding rule_row
rule-shows m k rows place t s names r = at (settle-shows k rows place t s names m (8 + k) 0 (begun k place r) (P.drafted k t r) (omega arith) (begun-draws k rows place t s names r) (begun-sound k rows place (laid k rows place t s names) r))
  where
    at : {x : Option Sketch} {y : Option Draft} → Shown k rows place t s names m x y → row_in x ≡ laid_out k y
    at beyond = refl
    at (drawn h) = ap some h.row_is
