-- A step of the second half on a table and the expression's row is what `aim` finds of the tableau that they show. Assumes nothing.
use mathlib.Core.Path.{◌≡◌, refl, sym, ap, ap₂, ◌∙◌, subst}
use mathlib.Core.Bool.{Bool, true, false, not, ◌&&◌, cond}
use mathlib.Core.List.{List, [], ◌∷◌, ◌++◌, tail}
use mathlib.Core.Option.{Option, none, some}
use mathlib.Core.Logic.{⊎_elim}
use Prim.Native.Nat.{ℕ, zero, suc, ◌+◌, ◌-◌, ◌<◌, zero-le}
use native.Mathlib.Nat.{zero-add, zero-lt-suc, le_refl, le_of_eq}
use native.Mathlib.Omega.{arith}
use borrow.Author.Tests.{lt-ltb, le-ltb}
use lib.Dec.{T, ltb, eqb, lt→ltb}
use lib.ListN.{length, get_or, set}
use lib.Seq.{get_or-append_seam, get_or-set_same, get_or-set_other}
use lib.IntN.{ℤ, pos, negsuc, neg_ℤ, nat_abs, ◌*ℤ◌}
use lib.Signed.{non_neg, lt_z, ◌<ℤ◌}
use Rattle.integers.specs.Ring.{ring, quote}
use Rattle.integers.specs.Part.{lt-or-le}
use Rattle.integers.specs.Size.{nat_abs-neg, nat_abs-zero}
use Rattle.model.specs.Sets.{Kind, equality, inequality, is_zero}
use Rattle.model.proofs.Count.{to-T}
use Rattle.feasibility.specs.Tableau as T
use Rattle.feasibility.specs.Tableau.{Row, Tableau, constant_of, violates, lowest, helpful_cols, no_row}
use Rattle.feasibility.proofs.Exchange as X
use Rattle.feasibility.proofs.Verdicts.{row_var, col_var, true-false, some-none, zero-calm}
use Rattle.tableau.specs.Rows.{entry, violated_by, helping, narrow_rows_at, narrow_row_at}
use Rattle.simplex.specs.Table.{column_of, kind_number}
use Rattle.simplex.proofs.Columns.{lay-entry, lay-length}
use Rattle.simplex.proofs.Shows.{Named, in-row, in-col, Shows}
use Rattle.simplex.proofs.Choosing.{first-none, violated-same, constant-at, entry_at, narrow-is, Helped, no-column, at-column, helped}
use Rattle.optimum.specs.Value as Value
use Rattle.optimum.specs.Value.{Aim, best, endless, turn, way, stop, Stop, with_stop, soonest, stop_of, entering, aim}
use Rattle.optimum.proofs.Soonest.{NotAfter, not-after-unique, Soonest, soonest-none, soonest-some}
use Rattle.climbing.specs.declared.Outcome.TheVariants as O
use Rattle.climbing.specs.declared.Step.TheVariants.{Ends, Turns as TurnsBy}
use Rattle.climbing.specs.Steps.{aim_of, improving, moves_up, moved, stops_at, stopping, move_over, move_under, leaving, step_in, step_at}
use Rattle.climbing.proofs.Stopping.{stops-row}
use Rattle.climbing.proofs.Climbing.{step-best, step-on, step-endless, step-long, step-last}
use Rattle.extremes.proofs.Goals.{with_row, narrow-last, Goal, spot_is, goal-narrow}
use Rattle.extremes.proofs.Leaving.{Stops, stop_at, Scanned, leaving-soonest, none_before}

-- ---- the last row, which is free, stops nothing

soonest-last : (f : Row → Option (ℤ × ℤ)) (i : ℕ) (rs : List Row) (g : Row) → f g ≡ none → soonest f i (rs ++ (g ∷ [])) ≡ soonest f i rs
soonest-last f i [] g e = ap (λ (o : Option (ℤ × ℤ)). with_stop o i g.var none) e
soonest-last f i (r ∷ rs) g e = ap (with_stop (f r) i r.var) (soonest-last f (suc i) rs g e)

-- ---- a move, up or down

moved-is : (greatest : Bool) (a e : ℤ) → e *ℤ way (aim_of greatest) a ≡ moved (moves_up greatest a) e
moved-is greatest a e = at (aim_of greatest *ℤ a)
  where
    at : (x : ℤ) → e *ℤ cond (non_neg x) (negsuc 0) (pos 1) ≡ moved (lt_z x (pos 0)) e
    at (pos n) = ring (e ∷ []) {b = neg_ℤ e} (search quote depth 30) tt ∙ ap (λ b. moved b e) (sym (le-ltb n 0 zero-le))
    at (negsuc n) = ring (e ∷ []) (search quote depth 30) tt

moved-size : (up : Bool) (e : ℤ) → nat_abs (moved up e) ≡ nat_abs e
moved-size true e = refl
moved-size false e = nat_abs-neg e

-- the length of the move, over the entry's size: 0 for an equality
abbrev over : Option Kind → ℤ → ℤ
over s c = cond (eqb (kind_number s) 2) (pos 0) c

abbrev stopped : Bool → ℤ × ℤ → Option (ℤ × ℤ)
stopped b q = cond b (some q) none

stop_is : (s : Option Kind) (c x : ℤ) → stop s c x ≡ stopped (violates s x) (over s c, pos (nat_abs x))
stop_is none c x = refl
stop_is (some equality) c x = at (is_zero x)
  where
    at : (b : Bool) → cond {A = Option (ℤ × ℤ)} b none (some (pos 0, pos (nat_abs x))) ≡ stopped (not b) (pos 0, pos (nat_abs x))
    at true = refl
    at false = refl
stop_is (some inequality) c x = at (non_neg x)
  where
    at : (b : Bool) → cond {A = Option (ℤ × ℤ)} b none (some (c, pos (nat_abs x))) ≡ stopped (not b) (c, pos (nat_abs x))
    at true = refl
    at false = refl

-- what a stop says
stopped-says : (b : Bool) (p q : ℤ × ℤ) → stopped b p ≡ some q → (b ≡ true) × (p ≡ q)
stopped-says true p q e = (refl, cc)
stopped-says false p q e = some-none (sym e)

stop-den : (s : Option Kind) (c x : ℤ) (q : ℤ × ℤ) → stop s c x ≡ some q → pos 0 <ℤ q.1
stop-den s c x q e =
    let p : ℤ × ℤ = (over s c, pos (nat_abs x)) in
    let w = stopped-says (violates s x) p q (sym (stop_is s c x) ∙ e) in
    subst (λ (y : ℤ × ℤ). pos 0 <ℤ y.1) w.1 (size (nat_abs x) refl w.0)
  where
    size : (n : ℕ) → nat_abs x ≡ n → violates s x ≡ true → pos 0 <ℤ pos n
    size zero z v = absurd (zero-calm s (subst (λ y. T (violates s y)) (nat_abs-zero x z) (to-T _ v)))
    size (suc n) z v = record { lt = lt→ltb 0 (suc n) (zero-lt-suc n) }

aim-nonzero : (greatest : Bool) → aim_of greatest ≡ pos 0 → ⊥
aim-nonzero true e = let z : ◌≡◌ {A = ℕ} 1 0 = ap nat_abs e in omega arith
aim-nonzero false e = let z : ◌≡◌ {A = ℕ} 1 0 = ap nat_abs e in omega arith

-- ---- what a step finds

module _ (k : ℕ) (sort : ℕ → Option Kind) (t : Tableau) (g : Row) (rows : List (List ℤ)) (goal : List ℤ) (place kinds : List ℕ) (s : Shows k rows place t)
    (kinds_are : (v : ℕ) → v < length place → get_or kinds v 0 ≡ kind_number (sort v)) (γ : Goal k sort g goal) (greatest : Bool) where
  abbrev z : ℤ
  z = aim_of greatest

  abbrev row_of : ℕ → Row
  row_of i = get_or t.rows i no_row

  -- ---- the entering column

  goal-entry : (j : ℕ) → j < length t.cols → entry goal (column_of k j) ≡ T.entry g j
  goal-entry j h = ap (λ l. entry l (column_of k j)) γ.goal_is ∙ lay-entry k s.few g.den g.nums j (subst (λ n. j < n) s.width h)

  abbrev aimed-row : List ℤ
  aimed-row = set goal 1 z

  constant-is : get_or aimed-row 1 (pos 0) ≡ z
  constant-is = get_or-set_same goal 1 z (pos 0) (subst (λ n. 1 < n) (sym (ap length γ.goal_is ∙ lay-length k s.few g.den g.nums)) (omega arith))

  entry-is : (j : ℕ) → j < length t.cols → get_or aimed-row (column_of k j + 2) (pos 0) ≡ T.entry g j
  entry-is j h = get_or-set_other goal 1 (column_of k j + 2) z (pos 0) (λ e. omega arith) ∙ goal-entry j h

  -- ---- the leaving row, for column j

  module _ (j : ℕ) (jin : j < length t.cols) where
    abbrev c : ℕ
    c = column_of k j

    abbrev up : Bool
    up = moves_up greatest (T.entry g j)

    abbrev f : Row → Option (ℤ × ℤ)
    f = stop_of sort j (way z (T.entry g j))

    row-stops : (i : ℕ) → i < length t.rows → stops_at rows place kinds c up (row_var t i) ≡ violates (sort (row_var t i)) (moved up (T.entry (row_of i) j))
    unfolding stops_at
    row-stops i h =
        let v = row_var t i in
        let x = s.rows_at i h in
        let b = s.count in
        ap (λ n. cond (ltb n 64) (violated_by (get_or kinds v 0) (moved up (entry (get_or rows n []) c))) false) x.1
        ∙ ap (λ b. cond b (violated_by (get_or kinds v 0) (moved up (entry (get_or rows i []) c))) false) (lt-ltb i 64 (omega arith))
        ∙ ap₂ (λ n y. violated_by n (moved up y)) (kinds_are v x.0) (entry_at k sort t rows place kinds s kinds_are i h j jin)
        ∙ violated-same (sort v) (moved up (T.entry (row_of i) j))

    col-stops : (m : ℕ) → m < length t.cols → stops_at rows place kinds c up (col_var t m) ≡ false
    unfolding stops_at
    col-stops m h =
        let v = col_var t m in
        let x = s.cols_at m h in
        ap (λ n. cond (ltb n 64) (violated_by (get_or kinds v 0) (moved up (entry (get_or rows n []) c))) false) x.1
        ∙ ap (λ b. cond b (violated_by (get_or kinds v 0) (moved up (entry (get_or rows (64 + column_of k m) []) c))) false) (le-ltb (64 + column_of k m) 64 (omega arith))

    row-over : (i : ℕ) → i < length t.rows → over (sort (row_var t i)) (constant_of (row_of i)) ≡ move_over rows place kinds (row_var t i)
    row-over i h =
        let v = row_var t i in
        let x = s.rows_at i h in
        sym (ap₂ (λ n m. cond (eqb n 2) (pos 0) (get_or (get_or rows m []) 1 (pos 0))) (kinds_are v x.0) x.1 ∙ ap (over (sort v)) (constant-at k sort t rows place kinds s kinds_are i h))

    row_under : (i : ℕ) → i < length t.rows → nat_abs (T.entry (row_of i) j *ℤ way z (T.entry g j)) ≡ nat_abs (entry (get_or rows (get_or place (row_var t i) 0) []) c)
    row_under i h =
        ap nat_abs (moved-is greatest (T.entry g j) (T.entry (row_of i) j))
        ∙ moved-size up (T.entry (row_of i) j)
        ∙ sym (ap nat_abs (ap (λ m. entry (get_or rows m []) c) (s.rows_at i h).1 ∙ entry_at k sort t rows place kinds s kinds_are i h j jin))

    -- a row stops the move as its variable does
    abbrev when-stopped : ℕ → ℤ × ℤ
    when-stopped v = (move_over rows place kinds v, move_under rows place c v)

    row-stop : (i : ℕ) → i < length t.rows → f (row_of i) ≡ stopped (stops_at rows place kinds c up (row_var t i)) (when-stopped (row_var t i))
    row-stop i h =
        let v = row_var t i in
        let x : ℤ = T.entry (row_of i) j *ℤ way z (T.entry g j) in
        stop_is (sort v) (constant_of (row_of i)) x
        ∙ ap₂ stopped
        (ap (violates (sort v)) (moved-is greatest (T.entry g j) (T.entry (row_of i) j)) ∙ sym (row-stops i h))
        (ap₂ (λ (y : ℤ) (n : ℕ). (y, pos n)) (row-over i h) (row_under i h))

    stop-has : (i : ℕ) → i < length t.rows → Stops rows place kinds c up (row_var t i) → f (row_of i) ≡ some (when-stopped (row_var t i))
    stop-has i h e = row-stop i h ∙ ap (λ (b : Bool). stopped b (when-stopped (row_var t i))) e

    stop-says : (i : ℕ) → i < length t.rows → (q : ℤ × ℤ) → f (row_of i) ≡ some q → Stops rows place kinds c up (row_var t i) × (when-stopped (row_var t i) ≡ q)
    stop-says i h q e = stopped-says (stops_at rows place kinds c up (row_var t i)) (when-stopped (row_var t i)) q (sym (row-stop i h) ∙ e)

    -- a variable that stops the move is a row
    which : (v : ℕ) → Stops rows place kinds c up v → Named t v → {X : Type 0} → ((i : ℕ) → i < length t.rows → row_var t i ≡ v → X) → X
    which v h (in-row i l e) f = f i l e
    which v h (in-col m l e) f = true-false (sym h ∙ ap (stops_at rows place kinds c up) (sym e) ∙ col-stops m l)

    -- no row stops it
    none-stops : soonest f 0 t.rows ≡ none → stopping rows place kinds c up ≡ length place
    unfolding stopping
    none-stops e = first-none (stops_at rows place kinds c up) (length place) 0 (λ u a b. at u (stops_at rows place kinds c up u) refl (omega arith)) ∙ zero-add (length place)
      where
        at : (u : ℕ) (b : Bool) → stops_at rows place kinds c up u ≡ b → u < length place → b ≡ false
        at u false x l = refl
        at u true x l =
            which u x (s.whose u l)
            (λ i h q. absurd (soonest-none f 0 t.rows e i (when-stopped (row_var t i)) h (stop-has i h (subst (Stops rows place kinds c up) (sym q) x))))

    -- the soonest row is the one that the scan leaves with
    record Leaves (i : ℕ) : Type 0 where
      pivots : X.Pivot i j t
      stops : stopping rows place kinds c up < length place
      leaving_is : leaving rows place kinds c up (stopping rows place kinds c up) ≡ row_var t i

    leaves : (a : Stop) → Soonest f 0 t.rows a → Leaves a.place
    leaves a d = subst Leaves (sym (d.place ∙ zero-add d.m)) (record { pivots = record { row = d.inside; col = jin; entry = nonzero }; stops = found; leaving_is = same })
      where
        i : ℕ
        i = d.m

        v : ℕ
        v = row_var t i

        says : Stops rows place kinds c up v × (when-stopped v ≡ (a.num, a.den))
        says = stop-says i d.inside (a.num, a.den) d.found

        nonzero : T.entry (row_of i) j ≡ pos 0 → ⊥
        nonzero e =
            (stops-row rows place kinds c up v says.0).1
            (ap (λ m. entry (get_or rows m []) c) (s.rows_at i d.inside).1 ∙ entry_at k sort t rows place kinds s kinds_are i d.inside j jin ∙ e)

        found : stopping rows place kinds c up < length place
        found =
            ⊎_elim (λ l. l)
            (λ l. let b = (s.rows_at i d.inside).0 in true-false (sym says.0 ∙ none_before rows place kinds c up v (omega arith)))
            (lt-or-le (stopping rows place kinds c up) (length place))

        w : ℕ
        w = leaving rows place kinds c up (stopping rows place kinds c up)

        scanned : Scanned rows place kinds c up (length place) w
        scanned = leaving-soonest rows place kinds c up found

        -- a is how v stops it
        not_after : (b : Stop) → NotAfter a b → NotAfter (stop_at rows place kinds c up v) b
        not_after b h =
            subst (λ (p : ℤ × ℤ). NotAfter (record { place = 0; var = v; num = p.0; den = p.1 }) b) (sym says.1)
            (subst (λ (n : ℕ). NotAfter (record { place = 0; var = n; num = a.num; den = a.den }) b) d.var h)

        same : w ≡ v
        same =
            which w scanned.stops (s.whose w scanned.below)
            (λ m l e. not-after-unique (stop_at rows place kinds c up w) (stop_at rows place kinds c up v)
            (scanned.least v (s.rows_at i d.inside).0 says.0)
            (subst (λ (u : ℕ). NotAfter (stop_at rows place kinds c up v) (stop_at rows place kinds c up u)) e
            (not_after (stop_at rows place kinds c up (row_var t m))
            (d.least m (when-stopped (row_var t m)) l (stop-has m l (subst (Stops rows place kinds c up) (sym e) scanned.stops))))))

  -- ---- both

  module _ (b n : ℕ) where
    pub data Aimed : Aim → Type 0 where
      at-best : step_at b rows goal place kinds greatest n ≡ Ends O.Best → Aimed best
      no_stop : step_at b rows goal place kinds greatest n ≡ Ends O.Endless → Aimed endless
      spent : (i j : ℕ) → n ≡ 0 → step_at b rows goal place kinds greatest n ≡ Ends O.Long → Aimed (turn i j)
      turns : (i j : ℕ) → X.Pivot i j t → (n ≡ 0 → ⊥) → step_at b rows goal place kinds greatest n ≡ cond (T.narrow b j (with_row t g)) (TurnsBy (row_var t i) (col_var t j)) (Ends O.Wide) → Aimed (turn i j)

    -- with the column j
    module _ (j : ℕ) (jin : j < length t.cols) (w-is : helping aimed-row place kinds ≡ col_var t j) where
      abbrev w : ℕ
      w = col_var t j

      abbrev spot : ℕ
      spot = get_or place w 0 - 64

      here : spot ≡ c j jin
      here = spot_is k sort t g rows goal place s γ j jin

      up_is : up j jin ≡ moves_up greatest (entry goal spot)
      up_is = ap (moves_up greatest) (sym (ap (entry goal) here ∙ goal-entry j jin))

      abbrev u : ℕ
      u = stopping rows place kinds (c j jin) (up j jin)

      u-is : u ≡ stopping rows place kinds spot (up j jin)
      u-is = ap (λ m. stopping rows place kinds m (up j jin)) (sym here)

      in-column : step_in b rows goal place kinds greatest n w ≡ step_at b rows goal place kinds greatest n
      unfolding improving
      in-column = step-on b rows goal place kinds greatest n w (sym w-is) (s.cols_at j jin).0

      all-narrow : (narrow_rows_at b spot rows && narrow_row_at b spot goal) ≡ T.narrow b j (with_row t g)
      all-narrow = ap₂ ◌&&◌ (narrow-is k sort t rows place kinds s kinds_are b j jin) (goal-narrow k sort t g rows goal place s γ b j jin) ∙ sym (narrow-last b j t g)

      aimed-row-by : (o : Option Stop) → soonest (f j jin) 0 t.rows ≡ o → Aimed (Value.leaving j o)
      aimed-row-by none e =
          no_stop (sym (step-endless b rows goal place kinds greatest n w (up j jin) u up_is u-is (le_of_eq (sym (none-stops j jin e))) ∙ in-column))
      aimed-row-by (some a) e = on n refl
        where
          d : Leaves j jin a.place
          d = leaves j jin a (soonest-some (f j jin) (λ r q. stop-den (sort r.var) (constant_of r) (T.entry r j *ℤ way z (T.entry g j)) q) 0 t.rows a e)

          on : (m : ℕ) → n ≡ m → Aimed (turn a.place j)
          on zero q = spent a.place j q (sym (step-long b rows goal place kinds greatest n w (up j jin) u up_is u-is d.stops q ∙ in-column))
          on (suc m) q =
              let nz : n ≡ 0 → ⊥ = λ e. omega arith in
              turns a.place j d.pivots nz
              (sym (step-last b rows goal place kinds greatest n w (up j jin) u up_is u-is (T.narrow b j (with_row t g)) d.stops nz all-narrow ∙ in-column)
              ∙ ap (λ v. cond (T.narrow b j (with_row t g)) (TurnsBy v w) (Ends O.Wide)) (ap (λ m. leaving rows place kinds m (up j jin) u) here ∙ d.leaving_is))

    aimed-by : (o : Option (ℕ × ℕ)) → Helped k sort t rows place kinds s kinds_are aimed-row z g (aim-nonzero greatest) constant-is entry-is o
        → Aimed (elim o [ none ↦ best | some m ↦ Value.leaving m.1 (soonest (stop_of sort m.1 (way z (T.entry g m.1))) 0 t.rows) ])
    unfolding improving
    aimed-by _ (no-column e) = at-best (sym (step-best b rows goal place kinds greatest n (length place) (sym e) (le_refl (length place))))
    aimed-by _ (at-column m h y e) = aimed-row-by m.1 h e (soonest (f m.1 h) 0 t.rows) refl

    abbrev found : Option (ℕ × ℕ)
    found = lowest 0 (helpful_cols sort z t.cols (tail g.nums))

    last_row : get_or (with_row t g).rows (length t.rows) no_row ≡ g
    last_row = get_or-append_seam t.rows g [] no_row

    aim-is : (o : Option (ℕ × ℕ)) → entering sort z (length t.rows) (with_row t g) o ≡ elim o [ none ↦ best | some m ↦ Value.leaving m.1 (soonest (stop_of sort m.1 (way z (T.entry g m.1))) 0 t.rows) ]
    aim-is none = refl
    aim-is (some m) =
        ap (λ (r : Row). Value.leaving m.1 (soonest (stop_of sort m.1 (way z (T.entry r m.1))) 0 (t.rows ++ (g ∷ [])))) last_row
        ∙ ap (Value.leaving m.1) (soonest-last (stop_of sort m.1 (way z (T.entry g m.1))) 0 t.rows g (ap (λ (x : Option Kind). stop x (constant_of g) (T.entry g m.1 *ℤ way z (T.entry g m.1))) γ.free))

    pub aimed : Aimed (aim sort z (length t.rows) (with_row t g))
    unfolding aim
    aimed =
        subst Aimed
        (sym (ap (λ (r : Row). entering sort z (length t.rows) (with_row t g) (lowest 0 (helpful_cols sort z t.cols (tail r.nums)))) last_row ∙ aim-is found))
        (aimed-by found (helped k sort t rows place kinds s kinds_are aimed-row z g (aim-nonzero greatest) constant-is entry-is found refl))
