-- Both halves on the table and the expression's row are those of the tableau that they show. Assumes nothing.
use mathlib.Core.Path.{◌≡◌, refl, sym, ap, ap₂, ◌∙◌, subst, subst₂}
use mathlib.Core.Bool.{Bool, true, false, ◌&&◌, cond}
use mathlib.Core.List.{List, []}
use mathlib.Core.Option.{Option}
use Prim.Native.Nat.{ℕ, zero, suc, ◌+◌, ◌/◌, ◌≤◌, ◌<◌}
use native.Mathlib.Nat.{pos_of_dvd_of_pos}
use native.Mathlib.Omega.{arith}
use lib.Dec.{lt→ltb}
use lib.ListN.{length, get_or}
use lib.Seq.{get_or-append_seam}
use lib.IntN.{ℤ, pos, nat_abs}
use lib.Signed.{quot_z}
use Rattle.integers.specs.Div.{divides-rem, exact, exact-unique, floor-exact}
use Rattle.integers.specs.Gcd as Gcd
use Rattle.integers.specs.Gcd.{gcd-is, gcd-unique}
use Rattle.model.specs.Sets.{Kind, floor_div}
use Rattle.feasibility.specs.Tableau as T
use Rattle.feasibility.specs.Tableau.{Row, Tableau, constant_of, exchange, look, reach, none_violated, none_helps, pivot, no_row}
use Rattle.feasibility.proofs.Exchange as X
use Rattle.feasibility.proofs.Exchange.{Shape}
use Rattle.feasibility.proofs.Reach.{reach-calm, reach-stuck, reach-long, reach-wide, reach_step}
use Rattle.feasibility.proofs.Reduce.{euclid-is}
use Rattle.feasibility.proofs.Verdicts.{row_var, col_var}
use Rattle.tableau.specs.Rows.{den}
use Rattle.tableau.proofs.Lines.{pos_nat_abs}
use Rattle.simplex.specs.declared.Verdict.{Verdict}
use Rattle.simplex.specs.declared.Verdict.TheVariants.{Point, Dropped, Long, Wide}
use Rattle.simplex.specs.declared.Move.TheVariants.{Stop, Pivot}
use Rattle.simplex.specs.Answers.{verdict_of}
use Rattle.simplex.specs.Table.{layout, number_at, move_at, pivot_rows, pivot_place}
use Rattle.simplex.proofs.Bridge.{Sorted}
use Rattle.simplex.proofs.Choosing.{Chosen, calm, stuck, spent, turns, chosen}
use Rattle.simplex.proofs.Columns.{lay_at, number-zero}
use Rattle.simplex.proofs.Moves.{pivot-length}
use Rattle.simplex.proofs.Shows.{Shows, exchange-shows, rows_long}
use Rattle.optimum.specs.Value.{Extreme, empty, too_wide, too_long, attained, Aim, best, turn, aim, fraction, climb, climbed}
use Rattle.optimum.proofs.Climb.{climb-best, climb-endless, climb-long, climb-wide, climb-step}
use Rattle.climbing.specs.declared.Outcome.{Outcome}
use Rattle.climbing.specs.declared.Outcome.TheVariants as O
use Rattle.climbing.specs.declared.Step.TheVariants.{Ends, Turns as TurnsBy}
use Rattle.climbing.specs.Steps.{aim_of, pivot_goal, with_goal, move_with, Ending, reach_with, step_at, climb_with, fraction_of, outcome_of, outcome_in, halves}
use Rattle.climbing.proofs.Posing.{move-stops, reach-stop, reach-more}
use Rattle.climbing.proofs.Climbing.{climb-ends, climb-more}
use Rattle.extremes.proofs.Goals.{with_row, look-last, narrow_of, narrow-last, crossed, exchange-last, Goal, goal-narrow, goal-crossed}
use Rattle.extremes.proofs.Choices as Choices
use Rattle.extremes.proofs.Choices.{Aimed, at-best, no_stop, aimed}

-- ---- the value

module _ (k : ℕ) (few : k ≤ 8) (r : Row) (shape : Shape (8 + k) r) where
  constant-same : get_or (layout k r) 1 (pos 0) ≡ constant_of r
  unfolding number_at
  constant-same = lay_at k few r.den r.nums 1 (omega arith)

  den-same : den (layout k r) ≡ r.den
  den-same = lay_at k few r.den r.nums 0 (omega arith) ∙ number-zero k few r.den r.nums

  abbrev divisor : ℕ
  divisor = T.gcd (nat_abs (constant_of r)) (nat_abs r.den)

  divisor-same : divisor ≡ Gcd.gcd (nat_abs (constant_of r)) (nat_abs r.den)
  divisor-same = gcd-unique (euclid-is (nat_abs (constant_of r)) (nat_abs r.den)) (gcd-is (nat_abs (constant_of r)) (nat_abs r.den))

  quotient-same : floor_div (constant_of r) divisor ≡ quot_z (constant_of r) (pos divisor)
  quotient-same =
      let c : ℤ = constant_of r in
      let d = euclid-is (nat_abs c) (nat_abs r.den) in
      let over : 0 < divisor = pos_of_dvd_of_pos d.right (pos_nat_abs r.den shape.positive) in
      exact-unique {n = c} {d = pos divisor} (record { lt = lt→ltb 0 divisor over }) (floor-exact c divisor over d.left) (exact c (pos divisor) (divides-rem c (pos divisor) d.left))

  fraction-same : fraction r ≡ fraction_of (layout k r)
  unfolding fraction_of
  fraction-same =
      ap (λ (q : ℤ). attained q (nat_abs r.den / divisor)) quotient-same
      ∙ ap (λ (g : ℕ). attained (quot_z (constant_of r) (pos g)) (nat_abs r.den / g)) divisor-same
      ∙ sym (ap₂ (λ (c d : ℤ). attained (quot_z c (pos (Gcd.gcd (nat_abs c) (nat_abs d)))) (nat_abs d / Gcd.gcd (nat_abs c) (nat_abs d))) constant-same den-same)

-- ---- the first half

module _ (k : ℕ) (sort : ℕ → Option Kind) (kinds : List ℕ) (b : ℕ) where
  -- an ending of the code's first half shows one of the tableau's, which has so many rows beside the expression's
  pub record Reached (count : ℕ) (e : T.Ending) (o : Ending) : Type 0 where
    pub t : Tableau
    pub g : Row
    pub verdict_is : verdict_of o.verdict ≡ e.verdict
    pub left_is : o.left ≡ e.left
    pub tableau_is : e.tableau ≡ with_row t g
    pub count_is : length t.rows ≡ count
    pub shows : Shows k o.rows o.place t
    pub sorted : Sorted k sort kinds o.place
    pub goal : Goal k sort g o.goal

  module _ (t : Tableau) (g : Row) (rows : List (List ℤ)) (goal : List ℤ) (place : List ℕ) (s : Shows k rows place t) (ks : Sorted k sort kinds place) (γ : Goal k sort g goal) where
    ended_at : (n : ℕ) (x : Verdict) → move_with b rows goal place kinds n ≡ Stop x → reach (T.narrow b) sort n (with_row t g) ≡ record { verdict = verdict_of x; left = n; tableau = with_row t g }
        → Reached (length t.rows) (reach (T.narrow b) sort n (with_row t g)) (reach_with b kinds n rows goal place)
    ended_at n x e v =
        subst₂ (Reached (length t.rows)) (sym v) (sym (reach-stop b kinds n rows goal place x e))
        (record { t = t; g = g; verdict_is = refl; left_is = refl; tableau_is = refl; count_is = refl; shows = s; sorted = ks; goal = γ })

    look_is : (l : T.Look) → look sort t ≡ l → look sort (with_row t g) ≡ l
    look_is l q = look-last sort t g γ.free ∙ q

    module _ (i j : ℕ) (p : X.Pivot i j t) where
      abbrev v : ℕ
      v = row_var t i

      abbrev w : ℕ
      w = col_var t j

      move-pivot : (n : ℕ) → cond (T.narrow b j t) (Pivot v w) (Stop Wide) ≡ move_at b rows place kinds n → move_with b rows goal place kinds n ≡ cond (T.narrow b j (with_row t g)) (Pivot v w) (Stop Wide)
      unfolding move_with
      move-pivot n e = ap (with_goal b goal place) (sym e) ∙ both (T.narrow b j t) ∙ ap (λ (x : Bool). cond x (Pivot v w) (Stop Wide)) (sym (narrow-last b j t g))
        where
          both : (x : Bool) → with_goal b goal place (cond x (Pivot v w) (Stop Wide)) ≡ cond (x && narrow_of b j g) (Pivot v w) (Stop Wide)
          both true = ap (λ (y : Bool). cond y (Pivot v w) (Stop Wide)) (goal-narrow k sort t g rows goal place s γ b j p.col)
          both false = refl

      abbrev t' : Tableau
      t' = exchange i j t

      abbrev g' : Row
      g' = crossed i j t g p.row

      abbrev rows' : List (List ℤ)
      rows' = pivot_rows rows place v w

      abbrev goal' : List ℤ
      goal' = pivot_goal rows goal place v w

      abbrev place' : List ℕ
      place' = pivot_place place v w

      shows' : Shows k rows' place' t'
      shows' = exchange-shows k i j t p rows place s

      sorted' : Sorted k sort kinds place'
      sorted' u h = ks u (subst (λ m. u < m) (pivot-length place v w) h)

      γ' : Goal k sort g' goal'
      γ' = goal-crossed k sort t g rows goal place s γ i j p

      count' : length t'.rows ≡ length t.rows
      count' = rows_long k i j t p rows place s

      exchanged : exchange i j (with_row t g) ≡ with_row t' g'
      exchanged = exchange-last i j t g p.row

  pub reach-shown : (n : ℕ) (t : Tableau) (g : Row) (rows : List (List ℤ)) (goal : List ℤ) (place : List ℕ) → Shows k rows place t → Sorted k sort kinds place → Goal k sort g goal
      → Reached (length t.rows) (reach (T.narrow b) sort n (with_row t g)) (reach_with b kinds n rows goal place)
  reach-shown zero t g rows goal place s ks γ = at (look sort t) refl (chosen k sort t rows place kinds s ks b 0)
    where
      ended : (x : Verdict) → move_at b rows place kinds 0 ≡ Stop x → reach (T.narrow b) sort 0 (with_row t g) ≡ record { verdict = verdict_of x; left = 0; tableau = with_row t g } → Reached (length t.rows) (reach (T.narrow b) sort 0 (with_row t g)) (reach_with b kinds 0 rows goal place)
      ended x e = ended_at t g rows goal place s ks γ 0 x (sym (move-stops b rows goal place kinds 0 x e))

      at : (l : T.Look) → look sort t ≡ l → Chosen k sort t rows place kinds s ks b 0 l → Reached (length t.rows) (reach (T.narrow b) sort 0 (with_row t g)) (reach_with b kinds 0 rows goal place)
      at _ q (calm e) = ended Point e (reach-calm (T.narrow b) sort 0 (with_row t g) (look_is t g rows goal place s ks γ none_violated q))
      at _ q (stuck e) = ended Dropped e (reach-stuck (T.narrow b) sort 0 (with_row t g) (look_is t g rows goal place s ks γ none_helps q))
      at _ q (spent i j z e) = ended Long e (reach-long (T.narrow b) sort i j (with_row t g) (look_is t g rows goal place s ks γ (pivot i j) q))
      at _ q (turns i j p n e) = absurd (n refl)
  reach-shown (suc n) t g rows goal place s ks γ = at (look sort t) refl (chosen k sort t rows place kinds s ks b (suc n)) (reach-shown n)
    where
      Result : Type 0
      Result = Reached (length t.rows) (reach (T.narrow b) sort (suc n) (with_row t g)) (reach_with b kinds (suc n) rows goal place)

      Next : Type 0
      Next = (t : Tableau) (g : Row) (rows : List (List ℤ)) (goal : List ℤ) (place : List ℕ) → Shows k rows place t → Sorted k sort kinds place → Goal k sort g goal
          → Reached (length t.rows) (reach (T.narrow b) sort n (with_row t g)) (reach_with b kinds n rows goal place)

      ended : (x : Verdict) → move_at b rows place kinds (suc n) ≡ Stop x → reach (T.narrow b) sort (suc n) (with_row t g) ≡ record { verdict = verdict_of x; left = suc n; tableau = with_row t g } → Result
      ended x e = ended_at t g rows goal place s ks γ (suc n) x (sym (move-stops b rows goal place kinds (suc n) x e))

      on : (i j : ℕ) (p : X.Pivot i j t) → look sort t ≡ pivot i j → (c : Bool) → T.narrow b j (with_row t g) ≡ c → move_with b rows goal place kinds (suc n) ≡ cond c (Pivot (row_var t i) (col_var t j)) (Stop Wide) → Next → Result
      on i j p q false f e ih =
          ended_at t g rows goal place s ks γ (suc n) Wide e (reach-wide (T.narrow b) sort n i j (with_row t g) (look_is t g rows goal place s ks γ (pivot i j) q) f)
      on i j p q true f e ih =
          let v = row_var t i in
          let w = col_var t j in
          let g₁ : Row = crossed i j t g p.row in
          let x : reach (T.narrow b) sort (suc n) (with_row t g) ≡ reach (T.narrow b) sort n (with_row (exchange i j t) g₁) =
          reach_step (T.narrow b) sort n i j (with_row t g) (look_is t g rows goal place s ks γ (pivot i j) q) f ∙ ap (reach (T.narrow b) sort n) (exchanged t g rows goal place s ks γ i j p) in
          subst (λ (m : ℕ). Reached m (reach (T.narrow b) sort (suc n) (with_row t g)) (reach_with b kinds (suc n) rows goal place)) (count' t g rows goal place s ks γ i j p)
          (subst₂ (Reached (length (exchange i j t).rows)) (sym x) (reach-more b kinds n rows goal place v w e)
          (ih (exchange i j t) g₁ (pivot_rows rows place v w) (pivot_goal rows goal place v w) (pivot_place place v w) (shows' t g rows goal place s ks γ i j p) (sorted' t g rows goal place s ks γ i j p) (γ' t g rows goal place s ks γ i j p)))

      at : (l : T.Look) → look sort t ≡ l → Chosen k sort t rows place kinds s ks b (suc n) l → Next → Result
      at _ q (calm e) ih = ended Point e (reach-calm (T.narrow b) sort (suc n) (with_row t g) (look_is t g rows goal place s ks γ none_violated q))
      at _ q (stuck e) ih = ended Dropped e (reach-stuck (T.narrow b) sort (suc n) (with_row t g) (look_is t g rows goal place s ks γ none_helps q))
      at _ q (spent i j z e) ih = absurd (clash z)
        where
          clash : suc n ≡ 0 → ⊥
          clash z = omega arith
      at _ q (turns i j p m e) ih = on i j p q (T.narrow b j (with_row t g)) refl (move-pivot t g rows goal place s ks γ i j p (suc n) e) ih

  -- ---- the second half

  module _ (greatest : Bool) where
    abbrev z : ℤ
    z = aim_of greatest

    Climbs : ℕ → Tableau → Row → List (List ℤ) → List ℤ → List ℕ → Type 0
    Climbs n t g rows goal place = climb (T.narrow b) sort z (length t.rows) n (with_row t g) ≡ outcome_in (climb_with b kinds greatest n rows goal place)

    module _ (n : ℕ) (t : Tableau) (g : Row) (rows : List (List ℤ)) (goal : List ℤ) (place : List ℕ) (s : Shows k rows place t) (γ : Goal k sort g goal) where
      ends : (x : Outcome) → step_at b rows goal place kinds greatest n ≡ Ends x → climb (T.narrow b) sort z (length t.rows) n (with_row t g) ≡ outcome_of x goal → Climbs n t g rows goal place
      unfolding Climbs
      ends x e q = q ∙ sym (ap outcome_in (climb-ends b kinds greatest rows goal place n x e))

      best-value : aim sort z (length t.rows) (with_row t g) ≡ best → climb (T.narrow b) sort z (length t.rows) n (with_row t g) ≡ fraction_of goal
      best-value q =
          climb-best (T.narrow b) sort z (length t.rows) n (with_row t g) q
          ∙ ap fraction (get_or-append_seam t.rows g [] no_row)
          ∙ fraction-same k s.few g γ.shape
          ∙ ap fraction_of (sym γ.goal_is)

    pub climb-shown : (n : ℕ) (t : Tableau) (g : Row) (rows : List (List ℤ)) (goal : List ℤ) (place : List ℕ) → Shows k rows place t → Sorted k sort kinds place → Goal k sort g goal
        → climb (T.narrow b) sort z (length t.rows) n (with_row t g) ≡ outcome_in (climb_with b kinds greatest n rows goal place)
    unfolding Climbs
    climb-shown zero t g rows goal place s ks γ = at (aim sort z (length t.rows) (with_row t g)) refl (aimed k sort t g rows goal place kinds s ks γ greatest b 0)
      where
        at : (a : Aim) → aim sort z (length t.rows) (with_row t g) ≡ a → Aimed k sort t g rows goal place kinds s ks γ greatest b 0 a → Climbs 0 t g rows goal place
        at _ q (at-best e) = ends 0 t g rows goal place s γ O.Best e (best-value 0 t g rows goal place s γ q)
        at _ q (no_stop e) = ends 0 t g rows goal place s γ O.Endless e (climb-endless (T.narrow b) sort z (length t.rows) 0 (with_row t g) q)
        at _ q (Choices.spent i j x e) = ends 0 t g rows goal place s γ O.Long e (climb-long (T.narrow b) sort z (length t.rows) i j (with_row t g) q)
        at _ q (Choices.turns i j p m e) = absurd (m refl)
    climb-shown (suc n) t g rows goal place s ks γ = at (aim sort z (length t.rows) (with_row t g)) refl (aimed k sort t g rows goal place kinds s ks γ greatest b (suc n)) (climb-shown n)
      where
        Next : Type 0
        Next = (t : Tableau) (g : Row) (rows : List (List ℤ)) (goal : List ℤ) (place : List ℕ) → Shows k rows place t → Sorted k sort kinds place → Goal k sort g goal → Climbs n t g rows goal place

        on : (i j : ℕ) → X.Pivot i j t → aim sort z (length t.rows) (with_row t g) ≡ turn i j → (c : Bool) → T.narrow b j (with_row t g) ≡ c → step_at b rows goal place kinds greatest (suc n) ≡ cond c (TurnsBy (row_var t i) (col_var t j)) (Ends O.Wide) → Next → Climbs (suc n) t g rows goal place
        on i j p q false f e ih = ends (suc n) t g rows goal place s γ O.Wide e (climb-wide (T.narrow b) sort z (length t.rows) n i j (with_row t g) q f)
        on i j p q true f e ih =
            let v = row_var t i in
            let w = col_var t j in
            climb-step (T.narrow b) sort z (length t.rows) n i j (with_row t g) q f
            ∙ ap₂ (λ (m : ℕ) (u : Tableau). climb (T.narrow b) sort z m n u) (sym (count' t g rows goal place s ks γ i j p)) (exchanged t g rows goal place s ks γ i j p)
            ∙ ih (exchange i j t) (crossed i j t g p.row) (pivot_rows rows place v w) (pivot_goal rows goal place v w) (pivot_place place v w) (shows' t g rows goal place s ks γ i j p) (sorted' t g rows goal place s ks γ i j p) (γ' t g rows goal place s ks γ i j p)
            ∙ ap outcome_in (climb-more b kinds greatest rows goal place n v w e)

        at : (a : Aim) → aim sort z (length t.rows) (with_row t g) ≡ a → Aimed k sort t g rows goal place kinds s ks γ greatest b (suc n) a → Next → Climbs (suc n) t g rows goal place
        at _ q (at-best e) ih = ends (suc n) t g rows goal place s γ O.Best e (best-value (suc n) t g rows goal place s γ q)
        at _ q (no_stop e) ih = ends (suc n) t g rows goal place s γ O.Endless e (climb-endless (T.narrow b) sort z (length t.rows) (suc n) (with_row t g) q)
        at _ q (Choices.spent i j x e) ih = absurd (clash x)
          where
            clash : suc n ≡ 0 → ⊥
            clash x = omega arith
        at _ q (Choices.turns i j p m e) ih = on i j p q (T.narrow b j (with_row t g)) refl e ih

    -- ---- both

    -- by the verdict of the first half
    verdicts : (v : Verdict) (x : Extreme)
        → ◌≡◌ {A = Extreme} (elim v [ Point ↦ x | Dropped ↦ empty | Long ↦ too_long | Wide ↦ too_wide ]) (elim (verdict_of v) [ T.point ↦ x | T.dropped ↦ empty | T.long ↦ too_long | T.wide ↦ too_wide ])
    verdicts Point x = refl
    verdicts Dropped x = refl
    verdicts Long x = refl
    verdicts Wide x = refl

    pub halves-shown : (t : Tableau) (g : Row) (rows : List (List ℤ)) (goal : List ℤ) (place : List ℕ) → Shows k rows place t → Sorted k sort kinds place → Goal k sort g goal
        → halves b kinds greatest rows goal place ≡ climbed (T.narrow b) sort z (length t.rows) (reach (T.narrow b) sort 200 (with_row t g))
    unfolding halves
    halves-shown t g rows goal place s ks γ =
        let o : Ending = reach_with b kinds 200 rows goal place in
        let e : T.Ending = reach (T.narrow b) sort 200 (with_row t g) in
        let r : Reached (length t.rows) e o = reach-shown 200 t g rows goal place s ks γ in
        let y : Extreme = climb (T.narrow b) sort z (length t.rows) e.left e.tableau in
        let x : outcome_in (climb_with b kinds greatest o.left o.rows o.goal o.place) ≡ y =
        sym (climb-shown o.left r.t r.g o.rows o.goal o.place r.shows r.sorted r.goal)
        ∙ ap₂ (λ (m n : ℕ). climb (T.narrow b) sort z m n (with_row r.t r.g)) r.count_is r.left_is
        ∙ ap (climb (T.narrow b) sort z (length t.rows) e.left) (sym r.tableau_is) in
        verdicts o.verdict (outcome_in (climb_with b kinds greatest o.left o.rows o.goal o.place))
        ∙ ap₂ (λ (v : T.Verdict) (u : Extreme). elim v as (λ (v : T.Verdict). Extreme) [ T.point ↦ u | T.dropped ↦ empty | T.long ↦ too_long | T.wide ↦ too_wide ]) r.verdict_is x
