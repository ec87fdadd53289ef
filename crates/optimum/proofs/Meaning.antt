-- What the value search's answers mean, for any step 4 and any limit of pivots: no point with fractions of the basic set goes beyond the value,
-- some such point reaches it, it is in lowest terms; unbounded: the points' values pass every number; empty: there is none.
use mathlib.Core.Path.{◌≡◌, refl, sym, ap, ap₂, ◌∙◌, subst}
use mathlib.Core.Bool.{Bool, true, false, not}
use mathlib.Core.Logic.{◌⊎◌, inl, inr}
use mathlib.Core.List.{List, [], ◌∷◌, ◌++◌, map, tail}
use mathlib.Core.Option.{Option, none, some}
use Prim.Native.Nat.{ℕ, suc, ◌+◌, ◌≤◌, ◌<◌}
use native.Mathlib.Nat.{add-zero, add-suc, suc-add, le_of_eq}
use native.Mathlib.Omega.{arith}
use lib.Dec.{T, ltb, lt→ltb, ltb→lt, nltb→le}
use lib.IntN.{ℤ, pos, nat_abs, ◌+ℤ◌, ◌-ℤ◌, ◌*ℤ◌}
use lib.Signed.{◌≤ℤ◌, ◌<ℤ◌}
use lib.ListN.{length, get_or, length-append, get_or-eq_default}
use Rattle.integers.specs.Lin.{le, eq, lin, lia-le, lia-eq}
use Rattle.integers.specs.Order.{mul-cancel}
use Rattle.model.specs.Sets.{dot, Kind, Constraint, BasicSet, absent, over_axes, value, conditions, RationalPoint, meets_basic}
use Rattle.feasibility.specs.Tableau.{Verdict, point, dropped, long, wide, Row, Tableau, entry, constant_of, violates, helps, lowest, helpful_cols, gcd, no_row, pad, from, first_rows, start, sorts, Ending, reach}
use Rattle.feasibility.proofs.Exchange.{Holds, Solves}
use Rattle.feasibility.proofs.Verdicts.{row_var, col_var, Meets, all-away}
use Rattle.feasibility.proofs.Start.{start-values, start-meets, start-solves, start-at, start-dropped}
use Rattle.feasibility.proofs.Points.{zero-meets, Solution, Witness, witness, witness-over, witness-value, rows-from, kind_at, w-meets, basic-solves}
use Rattle.feasibility.proofs.Sound.{row_of, start-sound, first-length}
use Rattle.optimum.specs.Value.{Extreme, empty, unbounded, too_wide, too_long, attained, fraction, with_expression, extreme_by}
use Rattle.optimum.proofs.Direction.{row-eq}
use Rattle.optimum.proofs.Moves.{Stops, change}
use Rattle.optimum.proofs.Feasible.{nonneg-cancel, basic, over, over-pos, Feasible, basic-value, den_pos}
use Rattle.optimum.proofs.Lowest.{LowestTerms, lowest-terms}
use Rattle.optimum.proofs.Ray.{beyond, beyond-solves, beyond-meets, beyond-far}
use Rattle.optimum.proofs.Halves.{Same, same_self, Stage, stage-reached, stage-point, End, at_value, at-endless, at-limit, climb-end}

-- ---- numbers

to_pos : {n : ℕ} → 0 < n → pos 0 <ℤ pos n
to_pos {n} h = record { lt = lt→ltb 0 n h }

-- den·w = c·D + s, with z·s ≥ 0, and c over den is p over q
scaled : (z g p q c den w D s : ℤ) → pos 0 <ℤ g → g *ℤ p ≡ c → g *ℤ q ≡ den → den *ℤ w ≡ c *ℤ D +ℤ s → pos 0 ≤ℤ (z *ℤ s) → pos 0 ≤ℤ (z *ℤ (w *ℤ q -ℤ p *ℤ D))
scaled z g p q c den w D s hg tp bt e h =
    nonneg-cancel hg
    (lia-le (z ∷ g ∷ p ∷ q ∷ c ∷ den ∷ w ∷ D ∷ s ∷ []) (le h ∷ eq (ap (λ (v : ℤ). z *ℤ w *ℤ v) bt) ∷ eq (ap (λ (v : ℤ). z *ℤ D *ℤ v) tp) ∷ eq (ap (λ (v : ℤ). z *ℤ v) e) ∷ []) (search lin depth 40) (omega arith))

equal : (g p q c den w D : ℤ) → pos 0 <ℤ g → g *ℤ p ≡ c → g *ℤ q ≡ den → den *ℤ w ≡ c *ℤ D → w *ℤ q ≡ p *ℤ D
equal g p q c den w D hg tp bt e =
    mul-cancel hg
    (lia-eq (g ∷ p ∷ q ∷ c ∷ den ∷ w ∷ D ∷ []) (eq (ap (λ (v : ℤ). w *ℤ v) bt) ∷ eq (ap (λ (v : ℤ). D *ℤ v) tp) ∷ eq e ∷ []) {b = p *ℤ D *ℤ g} (search lin depth 40) (omega arith))

-- ---- which answer it is

abbrev IsValue : Extreme → Type 0
IsValue empty = ⊥
IsValue unbounded = ⊥
IsValue too_wide = ⊥
IsValue too_long = ⊥
IsValue (attained p q) = Unit {0}

abbrev IsUnbounded : Extreme → Type 0
IsUnbounded empty = ⊥
IsUnbounded unbounded = Unit {0}
IsUnbounded too_wide = ⊥
IsUnbounded too_long = ⊥
IsUnbounded (attained p q) = ⊥

abbrev IsEmpty : Extreme → Type 0
IsEmpty empty = Unit {0}
IsEmpty unbounded = ⊥
IsEmpty too_wide = ⊥
IsEmpty too_long = ⊥
IsEmpty (attained p q) = ⊥

-- ---- the last row of the first tableau

module _ (w : ℕ → ℤ) (D : ℤ) (cols : List ℕ) (k : ℕ) (e : Constraint) where
  abbrev row_for : ℕ → Row
  row_for v = record { var = v; den = pos 1; nums = e.constant ∷ pad 8 e.axes ++ pad k e.divisions }

  last_row : (v : ℕ) (rs : List Constraint) → Solves w D cols (first_rows k v (rs ++ (e ∷ []))) → Solves w D cols (first_rows k v rs) × Holds w D cols (row_for (v + length rs))
  last_row v [] h = (tt, subst (λ (u : ℕ). Holds w D cols (row_for u)) (sym (add-zero v)) h.0)
  last_row v (r ∷ rs) h =
      let x = last_row (suc v) rs h.1 in
      ((h.0, x.0), subst (λ (u : ℕ). Holds w D cols (row_for u)) (suc-add v (length rs) ∙ sym (add-suc v (length rs))) x.1)

-- where no row is violated, none past the end is either
calm : (sort : ℕ → Option Kind) (rs : List Row) → ((i : ℕ) → i < length rs → T (not (violates (sort (get_or rs i no_row).var) (constant_of (get_or rs i no_row))))) → (i : ℕ) (c : Bool) → ltb i (length rs) ≡ c
    → T (not (violates (sort (get_or rs i no_row).var) (constant_of (get_or rs i no_row))))
calm sort rs f i true q = f i (ltb→lt i (length rs) (subst T (sym q) tt))
calm sort rs f i false q = subst (λ (r : Row). T (not (violates (sort r.var) (constant_of r)))) (sym (get_or-eq_default rs no_row (nltb→le i (length rs) (subst (λ (c : Bool). T (not c)) (sym q) tt)))) (zero-meets (sort 0))

-- the basic solution of a feasible tableau meets every condition
basic-meets : (sort : ℕ → Option Kind) (k e : ℕ) (u : Tableau) (g : Feasible sort k e u) → Meets sort (basic u g.sound)
basic-meets sort k e u g v =
    w-meets u g.sound.shaped g.sound.placed sort v
    (λ i q. subst (λ (n : ℕ). T (not (violates (sort n) (constant_of (get_or u.rows i no_row))))) q (calm sort u.rows g.allowed i (ltb i (length u.rows)) refl))

module _ (b : BasicSet) (e : Constraint) where
  -- the place of the expression's row, and its variable
  abbrev pub place : ℕ
  place = length (conditions b)

  abbrev pub variable : ℕ
  variable = 8 + length b.divisions + place

  abbrev s : Tableau
  s = with_expression b e

  -- ---- the first tableau

  -- nothing is asked of the expression's variable
  pub free : sorts b variable ≡ none
  free = kind_at (8 + length b.divisions) (conditions b) e place ∙ past (conditions b)
    where
      past : (rs : List Constraint) → get_or (map (λ (r : Constraint). some r.kind) rs) (length rs) none ≡ none
      past [] = refl
      past (r ∷ rs) = past rs

  inside : place < length s.rows
  inside =
      le_of_eq (sym (first-length (length b.divisions) (8 + length b.divisions) (conditions b ++ (e ∷ []))
      ∙ length-append (conditions b) (e ∷ []) ∙ add-suc place 0 ∙ ap suc (add-zero place)))

  pub first-stage : Stage (sorts b) place variable free s s
  first-stage =
      record {
        sound = start-sound (length b.divisions) (conditions b ++ (e ∷ []));
        inside = inside;
        expression = rows-from (length b.divisions) (8 + length b.divisions) (conditions b ++ (e ∷ [])) place inside;
        same = same_self s;
      }

  -- ---- points and solutions

  -- the expression's value at a point, times the point's denominator
  abbrev pub value_at : RationalPoint → ℤ
  value_at p = value (pos p.denominator) p.x p.q e

  -- ---- what is said of points, of n axes; z is −1 for the greatest value and 1 for the least

  module _ (n : ℕ) (z : ℤ) where
    -- p over q is the value: no point goes beyond it (z times value − p/q is not below 0), some point reaches it; lowest terms
    pub record Best (p : ℤ) (q : ℕ) : Type 0 where
      pub bound : (o : RationalPoint) → length o.x ≤ 8 → length o.q ≤ length b.divisions → T (meets_basic o b)
          → pos 0 ≤ℤ (z *ℤ (value_at o *ℤ pos q -ℤ p *ℤ pos o.denominator))
      pub reached : Witness n b
      pub equals : value_at reached.p *ℤ pos q ≡ p *ℤ pos reached.p.denominator
      pub positive : 0 < q
      pub lowest : gcd (nat_abs p) q ≡ 1

    -- some point's value is beyond K
    pub record Beyond (K : ℤ) : Type 0 where
      pub point : Witness n b
      pub far : (z *ℤ (value_at point.p -ℤ K *ℤ pos point.p.denominator)) <ℤ pos 0

  -- a point's own solution
  record Solved (p : RationalPoint) : Type 0 where
    w : ℕ → ℤ
    meets : Meets (sorts b) w
    solves : Solves w (pos p.denominator) s.cols s.rows
    value : w variable ≡ value_at p

  solved : (p : RationalPoint) → length p.x ≤ 8 → length p.q ≤ length b.divisions → T (meets_basic p b) → Solved p
  solved p xlen qlen t =
      record {
        w = start-values (pos p.denominator) p.x p.q (length b.divisions) xlen qlen (conditions b) (e ∷ []);
        meets = start-meets (pos p.denominator) p.x p.q (length b.divisions) xlen qlen (conditions b) (e ∷ []) t;
        solves = start-solves (pos p.denominator) p.x p.q (length b.divisions) xlen qlen (conditions b) (e ∷ []);
        value = start-at (pos p.denominator) p.x p.q (length b.divisions) xlen qlen (conditions b) (e ∷ []) e refl;
      }

  -- of n axes: basic set and expression
  module _ (n : ℕ) (within : T (over_axes n b)) (axes : T (absent n e.axes)) where
    -- a solution's own point
    record Pointed (v D : ℤ) : Type 0 where
      witness : Witness n b
      value : value_at witness.p ≡ v
      over : pos witness.p.denominator ≡ D

    pointed : (w : ℕ → ℤ) (D : ℤ) → pos 0 <ℤ D → Meets (sorts b) w → Solves w D s.cols s.rows → Pointed (w variable) D
    pointed w D h m h' =
        let x = last_row w D s.cols (length b.divisions) e (8 + length b.divisions) (conditions b) h' in
        by (record { w = w; D = D; positive = h; meets = m; solves = x.0 }) refl refl x.1
      where
        by : (o : Solution (sorts b) (start (length b.divisions) (conditions b))) → o.w ≡ w → o.D ≡ D
            → Holds o.w o.D (from 0 (8 + length b.divisions)) (row_for w D s.cols (length b.divisions) e variable) → Pointed (w variable) D
        by o p q l = record { witness = witness b o n within; value = witness-value b o n within variable e axes l ∙ ap (λ (f : ℕ → ℤ). f variable) p; over = witness-over b o n within ∙ q }

    -- ---- the second half's ends

    module _ (z : ℤ) (nz : z ≡ pos 0 → ⊥) where
      abbrev F : Tableau → Type 0
      F t = Feasible (sorts b) place variable t

      abbrev E : Extreme → Type 0
      E x = End (sorts b) z place variable s x

      best-is : (u : Tableau) (g : F u) → Same s u → lowest 0 (helpful_cols (sorts b) z u.cols (tail (row_of u place).nums)) ≡ none → (p : ℤ) (q : ℕ) → fraction (row_of u place) ≡ attained p q → Best n z p q
      best-is u g m none-helps p q f =
          record {
            bound = λ o xlen qlen t.
                let y = solved o xlen qlen t in
                subst (λ (v : ℤ). pos 0 ≤ℤ (z *ℤ (v *ℤ pos q -ℤ p *ℤ pos o.denominator))) y.value
                (scaled z (pos l.factor) p (pos q) (constant_of (row_of u place)) (row_of u place).den (y.w variable) (pos o.denominator) (dot (tail (row_of u place).nums) (map y.w u.cols))
                (to_pos l.positive) l.top l.bottom
                (ap (λ (n : ℕ). (row_of u place).den *ℤ y.w n) (sym g.expression) ∙ row-eq u g.sound y.w (pos o.denominator) (m.on y.w (pos o.denominator) y.solves) place g.inside)
                (all-away (sorts b) y.w y.meets z u.cols (tail (row_of u place).nums) 0 none-helps));
            reached = pt.witness;
            equals =
                ap (λ (v : ℤ). v *ℤ pos q) pt.value
                ∙ equal (pos l.factor) p (pos q) (constant_of (row_of u place)) (row_of u place).den (x variable) (over u) (to_pos l.positive) l.top l.bottom (basic-value (sorts b) place variable u g)
                ∙ ap (λ (v : ℤ). p *ℤ v) (sym pt.over);
            positive = l.over;
            lowest = l.least;
          }
        where
          l : LowestTerms (constant_of (row_of u place)) (row_of u place).den p q
          l = lowest-terms (row_of u place) p q (den_pos (sorts b) place variable u g) f

          x : ℕ → ℤ
          x = basic u g.sound

          pt : Pointed (x variable) (over u)
          pt = pointed x (over u) (over-pos u g.sound) (basic-meets (sorts b) place variable u g) (m.back x (over u) (basic-solves u g.sound.shaped g.sound.placed))

      module _
          (u : Tableau) (g : F u) (m : Same s u) (j : ℕ) (jin : j < length u.cols) (helpful : T (helps (sorts b (col_var u j)) z (entry (row_of u place) j)))
          (unstopped : (i : ℕ) → i < length u.rows → Stops (sorts b (row_var u i)) (change z place j u i) → ⊥) (K : ℤ)
        where
          abbrev x : ℕ → ℤ
          x = basic u g.sound

          solves : Solves x (over u) u.cols u.rows
          solves = basic-solves u g.sound.shaped g.sound.placed

          meets : Meets (sorts b) x
          meets = basic-meets (sorts b) place variable u g

          abbrev y : ℕ → ℤ
          y = beyond (sorts b) z nz place u g.sound g.inside j jin helpful unstopped x (over u) solves meets K

          y-far : (z *ℤ (y variable -ℤ K *ℤ over u)) <ℤ pos 0
          y-far = subst (λ (v : ℕ). (z *ℤ (y v -ℤ K *ℤ over u)) <ℤ pos 0) g.expression (beyond-far (sorts b) z nz place u g.sound g.inside j jin helpful unstopped x (over u) solves meets K)

          pt : Pointed (y variable) (over u)
          pt =
              pointed y (over u) (over-pos u g.sound) (beyond-meets (sorts b) z nz place u g.sound g.inside j jin helpful unstopped x (over u) solves meets K)
              (m.back y (over u) (beyond-solves (sorts b) z nz place u g.sound g.inside j jin helpful unstopped x (over u) solves meets K))

          endless-is : Beyond n z K
          endless-is = record { point = pt.witness; far = subst (λ (v : ℤ). v <ℤ pos 0) (ap₂ (λ (v d : ℤ). z *ℤ (v -ℤ K *ℤ d)) (sym pt.value) (sym pt.over)) y-far }

      value-end : (x : Extreme) (p : ℤ) (q : ℕ) → x ≡ attained p q → E x → Best n z p q
      value-end x p q e (at_value u g m h f) = best-is u g m h p q (sym f ∙ e)
      value-end x p q e (at-endless u g m j h a c f) = absurd (subst IsValue (sym e ∙ f) tt)
      value-end x p q e (at-limit (inl f)) = absurd (subst IsValue (sym e ∙ f) tt)
      value-end x p q e (at-limit (inr f)) = absurd (subst IsValue (sym e ∙ f) tt)

      endless-end : (x : Extreme) → x ≡ unbounded → E x → (K : ℤ) → Beyond n z K
      endless-end x e (at_value u g m h f) K = absurd (subst IsUnbounded (sym e ∙ f) tt)
      endless-end x e (at-endless u g m j h a c f) K = endless-is u g m j h a c K
      endless-end x e (at-limit (inl f)) K = absurd (subst IsUnbounded (sym e ∙ f) tt)
      endless-end x e (at-limit (inr f)) K = absurd (subst IsUnbounded (sym e ∙ f) tt)

  -- ---- both halves

  module _ (fits : ℕ → Tableau → Bool) (pivots : ℕ) (z : ℤ) where
    abbrev first : Ending
    first = reach fits (sorts b) pivots s

    abbrev Ended : Extreme → Type 0
    Ended x = ((first.verdict ≡ dropped) × (x ≡ empty)) ⊎ (End (sorts b) z place variable s x ⊎ ((x ≡ too_wide) ⊎ (x ≡ too_long)))

    -- the first half has its own answers; with a point the second half goes on
    ended : Ended (extreme_by fits pivots z b e)
    unfolding extreme_by
    ended = at first.verdict refl
      where
        at : (v : Verdict) → first.verdict ≡ v → Ended (extreme_by fits pivots z b e)
        at point q =
            rw (q)
            (inr (inl (climb-end (sorts b) z place variable free s fits first.left first.tableau (stage-point (sorts b) place variable free s fits pivots first-stage q) (stage-reached (sorts b) place variable free s fits pivots first-stage).same)))
        at dropped q = rw (q) (inl (refl, refl))
        at long q = rw (q) (inr (inr (inr refl)))
        at wide q = rw (q) (inr (inr (inl refl)))

    -- empty: there is no point
    pub empty-by : extreme_by fits pivots z b e ≡ empty → (o : RationalPoint) → length o.x ≤ 8 → length o.q ≤ length b.divisions → ¬ T (meets_basic o b)
    empty-by f o xlen qlen t = at (subst Ended f ended)
      where
        none-there : first.verdict ≡ dropped → ⊥
        none-there h = start-dropped (pos o.denominator) o.x o.q (length b.divisions) xlen qlen (conditions b) (e ∷ []) fits pivots (to_pos o.positive) t h

        second : End (sorts b) z place variable s empty → ⊥
        second (at_value u g m h f) = subst IsEmpty f tt
        second (at-endless u g m j h a c f) = subst IsEmpty f tt
        second (at-limit (inl f)) = subst IsEmpty f tt
        second (at-limit (inr f)) = subst IsEmpty f tt

        at : Ended empty → ⊥
        at (inl h) = none-there h.0
        at (inr (inl h)) = second h
        at (inr (inr (inl h))) = subst IsEmpty h tt
        at (inr (inr (inr h))) = subst IsEmpty h tt

    module _ (n : ℕ) (within : T (over_axes n b)) (axes : T (absent n e.axes)) (nz : z ≡ pos 0 → ⊥) where
      -- the value: no point goes beyond it, some point reaches it, in lowest terms
      pub value-by : (p : ℤ) (q : ℕ) → extreme_by fits pivots z b e ≡ attained p q → Best n z p q
      value-by p q f = at (subst Ended f ended)
        where
          at : Ended (attained p q) → Best n z p q
          at (inl h) = absurd (subst IsValue h.1 tt)
          at (inr (inl h)) = value-end n within axes z nz (attained p q) p q refl h
          at (inr (inr (inl h))) = absurd (subst IsValue h tt)
          at (inr (inr (inr h))) = absurd (subst IsValue h tt)

      -- unbounded: the values of the points pass every number
      pub unbounded-by : extreme_by fits pivots z b e ≡ unbounded → (K : ℤ) → Beyond n z K
      unbounded-by f = at (subst Ended f ended)
        where
          at : Ended unbounded → (K : ℤ) → Beyond n z K
          at (inl h) = absurd (subst IsUnbounded h.1 tt)
          at (inr (inl h)) = endless-end n within axes z nz unbounded refl h
          at (inr (inr (inl h))) = absurd (subst IsUnbounded h tt)
          at (inr (inr (inr h))) = absurd (subst IsUnbounded h tt)
