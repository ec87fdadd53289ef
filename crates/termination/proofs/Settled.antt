-- No tableau twice (document 02, request 14): "The same is wanted for the value search of request 11, each half on its own". No choice of column
-- variables comes back in either half; without limits the search always says empty, unbounded or the value: empty exactly when no point with
-- fractions meets the basic set, unbounded exactly when the points' values pass every number.
use mathlib.Core.Path.{◌≡◌, refl, sym, ap, ◌∙◌, subst}
use mathlib.Core.Bool.{Bool, true, false, not, cond}
use mathlib.Core.Logic.{◌⊎◌, inl, inr, ⊎_elim, ◌↔◌}
use mathlib.Core.List.{[], ◌∷◌, ◌++◌}
use mathlib.Core.Option.{Option, none, some}
use Prim.Native.Nat.{ℕ, zero, suc, ◌+◌, ◌*◌, ◌^◌, ◌≤◌, ◌<◌}
use native.Mathlib.Nat.{le_of_eq, le_of_suc-le-suc, not-suc-le-zero, add-suc}
use native.Mathlib.Omega.{arith}
use lib.Dec.{T, lt→ltb}
use lib.IntN.{ℤ, pos, negsuc, neg_ℤ, nat_abs, ◌+ℤ◌, ◌-ℤ◌, ◌*ℤ◌}
use lib.Signed.{non_neg, ◌≤ℤ◌, ◌<ℤ◌}
use lib.ListN.{length, length-append}
use Rattle.integers.specs.Lin.{le, lt, lin, lia-le, lia-no}
use Rattle.integers.specs.Order.{<ℤ-≤ℤ, pos-nonneg, mul-nonneg, mul-neg-pos}
use Rattle.model.specs.Sets.{Kind, Constraint, BasicSet, absent, over_axes, conditions, RationalPoint}
use Rattle.feasibility.specs.Tableau.{point, dropped, Tableau, exchange, Ending, reach, run, sorts}
use Rattle.optimum.specs.Value.{Extreme, empty, unbounded, attained, Aim, best, endless, turn, aim, climb, with_expression, extreme_by}
use Rattle.termination.specs.Unlimited.{turn_of, test_step, value_step, after, after_aim, after_carried, after_aim_carried, SameColumns, always, variables, unlimited_value, NoPoint}
use Rattle.model.proofs.Values.{nn}
use Rattle.feasibility.proofs.Reached.{reach-keeps}
use Rattle.feasibility.proofs.Sound.{Sound}
use Rattle.optimum.proofs.Moves.{below, Improvement}
use Rattle.optimum.proofs.Feasible.{Feasible}
use Rattle.optimum.proofs.Ray.{at_most}
use Rattle.optimum.proofs.Climb.{climb-best, climb-endless, climb-step}
use Rattle.optimum.proofs.Halves.{stage-point}
use Rattle.optimum.proofs.Meaning.{place, variable, free, first-stage, value_at, Best, Beyond, value-by, unbounded-by, empty-by}
use Rattle.termination.proofs.Columns.{Numbered, numbered-on, numbered-start}
use Rattle.termination.proofs.Trail.{Trail}
use Rattle.termination.proofs.Visits.{and-on, not-twice, not-twice-carried, trail-short}
use Rattle.termination.proofs.Judged.{testing, no-tableau-twice-from, IsJudged, judges-from, no_more, over-some, point-there}
use Rattle.termination.proofs.Climbing.{aim-turn, climbing}

-- ---- the second half without limits

-- unbounded, or a value
abbrev pub IsSettled : Extreme → Type 0
IsSettled x = (x ≡ unbounded) ⊎ ((p : ℤ) × (q : ℕ) × (x ≡ attained p q))

module _ (sort : ℕ → Option Kind) (z : ℤ) (nz : z ≡ pos 0 → ⊥) (k e : ℕ) (free : sort e ≡ none) (N : ℕ) where
  abbrev Good : Tableau → Type 0
  Good t = Feasible sort k e t × Numbered N t

  -- where every trail is shorter than a
  settles : (a n : ℕ) (t : Tableau) → Good t → ((m : ℕ) (u : Tableau) → Trail (Improvement sort z k) N m t u → m < a) → a ≤ n → IsSettled (climb always sort z k n t)
  settles zero n t g short h = absurd (not-suc-le-zero (short 0 t refl))
  settles (suc a) zero t g short h = absurd (not-suc-le-zero h)
  settles (suc a) (suc n) t g short h = at (aim sort z k t) refl (λ t'. settles a n t')
    where
      at : (l : Aim) → aim sort z k t ≡ l → ((t' : Tableau) → Good t' → ((m : ℕ) (u : Tableau) → Trail (Improvement sort z k) N m t' u → m < a) → a ≤ n → IsSettled (climb always sort z k n t')) → IsSettled (climb always sort z k (suc n) t)
      at best q ih = inr (_, _, climb-best always sort z k (suc n) t q)
      at endless q ih = inl (climb-endless always sort z k (suc n) t q)
      at (turn i j) q ih =
          let turned : Improvement sort z k i j t = aim-turn sort z nz k e free i j t g.0 (ap turn_of q) in
          let S = climbing sort z nz k e free N in
          subst IsSettled (sym (climb-step always sort z k n i j t q refl))
          (ih (exchange i j t) (S.onward i j t turned g) (λ m u s. le_of_suc-le-suc (short (suc m) u (and-on (value_step sort z k) N S m i j t u g turned s))) (le_of_suc-le-suc h))

  -- from every tableau at which it may begin
  settles-from : (n : ℕ) (t : Tableau) → Good t → 2 ^ N ≤ n → IsSettled (climb always sort z k n t)
  settles-from n t g h = settles (2 ^ N) n t g (λ m u s. trail-short (value_step sort z k) N (climbing sort z nz k e free N) m t u g s) h

-- ---- a number that no value over p over q passes

abbrev past : ℤ → ℤ → ℤ
past z a = cond (non_neg z) (neg_ℤ a) a

at_least : (p : ℤ) → neg_ℤ (pos (nat_abs p)) ≤ℤ p
at_least (pos n) = lia-le (pos n ∷ []) (le (pos-nonneg n) ∷ []) (search lin depth 30) (omega arith)
at_least (negsuc n) = lia-le (negsuc n ∷ []) [] (search lin depth 30) (omega arith)

clash : (z v D p : ℤ) (q : ℕ) → 0 < q → pos 0 <ℤ D → pos 0 ≤ℤ (z *ℤ (v *ℤ pos q -ℤ p *ℤ D)) → (z *ℤ (v -ℤ past z (pos (nat_abs p)) *ℤ D)) <ℤ pos 0 → ⊥
clash z v D p q hq hD h k = at (non_neg z) refl k
  where
    up : (z v D p a q : ℤ) → pos 0 ≤ℤ z → pos 0 ≤ℤ a → neg_ℤ a ≤ℤ p → pos 0 <ℤ q → pos 0 <ℤ D → pos 0 ≤ℤ (z *ℤ (v *ℤ q -ℤ p *ℤ D)) → (z *ℤ (v -ℤ neg_ℤ a *ℤ D)) <ℤ pos 0 → ⊥
    up z v D p a q hz ha hp hq hD h k =
        let zD : pos 0 ≤ℤ (z *ℤ D) = mul-nonneg hz (<ℤ-≤ℤ hD) in
        lia-no (z ∷ v ∷ D ∷ p ∷ a ∷ q ∷ [])
        (le h ∷ lt (mul-neg-pos k hq) ∷ le (mul-nonneg {b = p +ℤ a} zD (lia-le (p ∷ a ∷ []) (le hp ∷ []) (search lin depth 30) (omega arith))) ∷ le (mul-nonneg {b = a *ℤ (q -ℤ pos 1)} zD (mul-nonneg {b = q -ℤ pos 1} ha (lia-le (q ∷ []) (lt hq ∷ []) (search lin depth 30) (omega arith)))) ∷ [])
        (search lin depth 40) (omega arith)

    down : (z v D p a q : ℤ) → z <ℤ pos 0 → pos 0 ≤ℤ a → p ≤ℤ a → pos 0 <ℤ q → pos 0 <ℤ D → pos 0 ≤ℤ (z *ℤ (v *ℤ q -ℤ p *ℤ D)) → (z *ℤ (v -ℤ a *ℤ D)) <ℤ pos 0 → ⊥
    down z v D p a q hz ha hp hq hD h k =
        let zD : pos 0 ≤ℤ (neg_ℤ z *ℤ D) = mul-nonneg {a = neg_ℤ z} (lia-le (z ∷ []) (lt hz ∷ []) (search lin depth 30) (omega arith)) (<ℤ-≤ℤ hD) in
        lia-no (z ∷ v ∷ D ∷ p ∷ a ∷ q ∷ [])
        (le h ∷ lt (mul-neg-pos k hq) ∷ le (mul-nonneg {b = a -ℤ p} zD (lia-le (p ∷ a ∷ []) (le hp ∷ []) (search lin depth 30) (omega arith))) ∷ le (mul-nonneg {b = a *ℤ (q -ℤ pos 1)} zD (mul-nonneg {b = q -ℤ pos 1} ha (lia-le (q ∷ []) (lt hq ∷ []) (search lin depth 30) (omega arith)))) ∷ [])
        (search lin depth 40) (omega arith)

    at : (c : Bool) → non_neg z ≡ c → (z *ℤ (v -ℤ cond c (neg_ℤ (pos (nat_abs p))) (pos (nat_abs p)) *ℤ D)) <ℤ pos 0 → ⊥
    at true r k = up z v D p (pos (nat_abs p)) (pos q) (nn {z = z} (subst T (sym r) tt)) (pos-nonneg (nat_abs p)) (at_least p) (record { lt = lt→ltb 0 q hq }) hD h k
    at false r k = down z v D p (pos (nat_abs p)) (pos q) (below z (subst (λ (c : Bool). T (not c)) (sym r) tt)) (pos-nonneg (nat_abs p)) (at_most p) (record { lt = lt→ltb 0 q hq }) hD h k

-- ---- the value search of a basic set

module _ (b : BasicSet) (e : Constraint) where
  abbrev s : Tableau
  s = with_expression b e

  -- with the expression's, one more than the variables of a test
  abbrev N : ℕ
  N = suc (variables b)

  first-sound : Sound s
  first-sound = (first-stage b e).sound

  first-numbered : Numbered N s
  first-numbered = subst (λ (n : ℕ). Numbered n s) (ap (λ (n : ℕ). 8 + length b.divisions + n) (length-append (conditions b) (e ∷ []) ∙ one (length (conditions b))) ∙ add-suc (8 + length b.divisions) (length (conditions b))) (numbered-start (length b.divisions) (conditions b ++ (e ∷ [])))
    where
      one : (n : ℕ) → n + 1 ≡ suc n
      one n = omega arith

  -- ---- the first half

  pub no-tableau-twice-first : (fits : ℕ → Tableau → Bool) (m n : ℕ) (t u : Tableau) → after fits (sorts b) m s ≡ some t → after fits (sorts b) n s ≡ some u → SameColumns t u → m ≡ n
  no-tableau-twice-first fits m n t u = no-tableau-twice-from fits (sorts b) N m n s t u first-sound first-numbered

  pub no-tableau-twice-first-carried : (m n : ℕ) (t u : Tableau) → after_carried (sorts b) m s ≡ some t → after_carried (sorts b) n s ≡ some u → SameColumns t u → m ≡ n
  no-tableau-twice-first-carried m n t u = not-twice-carried (test_step (sorts b)) N (testing (sorts b) N) m n s t u (first-sound, first-numbered)

  pub first-judges : (n : ℕ) → 2 ^ N ≤ n → (run always (sorts b) n s ≡ point) ⊎ (run always (sorts b) n s ≡ dropped)
  first-judges n h = (judges-from (sorts b) N n 0 s first-sound first-numbered (no_more h)).0

  -- ---- the second half, from where the first ended with a point after at most l pivots

  module _ (fits : ℕ → Tableau → Bool) (l : ℕ) (found : (reach fits (sorts b) l s).verdict ≡ point) (z : ℤ) (nz : z ≡ pos 0 → ⊥) where
    abbrev from : Tableau
    from = (reach fits (sorts b) l s).tableau

    begins : Feasible (sorts b) (place b e) (variable b e) from × Numbered N from
    begins = (
      stage-point (sorts b) (place b e) (variable b e) (free b e) s fits l (first-stage b e) found,
      reach-keeps fits (sorts b) (Numbered N) (λ i j t turned f g. numbered-on N i j t turned.pivots g) l s first-numbered,
    )

    pub no-tableau-twice-second : (fits' : ℕ → Tableau → Bool) (m n : ℕ) (t u : Tableau) → after_aim fits' (sorts b) z (place b e) m from ≡ some t → after_aim fits' (sorts b) z (place b e) n from ≡ some u → SameColumns t u → m ≡ n
    no-tableau-twice-second fits' m n t u = not-twice (value_step (sorts b) z (place b e)) N (climbing (sorts b) z nz (place b e) (variable b e) (free b e) N) fits' m n from t u begins

    pub no-tableau-twice-second-carried : (m n : ℕ) (t u : Tableau) → after_aim_carried (sorts b) z (place b e) m from ≡ some t → after_aim_carried (sorts b) z (place b e) n from ≡ some u → SameColumns t u → m ≡ n
    no-tableau-twice-second-carried m n t u = not-twice-carried (value_step (sorts b) z (place b e)) N (climbing (sorts b) z nz (place b e) (variable b e) (free b e) N) m n from t u begins

    pub second-judges : (n : ℕ) → 2 ^ N ≤ n → IsSettled (climb always (sorts b) z (place b e) n from)
    second-judges n h = settles-from (sorts b) z nz (place b e) (variable b e) (free b e) N n from begins h

  -- ---- both halves, without limits

  module _ (z : ℤ) (nz : z ≡ pos 0 → ⊥) (n : ℕ) (enough : 2 * 2 ^ N ≤ n) where
    abbrev first : Ending
    first = reach always (sorts b) n s

    twice : (M n : ℕ) → 2 * M ≤ n → M + M ≤ n
    twice M n h = omega arith

    first-answers : IsJudged first.verdict × (2 ^ N ≤ first.left)
    first-answers = judges-from (sorts b) N n (2 ^ N) s first-sound first-numbered (twice (2 ^ N) n enough)

    -- it is empty, unbounded or a value
    pub value-always : (unlimited_value n z b e ≡ empty) ⊎ IsSettled (unlimited_value n z b e)
    unfolding extreme_by
    value-always = ⊎_elim (λ q. rw (q) (inr (second-judges always n q z nz first.left first-answers.1))) (λ q. rw (q) (inl refl)) first-answers.0

    -- empty exactly when no point with fractions meets the basic set
    pub empty-exactly : (unlimited_value n z b e ≡ empty) ↔ NoPoint b
    empty-exactly = (
      empty-by b e always n z,
      λ f.
          let o = over-some b e.axes in
          ⊎_elim (λ h. h)
          (λ c. absurd (⊎_elim
          (λ h. point-there o.0 b (unbounded-by b e always n z o.0 o.1 o.2 nz h (pos 0)).point f)
          (λ v. point-there o.0 b (value-by b e always n z o.0 o.1 o.2 nz v.0 v.1 v.2).reached f) c))
          value-always,
    )

    -- unbounded exactly when the values of points of so many axes, which basic set and expression are of, pass every number
    pub unbounded-exactly : (axes : ℕ) → T (over_axes axes b) → T (absent axes e.axes) → (unlimited_value n z b e ≡ unbounded) ↔ ((K : ℤ) → Beyond b e axes z K)
    unbounded-exactly axes within absents = (
      unbounded-by b e always n z axes within absents nz,
      λ f. ⊎_elim
          (λ h. absurd (point-there axes b (f (pos 0)).point (empty-by b e always n z h)))
          (λ c. ⊎_elim (λ h. h) (λ v. absurd (passed f v.0 v.1 (value-by b e always n z axes within absents nz v.0 v.1 v.2))) c)
          value-always,
    )
      where
        passed : ((K : ℤ) → Beyond b e axes z K) → (p : ℤ) (q : ℕ) → Best b e axes z p q → ⊥
        passed f p q v =
            let w = f (past z (pos (nat_abs p))) in
            let o : RationalPoint = w.point.p in
            clash z (value_at b e o) (pos o.denominator) p q v.positive (record { lt = lt→ltb 0 o.denominator o.positive }) (v.bound o (le_of_eq w.point.x_long) (le_of_eq w.point.q_long) w.point.meets) w.far
