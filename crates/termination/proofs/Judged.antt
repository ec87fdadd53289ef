-- No tableau twice (document 02, request 14), for the test for fractions: "the same choice of column variables never comes back, by the
-- lowest-number rules alone, at either word size", that is for every step 4; "without the pivot and number limits the test would always
-- judge", and drops exactly when no point with fractions meets the basic set.
use mathlib.Core.Path.{◌≡◌, refl, sym, ap, ◌∙◌, subst}
use mathlib.Core.Bool.{Bool, true, false, ◌&&◌}
use mathlib.Core.Logic.{◌⊎◌, inl, inr, ⊎_elim, ◌↔◌}
use mathlib.Core.List.{List, [], ◌∷◌}
use mathlib.Core.Option.{Option, some}
use Prim.Native.Nat.{ℕ, zero, suc, ◌+◌, ◌^◌, ◌≤◌, ◌<◌}
use native.Mathlib.Nat.{le_of_eq, le_of_suc-le-suc, not-suc-le-zero}
use native.Mathlib.Omega.{arith}
use lib.Dec.{T}
use lib.IntN.{ℤ}
use lib.ListN.{length, drop_of_length-le}
use Rattle.model.specs.Lists.{all}
use Rattle.model.specs.Sets.{Kind, Division, Constraint, BasicSet, absent, over_axes, conditions, is_zero}
use Rattle.feasibility.specs.Tableau.{Verdict, point, dropped, long, wide, Tableau, exchange, narrow, bound, Look, none_violated, none_helps, pivot, look, Ending, reach, run, sorts, begin, ends_at, test_ends, test, pivots_made}
use Rattle.termination.specs.Unlimited.{pivot_of, test_step, visited, after, after_carried, SameColumns, always, variables, unlimited, NoPoint}
use Rattle.model.proofs.Count.{and-make, from-T}
use Rattle.feasibility.proofs.Exchange.{Solves, exchange-on, exchange-back}
use Rattle.feasibility.proofs.Verdicts.{Turn, Found, turns, looked, some-none}
use Rattle.feasibility.proofs.Reach.{reach-calm, reach-stuck, reach-long, reach-wide, reach_step}
use Rattle.feasibility.proofs.Sizes.{Implies, test-128}
use Rattle.feasibility.proofs.Stops.{Pivots, there, exchanged, pivots-made}
use Rattle.feasibility.proofs.Start.{run-empty}
use Rattle.feasibility.proofs.Points.{basic-solves, Witness, run-witness}
use Rattle.feasibility.proofs.Sound.{Sound, exchange-sound, start-sound}
use Rattle.optimum.proofs.Feasible.{basic, over}
use Rattle.termination.proofs.Columns.{Numbered, numbered-on, numbered-start}
use Rattle.termination.proofs.Trail.{Walk, Trail, no_return}
use Rattle.termination.proofs.Visits.{visited-step, carried-visits, Search, and-on, not-twice, not-twice-carried, trail-short}

-- ---- the steps of the test

abbrev walk : (ℕ → Option Kind) → Walk
walk sort =
    record {
      Good = Sound;
      Turns = Turn sort;
      Same = λ t u. (x : ℕ → ℤ) (D : ℤ) → Solves x D t.cols t.rows → Solves x D u.cols u.rows;
      pivot = λ i j t turn. turn.pivots;
      sound = λ t g. g;
      onward = λ i j t turn g. exchange-sound i j t turn.pivots g;
      self = λ t x D h. h;
      on = λ i j t u turn g k x D h. exchange-on i j t turn.pivots g.shaped x D (k x D h);
      back = λ i j t u turn g k x D h. k x D (exchange-back i j t turn.pivots g.shaped x D h);
      never = λ i j t g turn i' j' u g' turn' e l l' k b.
          Rattle.termination.proofs.Cycle.never sort t g i j turn u g' i' j' turn' e (k (basic t g) (over t) (basic-solves t g.shaped g.placed)) l b;
    }

-- the row and column that steps 1 and 2 find
pub look-turn : (sort : ℕ → Option Kind) (i j : ℕ) (t : Tableau) → test_step sort t ≡ some (i, j) → Turn sort i j t
look-turn sort i j t q = at (look sort t) (looked sort t) q
  where
    at : (l : Look) → Found sort t l → pivot_of l ≡ some (i, j) → Turn sort i j t
    at none_violated f q = some-none (sym q)
    at none_helps f q = some-none (sym q)
    at (pivot _ _) (turns a b turn) q = let p : ◌≡◌ {A = ℕ × ℕ} (a, b) (i, j) = cc in subst (λ (p : ℕ × ℕ). Turn sort p.0 p.1 t) p turn

abbrev pub testing : (sort : ℕ → Option Kind) (N : ℕ) → Search (test_step sort) N
testing sort N =
    record {
      Good = λ t. Sound t × Numbered N t;
      Turns = Turn sort;
      turned = λ i j t g q. look-turn sort i j t q;
      pivot = λ i j t turn. turn.pivots;
      onward = λ i j t turn g. (exchange-sound i j t turn.pivots g.0, numbered-on N i j t turn.pivots g.1);
      numbered = λ t g. g.1;
      no_return = λ n t u g s h. no_return (walk sort) N n t u g.0 s h;
    }

-- ---- the same choice of column variables never comes back

-- t after m pivots from s, u after n: the same column variables, then the same place of the test
pub no-tableau-twice-from : (fits : ℕ → Tableau → Bool) (sort : ℕ → Option Kind) (N m n : ℕ) (s t u : Tableau) → Sound s → Numbered N s
    → after fits sort m s ≡ some t → after fits sort n s ≡ some u → SameColumns t u → m ≡ n
no-tableau-twice-from fits sort N m n s t u g k = not-twice (test_step sort) N (testing sort N) fits m n s t u (g, k)

module _ (b : BasicSet) where
  begin-sound : Sound (begin b)
  begin-sound = start-sound (length b.divisions) (conditions b)

  begin-numbered : Numbered (variables b) (begin b)
  begin-numbered = numbered-start (length b.divisions) (conditions b)

  pub no-tableau-twice : (fits : ℕ → Tableau → Bool) (m n : ℕ) (t u : Tableau) → after fits (sorts b) m (begin b) ≡ some t → after fits (sorts b) n (begin b) ≡ some u → SameColumns t u → m ≡ n
  no-tableau-twice fits m n t u = no-tableau-twice-from fits (sorts b) (variables b) m n (begin b) t u begin-sound begin-numbered

  -- at 64 bits, at 128 bits, and without a bound
  pub no-tableau-twice-64 : (m n : ℕ) (t u : Tableau) → after (narrow (bound 64)) (sorts b) m (begin b) ≡ some t → after (narrow (bound 64)) (sorts b) n (begin b) ≡ some u → SameColumns t u → m ≡ n
  no-tableau-twice-64 = no-tableau-twice (narrow (bound 64))

  pub no-tableau-twice-128 : (m n : ℕ) (t u : Tableau) → after (narrow (bound 128)) (sorts b) m (begin b) ≡ some t → after (narrow (bound 128)) (sorts b) n (begin b) ≡ some u → SameColumns t u → m ≡ n
  no-tableau-twice-128 = no-tableau-twice (narrow (bound 128))

  pub no-tableau-twice-unlimited : (m n : ℕ) (t u : Tableau) → after always (sorts b) m (begin b) ≡ some t → after always (sorts b) n (begin b) ≡ some u → SameColumns t u → m ≡ n
  no-tableau-twice-unlimited = no-tableau-twice always

  -- carried over from 64 to 128 bits
  pub no-tableau-twice-carried : (m n : ℕ) (t u : Tableau) → after_carried (sorts b) m (begin b) ≡ some t → after_carried (sorts b) n (begin b) ≡ some u → SameColumns t u → m ≡ n
  no-tableau-twice-carried m n t u = not-twice-carried (test_step (sorts b)) (variables b) (testing (sorts b) (variables b)) m n (begin b) t u (begin-sound, begin-numbered)

  -- the last of these tableaus, after the pivots that the test counts, is the one that it ends at
  pub carried-last : after_carried (sorts b) (pivots_made b) (begin b) ≡ some (test_ends b).tableau
  unfolding visited
  carried-last = carried-visits (test_step (sorts b)) (pivots_made b) (begin b) ∙ last (pivots_made b) (begin b) (pivots-made b)
    where
      last : (n : ℕ) (t : Tableau) → Pivots (narrow (bound 128)) (sorts b) (test_ends b).tableau n t → after (narrow (bound 128)) (sorts b) n t ≡ some (test_ends b).tableau
      last zero _ there = refl
      last (suc n) t (exchanged i j q f c) = visited-step (test_step (sorts b)) (narrow (bound 128)) n i j t (ap pivot_of q) f ∙ last n (exchange i j t) c

-- ---- without limits

abbrev pub IsJudged : Verdict → Type 0
IsJudged v = (v ≡ point) ⊎ (v ≡ dropped)

module _ (sort : ℕ → Option Kind) (N : ℕ) where
  abbrev Good : Tableau → Type 0
  Good t = Sound t × Numbered N t

  -- judged, with l pivots left
  abbrev Answers : ℕ → Ending → Type 0
  Answers l e = IsJudged e.verdict × (l ≤ e.left)

  -- where every trail is shorter than a
  answers : (a l n : ℕ) (t : Tableau) → Good t → ((m : ℕ) (u : Tableau) → Trail (Turn sort) N m t u → m < a) → a + l ≤ n → Answers l (reach always sort n t)
  answers zero l n t g short h = absurd (not-suc-le-zero (short 0 t refl))
  answers (suc a) l zero t g short h = absurd (none h)
    where
      none : suc a + l ≤ 0 → ⊥
      none h = omega arith
  answers (suc a) l (suc n) t g short h = at (look sort t) refl (λ t'. answers a l n t')
    where
      fewer : l ≤ suc n
      fewer = omega arith

      rest : a + l ≤ n
      rest = omega arith

      at : (k : Look) → look sort t ≡ k → ((t' : Tableau) → Good t' → ((m : ℕ) (u : Tableau) → Trail (Turn sort) N m t' u → m < a) → a + l ≤ n → Answers l (reach always sort n t')) → Answers l (reach always sort (suc n) t)
      at none_violated q ih = subst (Answers l) (sym (reach-calm always sort (suc n) t q)) (inl refl, fewer)
      at none_helps q ih = subst (Answers l) (sym (reach-stuck always sort (suc n) t q)) (inr refl, fewer)
      at (pivot i j) q ih =
          let turn : Turn sort i j t = look-turn sort i j t (ap pivot_of q) in
          subst (Answers l) (sym (reach_step always sort n i j t q refl))
          (ih (exchange i j t) ((testing sort N).onward i j t turn g) (λ m u s. le_of_suc-le-suc (short (suc m) u (and-on (test_step sort) N (testing sort N) m i j t u g turn s))) rest)

  -- from every tableau of a test it judges, with pivots left over
  pub judges-from : (n l : ℕ) (t : Tableau) → Sound t → Numbered N t → 2 ^ N + l ≤ n → IsJudged (run always sort n t) × (l ≤ (reach always sort n t).left)
  judges-from n l t g k h = answers (2 ^ N) l n t (g, k) (λ m u s. trail-short (test_step sort) N (testing sort N) m t u (g, k) s) h

pub no_more : {M n : ℕ} → M ≤ n → M + 0 ≤ n
no_more h = omega arith

pub always-judges : (b : BasicSet) (n : ℕ) → 2 ^ variables b ≤ n → (unlimited n b ≡ point) ⊎ (unlimited n b ≡ dropped)
always-judges b n h = (judges-from (sorts b) (variables b) n 0 (begin b) (begin-sound b) (begin-numbered b) (no_more h)).0

-- ---- with a point, or without

-- so many axes that no coefficient is past the last
within-axes : {A : Type 0} (f : A → List ℤ) (l : List A) → (n : ℕ) × ((m : ℕ) → n ≤ m → T (all (λ (a : A). absent m (f a)) l))
within-axes f [] = (0, λ m h. tt)
within-axes f (a ∷ l) =
    let r = within-axes f l in
    (length (f a) + r.0, λ m h. and-make (absent m (f a)) (all (λ a. absent m (f a)) l) (short m (f a) (left (length (f a)) r.0 m h)) (r.1 m (right (length (f a)) r.0 m h)))
  where
    short : (m : ℕ) (cs : List ℤ) → length cs ≤ m → T (absent m cs)
    short m cs h = subst (λ (l : List ℤ). T (all is_zero l)) (sym (drop_of_length-le cs h)) tt

    left : (j k m : ℕ) → j + k ≤ m → j ≤ m
    left j k m h = omega arith

    right : (j k m : ℕ) → j + k ≤ m → k ≤ m
    right j k m h = omega arith

-- and an expression's
pub over-some : (b : BasicSet) (cs : List ℤ) → (n : ℕ) × T (over_axes n b) × T (absent n cs)
over-some b cs =
    let d = within-axes (λ (e : Division). e.axes) b.divisions in
    let r = within-axes (λ (r : Constraint). r.axes) b.constraints in
    let c = within-axes (λ (l : List ℤ). l) (cs ∷ []) in
    let n : ℕ = d.0 + r.0 + c.0 in (
      n,
      and-make (all (λ (e : Division). absent n e.axes) b.divisions) (all (λ (r : Constraint). absent n r.axes) b.constraints) (d.1 n (first d.0 r.0 c.0)) (r.1 n (second d.0 r.0 c.0)),
      one (absent n cs) (c.1 n (third d.0 r.0 c.0)),
    )
  where
    first : (a b c : ℕ) → a ≤ a + b + c
    first a b c = omega arith

    second : (a b c : ℕ) → b ≤ a + b + c
    second a b c = omega arith

    third : (a b c : ℕ) → c ≤ a + b + c
    third a b c = omega arith

    one : (p : Bool) → T (p && true) → T p
    one true t = tt
    one false t = t

pub point-there : (n : ℕ) (b : BasicSet) → Witness n b → NoPoint b → ⊥
point-there n b w f = f w.p (le_of_eq w.x_long) (le_of_eq w.q_long) w.meets

pub drops-exactly : (b : BasicSet) (n : ℕ) → 2 ^ variables b ≤ n → (unlimited n b ≡ dropped) ↔ NoPoint b
drops-exactly b n h = (
  run-empty always n b,
  λ f. ⊎_elim (λ e. let o = over-some b [] in absurd (point-there o.0 b (run-witness always n o.0 b o.1 e) f)) (λ e. e) (always-judges b n h),
)

-- ---- more room

abbrev pub Judging : Verdict → Type 0
Judging point = Unit {0}
Judging dropped = Unit {0}
Judging long = ⊥
Judging wide = ⊥

module _ (fits fits' : ℕ → Tableau → Bool) (more : Implies fits fits') (sort : ℕ → Option Kind) where
  of : {d e : Ending} → d ≡ e → d.verdict ≡ e.verdict
  of q = ap (λ (e : Ending). e.verdict) q

  -- a judgement stays under more room
  loosen : (m n : ℕ) (t : Tableau) (v : Verdict) → m ≤ n → Judging v → run fits sort m t ≡ v → run fits' sort n t ≡ v
  loosen zero n t v h y e = at (look sort t) refl
    where
      at : (l : Look) → look sort t ≡ l → run fits' sort n t ≡ v
      at none_violated q = of (reach-calm fits' sort n t q) ∙ sym (of (reach-calm fits sort 0 t q)) ∙ e
      at none_helps q = of (reach-stuck fits' sort n t q) ∙ sym (of (reach-stuck fits sort 0 t q)) ∙ e
      at (pivot i j) q = absurd (subst Judging (sym e ∙ of (reach-long fits sort i j t q)) y)
  loosen (suc m) zero t v h y e = absurd (not-suc-le-zero h)
  loosen (suc m) (suc n) t v h y e = at (look sort t) refl (λ t'. loosen m n t' v (le_of_suc-le-suc h) y)
    where
      at : (l : Look) → look sort t ≡ l → ((t' : Tableau) → run fits sort m t' ≡ v → run fits' sort n t' ≡ v) → run fits' sort (suc n) t ≡ v
      at none_violated q ih = of (reach-calm fits' sort (suc n) t q) ∙ sym (of (reach-calm fits sort (suc m) t q)) ∙ e
      at none_helps q ih = of (reach-stuck fits' sort (suc n) t q) ∙ sym (of (reach-stuck fits sort (suc m) t q)) ∙ e
      at (pivot i j) q ih = on (fits j t) refl
        where
          on : (b : Bool) → fits j t ≡ b → run fits' sort (suc n) t ≡ v
          on false z = absurd (subst Judging (sym e ∙ of (reach-wide fits sort m i j t q z)) y)
          on true z =
              of (reach_step fits' sort n i j t q (from-T (fits' j t) (more j t (subst T (sym z) tt))))
              ∙ ih (exchange i j t) (sym (of (reach_step fits sort m i j t q z)) ∙ e)

-- what the test judges it judges without limits
pub judged-unlimited : (n : ℕ) (b : BasicSet) (v : Verdict) → 200 ≤ n → Judging v → test b ≡ v → unlimited n b ≡ v
unfolding ends_at
judged-unlimited n b v h y e = loosen (narrow (bound 128)) always (λ j t x. tt) (sorts b) 200 n (begin b) v h y (sym (test-128 b) ∙ e)

-- enough pivots and more: the same judgement
pub enough-more : (b : BasicSet) (m n : ℕ) → 2 ^ variables b ≤ m → m ≤ n → unlimited n b ≡ unlimited m b
enough-more b m n h k = ⊎_elim (λ e. on point tt e ∙ sym e) (λ e. on dropped tt e ∙ sym e) (always-judges b m h)
  where
    on : (v : Verdict) → Judging v → unlimited m b ≡ v → unlimited n b ≡ v
    on v y e = loosen always always (λ j t x. x) (sorts b) m n (begin b) v k y e
