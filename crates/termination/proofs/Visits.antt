-- The tableaus that a search comes to, one after another: what comes after each, under one bound and carried over to a second; and of a search
-- whose steps do not return (`Search`): no choice of column variables twice, and fewer than 2 to the power of N steps over N variables.
use mathlib.Core.Path.{◌≡◌, refl, sym, ap, ap₂, ◌∙◌, subst}
use mathlib.Core.Bool.{Bool, true, false}
use mathlib.Core.Logic.{⊎_elim}
use mathlib.Core.List.{List, [], ◌∷◌}
use mathlib.Core.Option.{Option, none, some}
use Prim.Native.Nat.{ℕ, zero, suc, ◌+◌, ◌-◌, ◌^◌, ◌≤◌, ◌<◌}
use native.Mathlib.Nat.{zero-add, suc-add}
use native.Mathlib.Omega.{arith}
use lib.Dec.{T, leb→le}
use lib.ListN.{length}
use Rattle.integers.specs.Part.{lt-or-le}
use Rattle.feasibility.specs.Tableau.{Tableau, exchange, narrow, bound}
use Rattle.termination.specs.Unlimited.{visited, visited_on, in_cols, SameColumns}
use Rattle.model.proofs.Count.{from-T}
use Rattle.feasibility.proofs.Exchange.{Pivot}
use Rattle.feasibility.proofs.Verdicts.{row_var, col_var, some-none}
use Rattle.feasibility.proofs.Sizes.{Implies, narrow-more}
use Rattle.termination.proofs.Columns.{At, col-no, Numbered}
use Rattle.termination.proofs.Trail.{Trail}
use Rattle.termination.proofs.Choices.{Choice, Differ, Apart, AllApart, pigeons}

-- ---- one step and the rest

module _ (step : Tableau → Option (ℕ × ℕ)) (fits : ℕ → Tableau → Bool) where
  record Next (n : ℕ) (t u : Tableau) : Type 0 where
    i : ℕ
    j : ℕ
    found : step t ≡ some (i, j)
    fit : fits j t ≡ true
    rest : visited step fits n (exchange i j t) ≡ some u

  next : (n : ℕ) (t u : Tableau) → visited step fits (suc n) t ≡ some u → Next n t u
  unfolding visited
  next n t u e = at (step t) refl
    where
      at : (o : Option (ℕ × ℕ)) → step t ≡ o → Next n t u
      at none q = let d : none ≡ some u = rw (q, visited) at e in some-none (sym d)
      at (some p) q = on (fits p.1 t) refl (rw (q, visited) at e)
        where
          on : (b : Bool) → fits p.1 t ≡ b → elim b [ false ↦ none | true ↦ visited step fits n (exchange p.0 p.1 t) ] ≡ some u → Next n t u
          on false z d = some-none (sym d)
          on true z d = record { i = p.0; j = p.1; found = q; fit = z; rest = d }

  pub visited-step : (n i j : ℕ) (t : Tableau) → step t ≡ some (i, j) → fits j t ≡ true → visited step fits (suc n) t ≡ visited step fits n (exchange i j t)
  unfolding visited
  visited-step n i j t q z = rw (q, visited) (ap (λ (b : Bool). elim b as (λ (b : Bool). Option Tableau) [ false ↦ none | true ↦ visited step fits n (exchange i j t) ]) z)

  visited-none : (n : ℕ) (t : Tableau) → step t ≡ none → visited step fits (suc n) t ≡ none
  unfolding visited
  visited-none n t q = rw (q, visited) refl

  -- what comes after the tableau reached is what comes from it
  visited-plus : (m n : ℕ) (t u : Tableau) → visited step fits m t ≡ some u → visited step fits (m + n) t ≡ visited step fits n u
  unfolding visited
  visited-plus zero n t u e = let q : t ≡ u = cc in ap₂ (λ (k : ℕ) (x : Tableau). visited step fits k x) (zero-add n) q
  visited-plus (suc m) n t u e =
      let x : Next m t u = next m t u e in
      ap (λ (k : ℕ). visited step fits k t) (suc-add m n) ∙ visited-step (m + n) x.i x.j t x.found x.fit ∙ visited-plus m n (exchange x.i x.j t) u x.rest

-- ---- two bounds

module _ (step : Tableau → Option (ℕ × ℕ)) (fits fits' : ℕ → Tableau → Bool) (more : Implies fits fits') where
  on_none : (n : ℕ) (t : Tableau) → step t ≡ none → visited_on step fits fits' (suc n) t ≡ none
  unfolding visited_on
  on_none n t q = rw (q, visited_on) refl

  abbrev on-fit : ℕ → ℕ × ℕ → Tableau → Bool → Option Tableau
  on-fit n p t b = elim b [ false ↦ visited step fits' (suc n) t | true ↦ visited_on step fits fits' n (exchange p.0 p.1 t) ]

  on_some : (n : ℕ) (p : ℕ × ℕ) (t : Tableau) (b : Bool) → step t ≡ some p → fits p.1 t ≡ b → visited_on step fits fits' (suc n) t ≡ on-fit n p t b
  unfolding visited_on
  on_some n p t b q z = rw (q, visited_on) (ap (on-fit n p t) z)

  -- the tableaus before and after a carry are those under the second bound
  visited-carried : (n : ℕ) (t : Tableau) → visited_on step fits fits' n t ≡ visited step fits' n t
  unfolding visited_on visited
  visited-carried zero t = refl
  visited-carried (suc n) t = at (step t) refl (λ t'. visited-carried n t')
    where
      at : (o : Option (ℕ × ℕ)) → step t ≡ o → ((t' : Tableau) → visited_on step fits fits' n t' ≡ visited step fits' n t') → visited_on step fits fits' (suc n) t ≡ visited step fits' (suc n) t
      at none q ih = on_none n t q ∙ sym (visited-none step fits' n t q)
      at (some p) q ih = on (fits p.1 t) refl
        where
          on : (b : Bool) → fits p.1 t ≡ b → visited_on step fits fits' (suc n) t ≡ visited step fits' (suc n) t
          on false z = on_some n p t false q z
          on true z =
              on_some n p t true q z ∙ ih (exchange p.0 p.1 t)
              ∙ sym (visited-step step fits' n p.0 p.1 t q (from-T (fits' p.1 t) (more p.1 t (subst T (sym z) tt))))

-- at 64 bits, and what does not fit at 128, is at 128
pub carried-visits : (step : Tableau → Option (ℕ × ℕ)) (n : ℕ) (t : Tableau) → visited_on step (narrow (bound 64)) (narrow (bound 128)) n t ≡ visited step (narrow (bound 128)) n t
carried-visits step = visited-carried step (narrow (bound 64)) (narrow (bound 128)) (narrow-more (bound 64) (bound 128) (leb→le (bound 64) (bound 128) tt))

-- ---- a search whose steps do not return

-- over variables below N
pub record Search (step : Tableau → Option (ℕ × ℕ)) (N : ℕ) : Type 1 where
  pub Good : Tableau → Type 0
  pub Turns : ℕ → ℕ → Tableau → Type 0
  pub turned : (i j : ℕ) (t : Tableau) → Good t → step t ≡ some (i, j) → Turns i j t
  pub pivot : (i j : ℕ) (t : Tableau) → Turns i j t → Pivot i j t
  pub onward : (i j : ℕ) (t : Tableau) → Turns i j t → Good t → Good (exchange i j t)
  pub numbered : (t : Tableau) → Good t → Numbered N t
  pub no_return : (n : ℕ) (t u : Tableau) → Good t → Trail Turns N n t u → SameColumns t u → n ≡ 0

module _ (step : Tableau → Option (ℕ × ℕ)) (N : ℕ) (S : Search step N) where
  abbrev Tr : ℕ → Tableau → Tableau → Type 0
  Tr n t u = Trail S.Turns N n t u

  -- a step and a trail
  pub and-on : (n i j : ℕ) (t u : Tableau) → S.Good t → S.Turns i j t → Tr n (exchange i j t) u → Tr (suc n) t u
  and-on n i j t u g turn s = (i, j, turn, (S.numbered t g).rows_below i (S.pivot i j t turn).row, (S.numbered t g).cols_below j (S.pivot i j t turn).col, s)

  trail-of : (fits : ℕ → Tableau → Bool) (n : ℕ) (t u : Tableau) → S.Good t → visited step fits n t ≡ some u → S.Good u × Tr n t u
  unfolding visited
  trail-of fits zero t u g e = let q : t ≡ u = cc in (subst S.Good q g, q)
  trail-of fits (suc n) t u g e =
      let x : Next step fits n t u = next step fits n t u e in
      let turn : S.Turns x.i x.j t = S.turned x.i x.j t g x.found in
      let r = trail-of fits n (exchange x.i x.j t) u (S.onward x.i x.j t turn g) x.rest in
      (r.0, and-on n x.i x.j t u g turn r.1)

  -- ---- not twice

  twice-no : (fits : ℕ → Tableau → Bool) (m l : ℕ) (s t u : Tableau) → S.Good s → visited step fits m s ≡ some t → visited step fits (m + suc l) s ≡ some u → SameColumns t u → ⊥
  twice-no fits m l s t u g e f h =
      let gt : S.Good t = (trail-of fits m s t g e).0 in
      let x = trail-of fits (suc l) t u gt (sym (visited-plus step fits m (suc l) s t e) ∙ f) in
      clash (S.no_return (suc l) t u gt x.1 h)
    where
      clash : suc l ≡ 0 → ⊥
      clash q = omega arith

  pub not-twice : (fits : ℕ → Tableau → Bool) (m n : ℕ) (s t u : Tableau) → S.Good s → visited step fits m s ≡ some t → visited step fits n s ≡ some u → SameColumns t u → m ≡ n
  not-twice fits m n s t u g e f h =
      ⊎_elim
      (λ l. absurd (twice-no fits m (n - suc m) s t u g e (subst (λ (k : ℕ). visited step fits k s ≡ some u) (gap m n l) f) h))
      (λ k.
      ⊎_elim
      (λ l. absurd (twice-no fits n (m - suc n) s u t g f (subst (λ (k : ℕ). visited step fits k s ≡ some t) (gap n m l) e) (λ v. sym (h v))))
      (λ l. omega arith) (lt-or-le n m))
      (lt-or-le m n)
    where
      gap : (a b : ℕ) → a < b → b ≡ a + suc (b - suc a)
      gap a b l = omega arith

  -- carried over from 64 to 128 bits
  pub not-twice-carried : (m n : ℕ) (s t u : Tableau) → S.Good s → visited_on step (narrow (bound 64)) (narrow (bound 128)) m s ≡ some t → visited_on step (narrow (bound 64)) (narrow (bound 128)) n s ≡ some u
      → SameColumns t u → m ≡ n
  not-twice-carried m n s t u g e f = not-twice (narrow (bound 128)) m n s t u g (sym (carried-visits step m s) ∙ e) (sym (carried-visits step n s) ∙ f)

  -- ---- how many there are: the choices of a trail are different

  choices : (n : ℕ) (t u : Tableau) → Tr n t u → List Choice
  choices zero t u s = in_cols t ∷ []
  choices (suc n) t u s = in_cols t ∷ choices n (exchange s.0 s.1 t) u s.5

  choices-length : (n : ℕ) (t u : Tableau) (s : Tr n t u) → length (choices n t u s) ≡ suc n
  unfolding choices
  choices-length zero t u s = refl
  choices-length (suc n) t u s = ap suc (choices-length n (exchange s.0 s.1 t) u s.5)

  one_more : (m : ℕ) (s t : Tableau) → Tr m s t → (i j : ℕ) → S.Turns i j t → row_var t i < N → col_var t j < N → Tr (suc m) s (exchange i j t)
  one_more zero s t p i j turn a b = subst (λ (x : Tableau). Tr 1 x (exchange i j t)) (sym p) (i, j, turn, a, b, refl)
  one_more (suc m) s t p i j turn a b = (p.0, p.1, p.2, p.3, p.4, one_more m (exchange p.0 p.1 s) t p.5 i j turn a b)

  outside : (t : Tableau) → S.Good t → (v : ℕ) → N ≤ v → in_cols t v ≡ false
  outside t g v h = col-no t v (λ (p : At t v). let b = (S.numbered t g).cols_below p.place p.inside in clash (col_var t p.place) b p.is)
    where
      clash : (c : ℕ) → c < N → c ≡ v → ⊥
      clash c b e = omega arith

  -- a tableau differs from one that is reached from it
  differ : (m : ℕ) (s t : Tableau) → S.Good s → S.Good t → Tr (suc m) s t → Differ N (in_cols s) (in_cols t)
  differ m s t g h p a = clash (S.no_return (suc m) s t g p (λ v. ⊎_elim (a v) (λ l. outside s g v l ∙ sym (outside t h v l)) (lt-or-le v N)))
    where
      clash : suc m ≡ 0 → ⊥
      clash q = omega arith

  apart-along : (m n : ℕ) (s t u : Tableau) → S.Good s → S.Good t → Tr (suc m) s t → (p : Tr n t u) → Apart N (in_cols s) (choices n t u p)
  unfolding choices
  apart-along m zero s t u g h q p = (differ m s t g h q, tt)
  apart-along m (suc n) s t u g h q p = (
    differ m s t g h q,
    apart-along (suc m) n s (exchange p.0 p.1 t) u g (S.onward p.0 p.1 t p.2 h) (one_more (suc m) s t q p.0 p.1 p.2 p.3 p.4) p.5,
  )

  all_apart : (n : ℕ) (t u : Tableau) → S.Good t → (p : Tr n t u) → AllApart N (choices n t u p)
  unfolding choices
  all_apart zero t u g p = (tt, tt)
  all_apart (suc n) t u g p =
      let g' : S.Good (exchange p.0 p.1 t) = S.onward p.0 p.1 t p.2 g in
      (apart-along 0 n t (exchange p.0 p.1 t) u g g' (p.0, p.1, p.2, p.3, p.4, refl) p.5, all_apart n (exchange p.0 p.1 t) u g' p.5)

  pub trail-short : (n : ℕ) (t u : Tableau) → S.Good t → Tr n t u → n < 2 ^ N
  trail-short n t u g p = subst (λ (l : ℕ). l ≤ 2 ^ N) (choices-length n t u p) (pigeons N (choices n t u p) (all_apart n t u g p))
