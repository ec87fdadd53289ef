-- The test under two bounds: carrying the tableau over from the lower bound to the higher is the test under the higher:
-- what was judged without wide keeps its judgement. Assumes nothing.
use mathlib.Core.Path.{◌≡◌, refl, sym, ap, ◌∙◌, subst}
use mathlib.Core.Bool.{Bool, true, false, ◌&&◌, ◌||◌}
use mathlib.Core.List.{List, [], ◌∷◌}
use mathlib.Core.Option.{Option}
use Prim.Native.Nat.{ℕ, zero, suc, ◌≤◌}
use native.Mathlib.Nat.{le_trans}
use lib.Dec.{T, leb, leb→le, le→leb}
use lib.IntN.{ℤ, nat_abs}
use Rattle.model.specs.Lists.{all}
use Rattle.model.specs.Sets.{Kind, BasicSet, is_zero}
use Rattle.model.proofs.Count.{from-T}
use Rattle.feasibility.specs.Tableau.{Verdict, point, dropped, long, wide, Row, Tableau, entry, exchange, narrow, bound, Look, none_violated, none_helps, pivot, look, Ending, reach, run, carried, sorts, begin, ends_at, test_at, test_ends, test}
use Rattle.feasibility.proofs.Reach.{reach-calm, reach-stuck, reach-long, reach-wide, reach_step}

-- ---- two bounds

abbrev pub Implies : (ℕ → Tableau → Bool) → (ℕ → Tableau → Bool) → Type 0
Implies fits fits' = (j : ℕ) (t : Tableau) → T (fits j t) → T (fits' j t)

abbrev NotWide : Verdict → Type 0
NotWide point = Unit {0}
NotWide dropped = Unit {0}
NotWide long = Unit {0}
NotWide wide = ⊥

module _ (fits fits' : ℕ → Tableau → Bool) (more : Implies fits fits') (sort : ℕ → Option Kind) where
  -- carrying over is the test under the second bound: its answer, the pivots left and the tableau
  pub carried-run : (n : ℕ) (t : Tableau) → carried fits' sort (reach fits sort n t) ≡ reach fits' sort n t
  carried-run zero t = at (look sort t) refl
    where
      at : (l : Look) → look sort t ≡ l → carried fits' sort (reach fits sort 0 t) ≡ reach fits' sort 0 t
      at none_violated q = ap (carried fits' sort) (reach-calm fits sort 0 t q) ∙ sym (reach-calm fits' sort 0 t q)
      at none_helps q = ap (carried fits' sort) (reach-stuck fits sort 0 t q) ∙ sym (reach-stuck fits' sort 0 t q)
      at (pivot i j) q = ap (carried fits' sort) (reach-long fits sort i j t q) ∙ sym (reach-long fits' sort i j t q)
  carried-run (suc n) t = at (look sort t) refl (λ t'. carried-run n t')
    where
      at : (l : Look) → look sort t ≡ l → ((t' : Tableau) → carried fits' sort (reach fits sort n t') ≡ reach fits' sort n t') → carried fits' sort (reach fits sort (suc n) t) ≡ reach fits' sort (suc n) t
      at none_violated q ih = ap (carried fits' sort) (reach-calm fits sort (suc n) t q) ∙ sym (reach-calm fits' sort (suc n) t q)
      at none_helps q ih = ap (carried fits' sort) (reach-stuck fits sort (suc n) t q) ∙ sym (reach-stuck fits' sort (suc n) t q)
      at (pivot i j) q ih = on (fits j t) refl
        where
          on : (b : Bool) → fits j t ≡ b → carried fits' sort (reach fits sort (suc n) t) ≡ reach fits' sort (suc n) t
          on false z = ap (carried fits' sort) (reach-wide fits sort n i j t q z)
          on true z =
              ap (carried fits' sort) (reach_step fits sort n i j t q z) ∙ ih (exchange i j t)
              ∙ sym (reach_step fits' sort n i j t q (from-T (fits' j t) (more j t (subst T (sym z) tt))))

-- where a wide test stands: before pivot i j, which does not fit, with n + 1 pivots left
pub record Stopped (fits : ℕ → Tableau → Bool) (sort : ℕ → Option Kind) (e : Ending) : Type 0 where
  pub i : ℕ
  pub j : ℕ
  pub n : ℕ
  pub next : look sort e.tableau ≡ pivot i j
  pub unfit : fits j e.tableau ≡ false
  pub more : e.left ≡ suc n

module _ (fits : ℕ → Tableau → Bool) (sort : ℕ → Option Kind) where
  pub wide-stops : (n : ℕ) (t : Tableau) → run fits sort n t ≡ wide → Stopped fits sort (reach fits sort n t)
  wide-stops zero t e = at (look sort t) refl
    where
      at : (l : Look) → look sort t ≡ l → Stopped fits sort (reach fits sort 0 t)
      at none_violated q = absurd (subst NotWide (sym (ap (λ (e : Ending). e.verdict) (reach-calm fits sort 0 t q)) ∙ e) tt)
      at none_helps q = absurd (subst NotWide (sym (ap (λ (e : Ending). e.verdict) (reach-stuck fits sort 0 t q)) ∙ e) tt)
      at (pivot i j) q = absurd (subst NotWide (sym (ap (λ (e : Ending). e.verdict) (reach-long fits sort i j t q)) ∙ e) tt)
  wide-stops (suc n) t e = at (look sort t) refl (λ t'. wide-stops n t')
    where
      at : (l : Look) → look sort t ≡ l → ((t' : Tableau) → run fits sort n t' ≡ wide → Stopped fits sort (reach fits sort n t')) → Stopped fits sort (reach fits sort (suc n) t)
      at none_violated q ih = absurd (subst NotWide (sym (ap (λ (e : Ending). e.verdict) (reach-calm fits sort (suc n) t q)) ∙ e) tt)
      at none_helps q ih = absurd (subst NotWide (sym (ap (λ (e : Ending). e.verdict) (reach-stuck fits sort (suc n) t q)) ∙ e) tt)
      at (pivot i j) q ih = on (fits j t) refl
        where
          on : (b : Bool) → fits j t ≡ b → Stopped fits sort (reach fits sort (suc n) t)
          on false z = subst (Stopped fits sort) (sym (reach-wide fits sort n i j t q z)) (record { i = i; j = j; n = n; next = q; unfit = z; more = refl })
          on true z =
              let s = reach_step fits sort n i j t q z in
              subst (Stopped fits sort) (sym s) (ih (exchange i j t) (sym (ap (λ (e : Ending). e.verdict) s) ∙ e))

-- "go on from that very pivot": of the same row and column, where it fits the second bound
pub carried-pivot : (fits fits' : ℕ → Tableau → Bool) (sort : ℕ → Option Kind) (e : Ending) → e.verdict ≡ wide → (s : Stopped fits sort e) → fits' s.j e.tableau ≡ true
    → carried fits' sort e ≡ reach fits' sort s.n (exchange s.i s.j e.tableau)
carried-pivot fits fits' sort e w s z =
    ap (λ (v : Verdict). elim v as (λ (v : Verdict). Ending) [ point ↦ e | dropped ↦ e | long ↦ e | wide ↦ reach fits' sort e.left e.tableau ]) w
    ∙ ap (λ (n : ℕ). reach fits' sort n e.tableau) s.more
    ∙ reach_step fits' sort s.n s.i s.j e.tableau s.next z

-- what is not wide is not carried
pub carried-kept : (fits : ℕ → Tableau → Bool) (sort : ℕ → Option Kind) (e : Ending) → (e.verdict ≡ wide → ⊥) → carried fits sort e ≡ e
carried-kept fits sort e h = at e.verdict refl
  where
    at : (v : Verdict) → e.verdict ≡ v → elim v as (λ (v : Verdict). Ending) [ point ↦ e | dropped ↦ e | long ↦ e | wide ↦ reach fits sort e.left e.tableau ] ≡ e
    at point q = refl
    at dropped q = refl
    at long q = refl
    at wide q = absurd (h q)

-- ---- the bounds

and-more : (a b c d : Bool) → (T a → T c) → (T b → T d) → T (a && b) → T (c && d)
and-more true b true d f g t = g t
and-more true b false d f g t = absurd (f tt)
and-more false b c d f g t = absurd t

or-more : (c a b : Bool) → (T a → T b) → T (c || a) → T (c || b)
or-more true a b f t = tt
or-more false a b f t = f t

abbrev pub bounded : ℕ → List ℤ → Bool
bounded m zs = all (λ (z : ℤ). leb (nat_abs z) m) zs

numbers_more : (m n : ℕ) → m ≤ n → (zs : List ℤ) → T (bounded m zs) → T (bounded n zs)
numbers_more m n h [] t = tt
numbers_more m n h (z ∷ zs) t =
    and-more (leb (nat_abs z) m) (bounded m zs) (leb (nat_abs z) n) (bounded n zs) (λ x. le→leb (nat_abs z) n (le_trans (leb→le (nat_abs z) m x) h)) (numbers_more m n h zs) t

pub narrow-more : (m n : ℕ) → m ≤ n → Implies (narrow m) (narrow n)
narrow-more m n h j t = rows t.rows
  where
    Fine : ℕ → Row → Bool
    Fine m r = is_zero (entry r j) || bounded m (r.den ∷ r.nums)

    rows : (rs : List Row) → T (all (Fine m) rs) → T (all (Fine n) rs)
    rows [] t = tt
    rows (r ∷ rs) t =
        and-more (Fine m r) (all (Fine m) rs) (Fine n r) (all (Fine n) rs)
        (or-more (is_zero (entry r j)) (bounded m (r.den ∷ r.nums)) (bounded n (r.den ∷ r.nums)) (numbers_more m n h (r.den ∷ r.nums))) (rows rs) t

-- ---- the test

-- starting over at 128 bits would end the same
pub carried-is : (b : BasicSet) → test_ends b ≡ ends_at 128 b
unfolding test_ends ends_at
carried-is b = carried-run (narrow (bound 64)) (narrow (bound 128)) (narrow-more (bound 64) (bound 128) (leb→le (bound 64) (bound 128) tt)) (sorts b) 200 (begin b)

pub test-128 : (b : BasicSet) → test b ≡ test_at 128 b
test-128 b = ap (λ (e : Ending). e.verdict) (carried-is b)

-- what was judged without wide keeps its judgement: answer, pivots left and tableau
pub judgement-kept : (b : BasicSet) → (test_at 64 b ≡ wide → ⊥) → test_ends b ≡ ends_at 64 b
unfolding test_ends
judgement-kept b h = carried-kept (narrow (bound 128)) (sorts b) (ends_at 64 b) h
