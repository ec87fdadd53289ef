-- "Every dropped candidate still holds no integer point" (document 02, request 3): dropped by the test, which judges tightened rules, for a
-- void rule of the second set, or with a void basic set of the first. Of the test demand 3's sentence on dropping is claimed; a void rule
-- may have a point with fractions.
use mathlib.Core.Path.{◌≡◌, refl, sym, ap, ap₂, ◌∙◌}
use mathlib.Core.Bool.{Bool, true, false, ◌&&◌, ◌||◌}
use mathlib.Core.List.{List, [], ◌∷◌, ◌++◌}
use Prim.Native.Nat.{ℕ, ◌≤◌}
use native.Mathlib.Omega.{arith}
use lib.Dec.{T, lit<}
use lib.IntN.{ℤ, pos, negsuc}
use lib.ListN.{length, replicate}
use Rattle.model.specs.Lists.{all, any}
use Rattle.model.specs.Sets.{Division, equality, inequality, Constraint, BasicSet, holds, quotients, in_constraints, in_basic, in_set, RationalPoint, meets_basic, well_formed}
use Rattle.feasibility.specs.Tableau.{Verdict, point, dropped, long, wide, test}
use Rattle.feasibility.proofs.Start.{dropped-sound}
use Rattle.algebra.specs.Tighten.{void, tight, tightened}
use Rattle.algebra.specs.Cut.{is_kept, keeps, intersection, cut}
use Rattle.model.proofs.Count.{and-make, to-T, all_append}
use Rattle.algebra.proofs.Tightened.{inequality-solvable, tight-holds, void-all, tight-all}
use Rattle.algebra.proofs.Kept.{keeps-sound, intersection-points}

-- not kept is dropped by the test
dropped-of : (b : BasicSet) → keeps b ≡ false → test b ≡ dropped
dropped-of b e = at (test b) refl e
  where
    at : (v : Verdict) → test b ≡ v → is_kept v ≡ false → test b ≡ dropped
    at point p q = let z : ◌≡◌ {A = ℕ} 0 1 = cc in absurd (omega arith)
    at dropped p q = p
    at long p q = let z : ◌≡◌ {A = ℕ} 0 1 = cc in absurd (omega arith)
    at wide p q = let z : ◌≡◌ {A = ℕ} 0 1 = cc in absurd (omega arith)

-- demand 3's sentence: no point with fractions meets the tightened rules of a candidate that the test drops, and its divisions' bounds
pub candidate-dropped : (b : BasicSet) → keeps b ≡ false
    → (p : RationalPoint) → length p.x ≤ 8 → length p.q ≤ length b.divisions → ¬ T (meets_basic p b)
candidate-dropped b e = dropped-sound b (dropped-of b e)

module _ (x : List ℤ) where
  -- what the test drops holds no integer point
  kept-empty : length x ≤ 8 → (b : BasicSet) → T (well_formed b) → keeps b ≡ false → in_basic x b ≡ false
  kept-empty h b ok e = at (in_basic x b) refl
    where
      clash : (k : Bool) → k ≡ false → T k → ⊥
      clash true e t = let z : ◌≡◌ {A = ℕ} 0 1 = cc in omega arith
      clash false e t = t

      at : (t : Bool) → in_basic x b ≡ t → t ≡ false
      at true p = absurd (clash (keeps b) e (keeps-sound x h b ok (to-T (in_basic x b) p)))
      at false p = refl

  -- nor did its rules as they were, before tightening: of a candidate of an intersection,
  pub test-empty : length x ≤ 8 → (b : BasicSet) → T (well_formed (tightened b)) → any void b.constraints ≡ false → keeps (tightened b) ≡ false → in_basic x b ≡ false
  test-empty h b ok v e = sym (tight-all x b.divisions b.constraints v) ∙ kept-empty h (tightened b) ok e

  -- and of a candidate of a cut, with working rules w and an opposite o
  pub cut-empty : length x ≤ 8 → (ds : List Division) (w : List Constraint) (o : Constraint) → o.kind ≡ inequality → T (well_formed (record { divisions = ds; constraints = w ++ (tight o ∷ []) }))
      → keeps (record { divisions = ds; constraints = w ++ (tight o ∷ []) }) ≡ false → in_constraints x ds (w ++ (o ∷ [])) ≡ false
  cut-empty h ds w o k ok e =
      let f : Constraint → Bool = holds (pos 1) x (quotients ds x) in
      all_append f w (o ∷ []) ∙ ap (λ (t : Bool). all f w && (t && true)) (sym (tight-holds x (quotients ds x) o (inequality-solvable o k))) ∙ sym (all_append f w (tight o ∷ []))
      ∙ kept-empty h (record { divisions = ds; constraints = w ++ (tight o ∷ []) }) ok e

  -- dropped for a void rule: of a basic set of the first, or of a candidate that has joined the second's rules
  pub void-empty : (b : BasicSet) → any void b.constraints ≡ true → in_basic x b ≡ false
  void-empty b e = void-all x b.divisions b.constraints e

  -- and by whichever way: a pair of an intersection that gives no basic set shares no integer point
  pub pair-empty : length x ≤ 8 → (a b : BasicSet) → T (well_formed a) → T (well_formed b) → intersection keeps (a ∷ []) (b ∷ []) ≡ [] → (in_basic x a && in_basic x b) ≡ false
  pair-empty h a b aok bok e =
      sym (ap₂ ◌&&◌ (or-false (in_basic x a)) (or-false (in_basic x b))) ∙ sym (intersection-points x h (a ∷ []) (b ∷ []) (and-make (well_formed a) true aok tt) (and-make (well_formed b) true bok tt)) ∙ ap (in_set x) e
    where
      or-false : (p : Bool) → (p || false) ≡ p
      or-false true = refl
      or-false false = refl

-- ---- the exception: 2x − 1 = 0 has the point ½, is void, and leaves nothing of an intersection or a cut, whatever the test keeps

pub half : BasicSet
half = record { divisions = []; constraints = record { kind = equality; number = 0; constant = negsuc 0; axes = pos 2 ∷ replicate 7 (pos 0); divisions = replicate 8 (pos 0) } ∷ [] }

pub half-point : T (meets_basic (record { denominator = 2; positive = lit< tt; x = pos 1 ∷ []; q = [] }) half)
unfolding half
half-point = tt

pub half-void : any void half.constraints ≡ true
unfolding half
half-void = refl

pub half-dropped : (keep : BasicSet → Bool) (c : BasicSet) → (intersection keep (half ∷ []) (c ∷ []) ≡ []) × (cut keep half c ≡ [])
unfolding half intersection cut
half-dropped keep c = (refl, refl)
