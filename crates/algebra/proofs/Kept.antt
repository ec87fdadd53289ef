-- A basic set with an integer point is kept; so the operations with the test for fractions have the points that they should.
use mathlib.Core.Path.{◌≡◌, refl, sym, subst}
use mathlib.Core.Bool.{Bool, true, false, not, ◌&&◌}
use mathlib.Core.List.{List}
use Prim.Native.Nat.{ℕ, ◌≤◌, zero-le}
use native.Mathlib.Nat.{le_refl, le_of_eq}
use lib.Dec.{T}
use lib.IntN.{ℤ}
use lib.ListN.{length}
use Rattle.model.specs.Lists.{all}
use Rattle.model.specs.Sets.{BasicSet, Set, in_basic, in_set, well_formed, whole}
use Rattle.model.specs.Existential.{Exists}
use Rattle.feasibility.specs.Tableau.{Verdict, point, dropped, long, wide, test}
use Rattle.algebra.specs.Cut.{is_kept, keeps, cut_all, difference, intersection, complement}
use Rattle.algebra.specs.Levels.{Disjoint}
use Rattle.model.proofs.Count.{ind, count, and_left, alone}
use Rattle.model.proofs.Values.{divides, fits}
use Rattle.model.proofs.Existential.{member-exists, remainders-length, whole_meets}
use Rattle.algebra.proofs.Cutting.{cut_all-count, difference-in, intersection-in, complement-in}
use Rattle.feasibility.proofs.Start.{dropped-sound}

-- a point of a basic set is, with its divisions, a rational point over 1, and so the test does not drop it
pub keeps-sound : (x : List ℤ) → length x ≤ 8 → (b : BasicSet) → T (well_formed b) → T (in_basic x b) → T (keeps b)
keeps-sound x h b ok t = at (test b) refl
  where
    w : Exists x b
    w = member-exists x b (and_left (all divides b.divisions) (all (fits b.divisions) b.constraints) ok) t

    at : (v : Verdict) → test b ≡ v → T (is_kept v)
    at point e = tt
    at dropped e =
        dropped-sound b e (whole x w.q) h (le_of_eq (remainders-length x b.divisions w.q w.remainders))
        (whole_meets b x w)
    at long e = tt
    at wide e = tt

-- ---- the operations of document 01

module _ (x : List ℤ) (h : length x ≤ 8) where
  pub difference-points : (s t : Set) → T (all well_formed s) → T (all well_formed t) → in_set x (difference keeps s t) ≡ (in_set x s && not (in_set x t))
  difference-points = difference-in keeps x (keeps-sound x h)

  pub intersection-points : (s t : Set) → T (all well_formed s) → T (all well_formed t) → in_set x (intersection keeps s t) ≡ (in_set x s && in_set x t)
  intersection-points = intersection-in keeps x (keeps-sound x h)

  pub complement-points : (s : Set) → T (all well_formed s) → in_set x (complement keeps s) ≡ not (in_set x s)
  complement-points = complement-in keeps x (keeps-sound x h)

  -- the pieces cut from one basic set, after any number of cutters: a point is in one of them at most
  pieces-apart : (cs : List BasicSet) → T (all well_formed cs) → (a : BasicSet) → T (well_formed a) → count (in_basic x) (cut_all keeps cs a) ≤ 1
  pieces-apart cs t a ok = subst (λ (n : ℕ). n ≤ 1) (sym (cut_all-count keeps x (keeps-sound x h) cs t a ok)) (at_most (in_basic x a && not (in_set x cs)))
    where
      at_most : (b : Bool) → ind b ≤ 1
      at_most true = le_refl 1
      at_most false = zero-le

pub pieces-disjoint : (cs : List BasicSet) → T (all well_formed cs) → (a : BasicSet) → T (well_formed a)
    → Disjoint (cut_all keeps cs a)
pieces-disjoint cs t a ok x h d = alone (in_basic x) d (cut_all keeps cs a) (pieces-apart x h cs t a ok)
