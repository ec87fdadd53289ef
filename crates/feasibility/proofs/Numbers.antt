-- "Numbers alter neither membership nor what is dropped" (document 02, request 6): the test for fractions of a basic set without its
-- rules' numbers is the same test, pivot by pivot.
use mathlib.Core.Path.{◌≡◌, refl, ap, ap₂}
use mathlib.Core.List.{List, [], ◌∷◌, ◌++◌, map}
use mathlib.Core.Option.{Option, none, some}
use Prim.Native.Nat.{ℕ, suc, ◌+◌, ◌-◌}
use lib.ListN.{length, get_or, replicate}
use Rattle.model.specs.Limits.{most_axes, most_pivots}
use Rattle.model.specs.Sets.{Kind, Constraint, BasicSet, bounds}
use Rattle.model.specs.Numbers.{plain_rule, plain_basic}
use Rattle.feasibility.specs.Tableau.{Row, Tableau, bound, narrow, Ending, reach, carried, built, carried_built, first_rows, from, sorts, begin, ends_at, test_ends, test, pivots_made, rows_built}

-- ---- the first tableau and the conditions of its variables: l is what stands before the rules, the bounds of the divisions
rows-plain : (k v : ℕ) (l rs : List Constraint) → first_rows k v (l ++ map plain_rule rs) ≡ first_rows k v (l ++ rs)
rows-plain k v [] [] = refl
rows-plain k v [] (r ∷ rs) = ap (λ (ts : List Row). first_rows k v (r ∷ []) ++ ts) (rows-plain k (suc v) [] rs)
rows-plain k v (c ∷ l) rs = ap (λ (ts : List Row). first_rows k v (c ∷ []) ++ ts) (rows-plain k (suc v) l rs)

abbrev kinds_of : List Constraint → List (Option Kind)
kinds_of cs = map (λ (r : Constraint). some r.kind) cs

kinds-plain : (l rs : List Constraint) → kinds_of (l ++ map plain_rule rs) ≡ kinds_of (l ++ rs)
kinds-plain [] [] = refl
kinds-plain [] (r ∷ rs) = ap (λ (ks : List (Option Kind)). some r.kind ∷ ks) (kinds-plain [] rs)
kinds-plain (c ∷ l) rs = ap (λ (ks : List (Option Kind)). some c.kind ∷ ks) (kinds-plain l rs)

module _ (b : BasicSet) where
  abbrev k : ℕ
  k = length b.divisions

  pub begin-plain : begin (plain_basic b) ≡ begin b
  begin-plain = ap (λ (ts : List Row). record { cols = from 0 (most_axes + k); rows = ts }) (rows-plain k (most_axes + k) (bounds 0 b.divisions) b.constraints)

  pub sorts-plain : sorts (plain_basic b) ≡ sorts b
  sorts-plain = ap {B = ℕ → Option Kind} (λ (ks : List (Option Kind)) (v : ℕ). get_or (replicate (most_axes + k) none ++ ks) v none) (kinds-plain (bounds 0 b.divisions) b.constraints)

  -- ---- the test: its answer, the pivots left and the tableau reached, at any word size, and carried over
  pub ends-plain : (W : ℕ) → ends_at W (plain_basic b) ≡ ends_at W b
  unfolding ends_at
  ends-plain W = ap₂ (λ (s : ℕ → Option Kind) (t : Tableau). reach (narrow (bound W)) s most_pivots t) sorts-plain begin-plain

  pub test_plain : test_ends (plain_basic b) ≡ test_ends b
  unfolding test_ends
  test_plain = ap₂ (λ (s : ℕ → Option Kind) (e : Ending). carried (narrow (bound 128)) s e) sorts-plain (ends-plain 64)

  pub verdict-plain : test (plain_basic b) ≡ test b
  verdict-plain = ap (λ (e : Ending). e.verdict) test_plain

  pub pivots-plain : pivots_made (plain_basic b) ≡ pivots_made b
  pivots-plain = ap (λ (e : Ending). most_pivots - e.left) test_plain

  -- and the rows that its exchanges build
  pub built-plain : rows_built (plain_basic b) ≡ rows_built b
  unfolding rows_built
  built-plain =
      ap₂ ◌+◌ (ap₂ (λ (s : ℕ → Option Kind) (t : Tableau). built (narrow (bound 64)) s most_pivots t) sorts-plain begin-plain)
      (ap₂ (λ (s : ℕ → Option Kind) (e : Ending). carried_built (narrow (bound 128)) s e) sorts-plain (ends-plain 64))
