-- The test without limits "would drop a candidate that comes to it exactly when no point with fractions meets its rules, as tightened, and its
-- divisions' bounds" (document 02, request 14): of any candidate, of one of an intersection, and of one of a cut.
use mathlib.Core.Path.{◌≡◌, refl, sym, ap, subst}
use mathlib.Core.Bool.{Bool, true, false, cond}
use mathlib.Core.Logic.Iff
use mathlib.Core.Logic.{◌↔◌}
use mathlib.Core.List.{List, [], ◌∷◌, ◌++◌}
use Prim.Native.Nat.{ℕ, ◌^◌, ◌≤◌}
use Rattle.model.specs.Lists.{any, cons_if, filter, is_nil}
use Rattle.model.specs.Sets.{Division, Constraint, BasicSet}
use Rattle.feasibility.specs.Tableau.{Verdict, point, dropped, long, wide}
use Rattle.algebra.specs.Tighten.{void, tight, tightened, solvable}
use Rattle.algebra.specs.Cut.{both, kept, is_kept}
use Rattle.termination.specs.Unlimited.{variables, unlimited, keeps_unlimited, NoPoint}
use Rattle.feasibility.proofs.Verdicts.{true-false}
use Rattle.termination.proofs.Judged.{drops-exactly}

is-dropped : (v : Verdict) → (is_kept v ≡ false) ↔ (v ≡ dropped)
is-dropped point = (λ e. true-false e, λ e. ap is_kept e)
is-dropped dropped = (λ e. refl, λ e. refl)
is-dropped long = (λ e. true-false e, λ e. ap is_kept e)
is-dropped wide = (λ e. true-false e, λ e. ap is_kept e)

-- as it comes to the test
pub candidate-drops-exactly : (n : ℕ) (b : BasicSet) → 2 ^ variables b ≤ n → (keeps_unlimited n b ≡ false) ↔ NoPoint b
candidate-drops-exactly n b h = Iff.trans (is-dropped (unlimited n b)) (drops-exactly b n h)

nothing_left : (k : Bool) (b : BasicSet) → (cons_if k b [] ≡ []) ↔ (k ≡ false)
nothing_left true b = (λ e. sym (ap is_nil e), λ e. true-false e)
nothing_left false b = (λ e. refl, λ e. refl)

-- a pair of an intersection, joined: "the rest after 10's join and candidate limits" is tightened, and not void
pub pair-drops-exactly : (n : ℕ) (a b : BasicSet) → any void (both a b).constraints ≡ false → 2 ^ variables (tightened (both a b)) ≤ n
    → (filter (keeps_unlimited n) (solvable (both a b)) ≡ []) ↔ NoPoint (tightened (both a b))
pair-drops-exactly n a b e h =
    let c : BasicSet = tightened (both a b) in
    subst (λ (v : Bool). (filter (keeps_unlimited n) (cond v [] (c ∷ [])) ≡ []) ↔ NoPoint c) (sym e) (Iff.trans (nothing_left (keeps_unlimited n c) c) (candidate-drops-exactly n c h))

-- an opposite o in a cut over the working rules w, which are tight
pub cut-drops-exactly : (n : ℕ) (ds : List Division) (w : List Constraint) (o : Constraint) → 2 ^ variables (record { divisions = ds; constraints = w ++ (tight o ∷ []) }) ≤ n
    → (kept (keeps_unlimited n) ds w (o ∷ []) ≡ []) ↔ NoPoint (record { divisions = ds; constraints = w ++ (tight o ∷ []) })
cut-drops-exactly n ds w o h =
    let c : BasicSet = record { divisions = ds; constraints = w ++ (tight o ∷ []) } in
    Iff.trans (nothing_left (keeps_unlimited n c) c) (candidate-drops-exactly n c h)
