-- The greatest sum of coefficients times sides: at 0, its size, and what it gains where one side moves.
use mathlib.Core.Path.{◌≡◌, refl, sym, ap, ap₂, ◌∙◌}
use mathlib.Core.Bool.{Bool, true, false, cond}
use mathlib.Core.List.{List, [], ◌∷◌}
use Prim.Native.Nat.{ℕ, zero, suc, ◌*◌, ◌<◌}
use native.Mathlib.Omega.{arith}
use lib.IntN.{ℤ, pos, ◌+ℤ◌, ◌*ℤ◌, +ℤ_assoc}
use lib.Signed.{non_neg}
use lib.ListN.{length, get_or, set}
use mir.Syntax.{w64}
use mir.Val.{SFits, to_z, of_z}
use Rattle.integers.specs.Z.{Within}
use Rattle.integers.specs.Mach.{to_z_of_z}
use Rattle.integers.specs.Ring.{ring, quote}
use Rattle.integers.specs.Size.{within-mono, within-add}
use Rattle.model.specs.Sets.{Constraint}
use Rattle.bounds.specs.Ends.{AllWithin, best, gain}
use Rattle.bounds.proofs.Extremes.{term-within}

pick_same : (b : Bool) (z : ℤ) → cond b z z ≡ z
pick_same true z = refl
pick_same false z = refl

pub best-zero : (cs u v : List ℤ) → ((i : ℕ) → get_or u i (pos 0) ≡ pos 0) → ((i : ℕ) → get_or v i (pos 0) ≡ pos 0) → best cs u v ≡ pos 0
best-zero [] u v h k = refl
best-zero (a ∷ cs) [] v h k = refl
best-zero (a ∷ cs) (x ∷ u) [] h k = refl
best-zero (a ∷ cs) (x ∷ u) (y ∷ v) h k =
    ap₂ (λ (p q : ℤ). a *ℤ cond (non_neg a) p q +ℤ best cs u v) (h 0) (k 0) ∙ ap (λ (p : ℤ). a *ℤ p +ℤ best cs u v) (pick_same (non_neg a) (pos 0))
    ∙ ap (λ (p : ℤ). a *ℤ pos 0 +ℤ p) (best-zero cs u v (λ i. h (suc i)) (λ i. k (suc i))) ∙ ring (a ∷ []) (search quote depth 30) tt

all_tail : {m : ℕ} {z : ℤ} {x : List ℤ} → AllWithin m (z ∷ x) → AllWithin m x
all_tail a = record { at = λ i. a.at (suc i) }

pub best-within : (B : ℕ) (cs u v : List ℤ) → AllWithin 32768 cs → AllWithin B u → AllWithin B v → Within (length u * (32768 * B)) (best cs u v)
best-within B [] u v h k l = record { size = omega arith }
best-within B (a ∷ cs) [] v h k l = record { size = omega arith }
best-within B (a ∷ cs) (x ∷ u) [] h k l = record { size = omega arith }
best-within B (a ∷ cs) (x ∷ u) (y ∷ v) h k l =
    within-mono (omega arith) (within-add (term-within (h.at 0) (k.at 0) (l.at 0)) (best-within B cs u v (all_tail h) (all_tail k) (all_tail l)))

-- ---- one side moves
none-gained : (f : ℤ) → pos 0 ≡ pos 0 +ℤ pos 0 *ℤ f
none-gained f = ring (f ∷ []) (search quote depth 30) tt

pub best-move : (k : ℕ) (cs u v : List ℤ) (f t : ℤ) → k < length u → k < length v → best cs (set u k (get_or u k (pos 0) +ℤ f)) (set v k (get_or v k (pos 0) +ℤ t)) ≡ best cs u v +ℤ gain k f t cs
best-move zero [] u v f t h l = none-gained f
best-move (suc k) [] u v f t h l = none-gained f
best-move k (a ∷ cs) [] v f t h l = absurd (omega arith)
best-move k (a ∷ cs) (x ∷ u) [] f t h l = absurd (omega arith)
best-move zero (a ∷ cs) (x ∷ u) (y ∷ v) f t h l = by (non_neg a)
  where
    by : (b : Bool) → a *ℤ cond b (x +ℤ f) (y +ℤ t) +ℤ best cs u v ≡ (a *ℤ cond b x y +ℤ best cs u v) +ℤ a *ℤ cond b f t
    by true = ring (a ∷ x ∷ f ∷ best cs u v ∷ []) (search quote depth 30) tt
    by false = ring (a ∷ y ∷ t ∷ best cs u v ∷ []) (search quote depth 30) tt
best-move (suc k) (a ∷ cs) (x ∷ u) (y ∷ v) f t h l =
    ap (λ (z : ℤ). a *ℤ cond (non_neg a) x y +ℤ z) (best-move k cs u v f t (omega arith) (omega arith)) ∙ sym (+ℤ_assoc (a *ℤ cond (non_neg a) x y) (best cs u v) (gain k f t cs))

-- as a machine reads back what a call is given
pub gain-back : {z f t : ℤ} (k : ℕ) (cs : List ℤ) → SFits w64 z → SFits w64 f → SFits w64 t → to_z w64 (of_z w64 z) +ℤ gain k (to_z w64 (of_z w64 f)) (to_z w64 (of_z w64 t)) cs ≡ z +ℤ gain k f t cs
gain-back k cs hz hf ht = rw (to_z_of_z hz, to_z_of_z hf, to_z_of_z ht)

-- an end x of a constraint r: g is its axes' part with the constant, moved from z, and the sides of the divisions go from v to u
pub end_is : (k : ℕ) (r : Constraint) (x g z f t : ℤ) (u v : List ℤ) → SFits w64 z → SFits w64 f → SFits w64 t → SFits w64 g
    → g ≡ r.constant +ℤ (to_z w64 (of_z w64 z) +ℤ gain k (to_z w64 (of_z w64 f)) (to_z w64 (of_z w64 t)) r.axes) → x ≡ to_z w64 (of_z w64 g) +ℤ best r.divisions u v
    → x ≡ r.constant +ℤ (z +ℤ gain k f t r.axes) +ℤ best r.divisions u v
end_is k r x g z f t u v hz hf ht hg eg ex =
    ex ∙ ap (λ (y : ℤ). y +ℤ best r.divisions u v) (to_z_of_z hg ∙ eg ∙ ap (λ (y : ℤ). r.constant +ℤ y) (gain-back k r.axes hz hf ht))
