-- An expression's own numbers. Assumes nothing.
use mathlib.Core.Path.{◌≡◌, refl, ap}
use mathlib.Core.Bool.{Bool, true, false, ◌&&◌}
use mathlib.Core.List.{List, [], ◌∷◌}
use Prim.Native.Nat.{ℕ}
use native.Mathlib.Omega.{arith}
use lib.Dec.{T}
use Rattle.std.specs.List.{list_all}
use Rattle.model.specs.Lists.{all}
use Rattle.model.specs.Sets.{Constraint, absent}
use Rattle.model.proofs.Count.{and_left, and_right}
use Rattle.codec.specs.Bytes.{coefficient}
use Rattle.rules.specs.Expressions.{numbers_refusal}

-- std's test of every element recurses as this repository's does
pub all_listed : {A : Type 0} (f : A → Bool) (l : List A) → list_all f l ≡ all f l
all_listed f [] = refl
all_listed f (x ∷ l) = ap (λ b. f x && b) (all_listed f l)

-- ---- none refused

-- no 7 and no 8: an inequality's numbers, over n axes and m divisions
pub passed : (n m : ℕ) (e : Constraint) → numbers_refusal n m e ≡ 0 → T (all coefficient e.axes && all coefficient e.divisions) × T (absent n e.axes && absent m e.divisions)
passed n m e z = at (all coefficient e.axes && all coefficient e.divisions) (absent n e.axes && absent m e.divisions) refl refl
  where
    at : (a b : Bool) → (all coefficient e.axes && all coefficient e.divisions) ≡ a → (absent n e.axes && absent m e.divisions) ≡ b → T a × T b
    at true true p q = (tt, tt)
    at true false p q = absurd (let h = simp (p, q) at z in omega arith)
    at false true p q = absurd (let h = simp (p, q) at z in omega arith)
    at false false p q = absurd (let h = simp (p, q) at z in omega arith)

pub both-coefficients : (n m : ℕ) (e : Constraint) → numbers_refusal n m e ≡ 0 → T (all coefficient e.axes) × T (all coefficient e.divisions)
both-coefficients n m e z =
    let p = (passed n m e z).0 in
    (and_left (all coefficient e.axes) (all coefficient e.divisions) p, and_right (all coefficient e.axes) (all coefficient e.divisions) p)
