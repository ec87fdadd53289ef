-- What a basic set means in source document 001 (FPL, section 2.1, "Division Variables"): a division variable q is a whole number with
-- 0 ≤ numerator − d·q ≤ d − 1, and a point is in the basic set when there are such q, one for each division, with which the
-- constraints hold. proofs/Existential has that this is membership by floor divisions (specs/Sets), for every point however large.
use Rattle.std.specs.Prelude.{List, [], ◌∷◌, T, ℤ, pos, ◌+ℤ◌, ◌-ℤ◌, ◌*ℤ◌, ◌≤ℤ◌}
use Rattle.model.specs.Lists.{all}
use Rattle.model.specs.Sets.{dot, Division, BasicSet, Set, holds}

-- b₁·x₁ + .. + bₙ·xₙ + c
abbrev pub numerator : List ℤ → Division → ℤ
numerator x e = e.constant +ℤ dot e.axes x

pub record Remainder (x : List ℤ) (e : Division) (q : ℤ) : Type 0 where
  pub low : pos 0 ≤ℤ (numerator x e -ℤ pos e.divisor *ℤ q)
  pub high : (numerator x e -ℤ pos e.divisor *ℤ q) ≤ℤ (pos e.divisor -ℤ pos 1)

-- one q for each division
abbrev pub Remainders : List ℤ → List Division → List ℤ → Type 0
Remainders x [] [] = Unit {0}
Remainders x [] (q ∷ qs) = ⊥
Remainders x (e ∷ es) [] = ⊥
Remainders x (e ∷ es) (q ∷ qs) = Remainder x e q × Remainders x es qs

pub record Exists (x : List ℤ) (b : BasicSet) : Type 0 where
  pub q : List ℤ
  pub remainders : Remainders x b.divisions q
  pub constraints : T (all (holds (pos 1) x q) b.constraints)

-- in one of the basic sets of a set
pub data ExistsIn (x : List ℤ) : Set → Type 0 where
  here : {b : BasicSet} {s : Set} → Exists x b → ExistsIn x (b ∷ s)
  there : {b : BasicSet} {s : Set} → ExistsIn x s → ExistsIn x (b ∷ s)
