-- What the functions of the operations ask and give.
use Rattle.std.specs.Prelude.{◌≡◌, Bool, List, [], ◌∷◌, ℕ, ◌+◌, length, Result, IfOk}
use Rattle.model.specs.declared.refusal.Refusal.{Refusal}
use Rattle.model.specs.Refused.{number_in}
use Rattle.model.specs.Lists.{all, concat_map, filter}
use Rattle.model.specs.Sets.{BasicSet, Set}
use Rattle.codec.specs.Bytes.{Answer, refused, decode, number}
use Rattle.codec.specs.Places.{set_from}
use Rattle.algebra.specs.Tighten.{solvable}
use Rattle.algebra.specs.Cut.{keeps, both, both_fits}
use Rattle.algebra.specs.Operations.{on_two}

-- k is the refusal of two sets, the first's before the second's; 0: both decode
pub record Checks (n : ℕ) (a b : List ℕ) (k : ℕ) : Type 0 where
  pub good : k ≡ 0 → (number (decode n a) ≡ 0) × (number (decode n b) ≡ 0)
  pub bad : (k ≡ 0 → ⊥) → (f : Set → Set → Answer (List ℕ)) → on_two f (decode n a) (decode n b) ≡ refused k

-- the same, with the basic sets of both counted where neither is refused
pub record ChecksCounting (n : ℕ) (a b : List ℕ) (r : Result ℕ Refusal) : Type 0 where
  pub checks : Checks n a b (number_in r)
  pub counts : IfOk r (λ k. k ≡ length (set_from a 0) + length (set_from b 0))

-- ---- the intersection

-- where the test for fractions keeps it
abbrev pub tested : BasicSet → Set
tested b = filter keeps (b ∷ [])

-- a basic set tightened, where none of its rules is void and the test for fractions keeps it
abbrev pub admitted : BasicSet → Set
admitted b = filter keeps (solvable b)

-- the two in one
abbrev pub meeting : BasicSet → BasicSet → Set
meeting p v = admitted (both p v)

-- p with each basic set of t
abbrev pub meetings : Set → BasicSet → Set
meetings t p = concat_map (meeting p) t

abbrev pub meetings_fit : Set → BasicSet → Bool
meetings_fit t p = all (both_fits keeps p) t

-- a basic set of the first, tightened before joining
abbrev pub first_meetings : Set → BasicSet → Set
first_meetings t p = concat_map (meetings t) (solvable p)

abbrev pub first_meetings_fit : Set → BasicSet → Bool
first_meetings_fit t p = all (meetings_fit t) (solvable p)
