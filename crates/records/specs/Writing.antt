-- Bytes put into a lent table from a place on, as far as the table goes; and the table's zeros.
use Rattle.std.specs.Prelude.{◌≡◌, List, [], ◌∷◌, ◌++◌, ℕ, suc, ◌+◌, ◌-◌, ◌≤◌, ◌<◌, ◌^◌, length, take, replicate, set}
use Rattle.model.specs.Limits.{most_divisions, most_constraints}
use Rattle.model.specs.declared.BasicSet.{BasicSet}

-- o with l from place `at` on; what would stand past the end of o is left out
unfoldable pub put : ℕ → List ℕ → List ℕ → List ℕ
put at [] o = o
put at (b ∷ l) o = put (suc at) l (set o at b)

-- l was put into o from `at` on, which made it o', and ends at `end`, be that in the table or past it
pub record Emitted (l o : List ℕ) (at end : ℕ) (o' : List ℕ) : Type 0 where
  pub ends : end ≡ at + length l
  pub bytes : o' ≡ put at l o

-- o with 0 from a place on
abbrev pub cleared : ℕ → List ℕ → List ℕ
cleared from o = take from o ++ replicate (length o - from) 0

-- a value that has the size of a basic set, and a place that leaves room to count on
pub record Encodable (b : BasicSet) (at : ℕ) : Type 0 where
  pub divs : b.divs ≤ most_divisions
  pub cons : b.cons ≤ most_constraints
  pub place : at < 2 ^ 63
