-- How far a result has come, and what it answers.
use Rattle.std.specs.Prelude.{◌≡◌, Bool, true, ◌&&◌, List, ℕ, ◌+◌, ◌*◌, ◌≤◌, leb, length}
use Rattle.model.specs.Limits.{most_basic_sets}
use Rattle.model.specs.Sets.{Set}
use Rattle.codec.specs.Places.{longest_basic}
use Rattle.codec.specs.Bytes.{encode}
use Rattle.records.specs.Writing.{Emitted}
use Rattle.algebra.specs.Operations.{result}
use Rattle.algebra.specs.Result.{Result}
use Rattle.results.specs.declared.results.Done.{Done}
use Rattle.results.specs.Outcome.{Outcome, outcome_is}

-- a result that may go on: no basic set has more than longest_basic bytes
pub record Ready (s : Done) : Type 0 where
  pub fits : s.fits ≡ true
  pub few : s.count ≤ most_basic_sets
  pub near : s.at ≤ longest_basic * s.count

-- behind what s has in o come the basic sets l, unless f is false or there are over 32: then it no longer fits
pub record Emits (l : Set) (f : Bool) (o : List ℕ) (s r : Done) (o' : List ℕ) : Type 0 where
  pub fits : r.fits ≡ f && leb (s.count + length l) most_basic_sets
  pub ready : r.fits ≡ true → Ready r
  pub count : r.fits ≡ true → r.count ≡ s.count + length l
  pub bytes : r.fits ≡ true → Emitted (encode l) o s.at r.at o'

-- the whole result: the set l, unless f is false
pub record Made (f : Bool) (l : Set) (o : List ℕ) (r : Done) (o' : List ℕ) : Type 0 where
  pub fits : r.fits ≡ f
  pub bytes : r.fits ≡ true → Emitted (encode l) o 0 r.at o'

-- what a result in o answers
pub record Finished (s : Done) (o : List ℕ) (r : Outcome) (o' : List ℕ) : Type 0 where
  pub answers : (f : Bool) (l : Set) (o₀ : List ℕ) → length o₀ ≡ length o → Made f l o₀ s o → Result (length o) (result f (length o) l) (outcome_is r) o'
