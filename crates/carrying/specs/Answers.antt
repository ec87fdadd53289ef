-- What the answers of a test mean.
use Rattle.std.specs.Prelude as C
use Rattle.std.specs.Prelude.{◌≡◌, List, [], ◌∷◌, ℕ, zero, suc, drop, Result, Some, None}
use Rattle.std.proofs.Math.Option.{Option, none, some}
use Rattle.model.specs.Sets.{BasicSet, Set}
use Rattle.model.specs.declared.refusal.Refusal.{Refusal}
use Rattle.codec.specs.Bytes.{Answer, refused, gives, decode}
use Rattle.codec.specs.Refusing.{answer_is}
use Rattle.feasibility.specs.Tableau as T
use Rattle.simplex.specs.declared.Ended.{Ended}
use Rattle.simplex.specs.Answers.{verdict_of}

-- the test's answer for a basic set, after so many pivots of both levels together
pub record Tests (b : BasicSet) (r : Ended) : Type 0 where
  pub verdict_is : verdict_of r.verdict ≡ T.test b
  pub pivots_are : r.pivots ≡ T.pivots_made b

-- ---- the test of one basic set of a set's bytes

-- basic set number k, from 1
abbrev pub foremost : Set → Option BasicSet
foremost [] = none
foremost (b ∷ s) = some b

abbrev pub numbered : Set → ℕ → Option BasicSet
numbered s zero = none
numbered s (suc i) = foremost (drop i s)

-- its answer and the number of pivots made
abbrev pub tested : Option BasicSet → Option (T.Verdict × ℕ)
tested none = none
tested (some b) = some (T.test b, T.pivots_made b)

abbrev pub test_in : Answer Set → ℕ → Answer (Option (T.Verdict × ℕ))
test_in (refused m) k = refused m
test_in (gives s) k = gives (tested (numbered s k))

unfoldable pub test_bytes : ℕ → List ℕ → ℕ → Answer (Option (T.Verdict × ℕ))
test_bytes n s k = test_in (decode n s) k

-- the rows built by its test (document 02, request 4); 0 where the bytes are refused or there is no such basic set
abbrev pub built_of : Option BasicSet → ℕ
built_of none = 0
built_of (some b) = T.rows_built b

abbrev pub built_for : Answer Set → ℕ → ℕ
built_for (refused m) k = 0
built_for (gives s) k = built_of (numbered s k)

unfoldable pub built_bytes : ℕ → List ℕ → ℕ → ℕ
built_bytes n s k = built_for (decode n s) k

-- each case of the code's answer: a refusal's number, no basic set of that number, or the answer and the pivots
abbrev pub ended_of : C.Option Ended → Option (T.Verdict × ℕ)
ended_of None = none
ended_of (Some x) = some (verdict_of x.verdict, x.pivots)

abbrev pub tested_of : Result (C.Option Ended) Refusal → Answer (Option (T.Verdict × ℕ))
tested_of r = answer_is ended_of r
