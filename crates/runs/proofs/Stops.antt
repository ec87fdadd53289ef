-- The walk over the constraints of the basic set of a row, to the first that does not pass a test.
use Rattle.std.proofs.Common.{◌≡◌, ◌+◌, ◌-◌, ◌<◌, ℕ, ℤ, Bool, true, false, not, List, Option, Some, None, length, get_or, arith, sym, subst}
use Rattle.std.specs.Option.{is_some}
use Rattle.std.proofs.lemmas.Bool.{true≢false, false≢true}
use Rattle.model.specs.Lists.{all}
use Rattle.model.specs.Sets.{Constraint}
use Rattle.codec.specs.Bytes.{is_constraint}
use Rattle.codec.specs.Places.{basic_at, constraint_at, next_of}
use Rattle.codec.proofs.Standing.{ConstraintAt}
use Rattle.bounds.specs.Rows.{start_of, Numbered}
use Rattle.bounds.proofs.Bounds.{Opening, opening-at, opening-form, opening-few, opening-falls, opening-next}
use Rattle.runs.specs.declared.holding.Stop.{Stop}
use Rattle.runs.specs.Upward.{FailsAt, Stopped}

module _ (s : List ℕ) (r : List ℤ) (ok : Constraint → Bool) (at i : ℕ) (g : Opening s (start_of r) ok at i) (test : is_constraint (get_or s at 0) ≡ true) where
  pub stop-here : ConstraintAt g.tail.n s at g.tail.k
  stop-here = opening-at s (start_of r) ok at i g test

  pub stop-rule : Numbered s r at i
  stop-rule = record { whole = stop-here.whole; body = stop-here.body; few = opening-few s (start_of r) ok at i g test; form = opening-form s (start_of r) ok at i g test }

  pub stop-fails : false ≡ ok (constraint_at s at) → FailsAt s r ok (record { at = at; i = i })
  stop-fails z = record { rule = stop-rule; falls = sym z; among = λ f e. opening-falls s (start_of r) ok at i g test f e }

  pub stop-on : (p : ℕ) → p ≡ next_of s at → true ≡ ok (constraint_at s at) → Opening s (start_of r) ok p (i + 1)
  stop-on p e z = subst (λ (p : ℕ). Opening s (start_of r) ok p (i + 1)) (sym e) (opening-next s (start_of r) ok at i g test (sym z))

  pub stop-less : (p : ℕ) → p ≡ next_of s at → length s - p < length s - at
  stop-less p e = let room = stop-here.whole.room in let known = stop-here.whole.known in omega arith

pub stop_none : (s : List ℕ) (r : List ℤ) (ok : Constraint → Bool) (p : Option Stop) (none : Bool) → is_some p ≡ not none → Stopped s r ok p → none ≡ all ok (basic_at s (start_of r)).constraints
stop_none s r ok None true q e = sym e
stop_none s r ok None false q e = absurd (false≢true q)
stop_none s r ok (Some p) true q e = absurd (true≢false q)
stop_none s r ok (Some p) false q e = sym (e.among ok e.falls)
