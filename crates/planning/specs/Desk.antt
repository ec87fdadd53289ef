-- The planner's desk (document 02, request 8): the state as it is now, and the marked ones. Of states only this is used: how one begins, and what an
-- addition makes of it; so A may also be the basic sets that the states stand for.
use Rattle.std.specs.Prelude.{◌≡◌, not, cond, List, [], ◌∷◌, ◌++◌, map, ℕ, leb, eqb}
use Rattle.std.proofs.Math.Option.{Option, none, some}
use Rattle.model.specs.Limits.{most_name}
use Rattle.model.specs.Refusals.{bad_name}
use Rattle.model.specs.Lists.{filter}
use Rattle.model.specs.Sets.{Division, Constraint, BasicSet}
use Rattle.codec.specs.Bytes.{Answer, refused, gives}
use Rattle.feasibility.specs.Tableau.{Verdict}
use Rattle.planning.specs.State.{State, without_rules, begins, adds, begins_at, adds_at}

pub record Desk (A : Type 0) : Type 0 where
  pub now : A
  -- names with their states, oldest first
  pub marks : List (ℕ × A)

-- ---- marks

module _ {A : Type 0} where
  -- the state marked under name k; none: "never marked or forgotten"
  abbrev pub named : ℕ → List (ℕ × A) → Option A
  named k [] = none
  named k (p ∷ ms) = cond (eqb p.0 k) (some p.1) (named k ms)

  abbrev pub without : ℕ → List (ℕ × A) → List (ℕ × A)
  without k ms = filter (λ (p : ℕ × A). not (eqb p.0 k)) ms

  -- "Marking a used name moves it"
  abbrev pub marked : ℕ → Desk A → Desk A
  marked k d = record { now = d.now; marks = without k d.marks ++ ((k, d.now) ∷ []) }

  -- the marks up to that of k, and this one
  abbrev pub through : ℕ → List (ℕ × A) → List (ℕ × A)
  through k [] = []
  through k (p ∷ ms) = p ∷ cond (eqb p.0 k) [] (through k ms)

  -- "restores every number of the state and forgets the marks made after it"
  abbrev pub restored : ℕ → Desk A → Option A → Option (Desk A)
  restored k d none = none
  restored k d (some s) = some (record { now = s; marks = through k d.marks })

  abbrev pub gone_back : ℕ → Desk A → Option (Desk A)
  gone_back k d = restored k d (named k d.marks)

-- ---- the calls

pub data Call : Type 0 where
  start : ℕ → List Division → Call
  add : Constraint → Call
  mark back : ℕ → Call

module _ {A : Type 0} where
  -- "without marks"
  abbrev pub fresh : Answer A → Answer (Desk A)
  fresh (refused k) = refused k
  fresh (gives s) = gives (record { now = s; marks = [] })

  abbrev pub renewed : Answer A → Desk A → Answer (Desk A)
  renewed (refused k) d = refused k
  renewed (gives s) d = gives (record { now = s; marks = d.marks })

  abbrev pub or_refused : ℕ → Option (Desk A) → Answer (Desk A)
  or_refused n none = refused n
  or_refused n (some d) = gives d

  -- "A refused call leaves state and marks as they were"
  abbrev pub left : Answer (Desk A) → Desk A → Desk A
  left (refused k) d = d
  left (gives e) d = e

  -- what a call shows: its refusal, or the state that is now
  abbrev pub shown : Answer (Desk A) → Answer A
  shown (refused k) = refused k
  shown (gives e) = gives e.now

module _ {A : Type 0} (begins : ℕ → List Division → Answer A) (adds : Constraint → A → Answer A) where
  -- "18 for a name over 15 or, in going back, never marked or forgotten, before all else in that call"
  abbrev pub answer : Call → Desk A → Answer (Desk A)
  answer (start n ds) d = fresh (begins n ds)
  answer (add r) d = renewed (adds r d.now) d
  answer (mark k) d = cond (leb k most_name) (gives (marked k d)) (refused bad_name)
  answer (back k) d = cond (leb k most_name) (or_refused bad_name (gone_back k d)) (refused bad_name)

  abbrev pub after : Call → Desk A → Desk A
  after c d = left (answer c d) d

  abbrev pub after_all : List Call → Desk A → Desk A
  after_all [] d = d
  after_all (c ∷ cs) d = after_all cs (after c d)

  abbrev pub replies : List Call → Desk A → List (Answer A)
  replies [] d = []
  replies (c ∷ cs) d = shown (answer c d) ∷ replies cs (after c d)

-- ---- of states

abbrev pub start_answer : ℕ → List Division → Answer (Desk State)
start_answer n ds = fresh (begins n ds)

abbrev pub call_answer : Call → Desk State → Answer (Desk State)
call_answer c d = answer begins adds c d

-- what is told of a state: its word
abbrev pub word_of : Answer State → Answer Verdict
word_of (refused k) = refused k
word_of (gives s) = gives s.says

-- the words of a start and the calls after it; a refused start is the only word
abbrev pub words_from : (ℕ → List Division → Answer State) → (Constraint → State → Answer State) → Answer (Desk State) → List Call → List (Answer Verdict)
words_from begins adds (refused k) cs = refused k ∷ []
words_from begins adds (gives d) cs = gives d.now.says ∷ map word_of (replies begins adds cs d)

abbrev pub words : ℕ → List Division → List Call → List (Answer Verdict)
words n ds cs = words_from begins adds (start_answer n ds) cs

-- at W bits alone
abbrev pub start_at : ℕ → ℕ → List Division → Answer (Desk State)
start_at W n ds = fresh (begins_at W n ds)

abbrev pub call_at : ℕ → Call → Desk State → Answer (Desk State)
call_at W c d = answer (begins_at W) (adds_at W) c d

abbrev pub words_at : ℕ → ℕ → List Division → List Call → List (Answer Verdict)
words_at W n ds cs = words_from (begins_at W) (adds_at W) (start_at W n ds) cs

-- ---- "states reached from a start by these calls alone": beside the desk of states goes one of basic sets, with the same calls, that has for the
-- state of now and for each marked one its divisions and all its rules, those that only count too

abbrev pub set_begins : ℕ → List Division → Answer BasicSet
set_begins n ds = gives (without_rules ds)

abbrev pub set_adds : Constraint → BasicSet → Answer BasicSet
set_adds r b = gives (record { divisions = b.divisions; constraints = b.constraints ++ (r ∷ []) })

pub data Reached : Desk BasicSet → Desk State → Type 0 where
  reached-start : (n : ℕ) (ds : List Division) {d : Desk State} → start_answer n ds ≡ gives d → Reached (record { now = without_rules ds; marks = [] }) d
  reached-call : {b c : Desk BasicSet} {d e : Desk State} → Reached b d → (a : Call) → call_answer a d ≡ gives e → answer set_begins set_adds a b ≡ gives c → Reached c e
