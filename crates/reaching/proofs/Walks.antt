-- Walks (document 02, request 8): from any memory of the right size a start that is given, and then any calls. What is said is planning's words, the
-- memory after them shows planning's desk, and no call finds the memory misused. "This is claimed of states reached from a start by these calls alone".
use mathlib.Core.Path.{◌≡◌, refl, sym, ap, ap₂, ◌∙◌, subst}
use mathlib.Core.Bool.{Bool, true, false, cond}
use mathlib.Core.List.{List, [], ◌∷◌, map}
use mathlib.Core.Option.{Option, none, some}
use mathlib.Core.Logic.{◌⊎◌, inl, inr, ⊎_elim}
use Prim.Native.Nat.{ℕ, suc, ◌≤◌}
use native.Mathlib.Omega.{arith}
use borrow.Author.Tests.{le-leb}
use lib.Dec.{T, leb}
use lib.IntN.{ℤ}
use Rattle.model.specs.Sets.{BasicSet}
use Rattle.model.proofs.Count.{from-T, to-T}
use Rattle.codec.specs.Bytes.{Answer, refused, gives}
use Rattle.model.specs.Lists.{All}
use Rattle.feasibility.specs.Tableau.{Verdict, point, dropped, long, wide}
use Rattle.feasibility.proofs.Verdicts.{some-none}
use Rattle.feasibility.proofs.Points.{Witness}
use Rattle.termination.specs.Unlimited.{NoPoint}
use Rattle.planning.specs.State.{State, without_rules, begins, adds}
use Rattle.planning.specs.Desk as D
use Rattle.planning.specs.Desk.{Desk, named, marked, restored, gone_back, fresh, renewed, or_refused, left, shown, replies, after_all, word_of, words_from, words, start_answer, call_answer, Reached, reached-start}
use Rattle.planning.proofs.Marks.{mark-moves}
use Rattle.planning.proofs.Back.{Keeps, KeepsAll, unknown-18, rules-by-state, Restored}
use Rattle.planning.proofs.Reached.{reached-on, reached-all, reached-empty, reached-point, reached-back}
use Rattle.memory.specs.Memory.{Memory, fitting}
use Rattle.memory.proofs.Copies.{fitting-fits}
use Rattle.states.specs.Calls.{Saying}
use Rattle.states.specs.Calls.{Point, Empty, Refused, Misused}
use Rattle.rules.specs.declared.Rule.{Rule}
use Rattle.rules.specs.Rules.{rule_of}
use Rattle.states.specs.Calls.{Step, stepped}
use Rattle.states.proofs.Left as L
use Rattle.reaching.specs.Shows.{slot_of, used_of, Shows}
use Rattle.reaching.specs.Walks.{Call, start, add, mark, back, divisions_of, meant, Formed, AllFormed, Writes, NoneWrites, step_of, saids, memory_after, saying_of, told}
use Rattle.reaching.proofs.Marking.{named-through, Kept, Meets, mark-meets, mark-slot, back-meets, back-slot}
use Rattle.reaching.proofs.Adding.{add_meets}
use Rattle.reaching.proofs.Starting.{Begins, start-begins, start-leaves, start-meets}

-- ---- one call

-- a memory that shows a desk: what a call says is planning's answer, and the memory shows planning's desk after it
pub call-meets : (c : Call) → Formed c → (d : Desk State) → Kept d → (y : Memory) → Shows d y → Meets (Writes c) (call_answer (meant c) d) d y (step_of c y)
call-meets (start n xs) f d g y h = start-meets n xs f y h.fits d g h
call-meets (add r) f d g y h = add_meets d g y h (rule_of r) f
call-meets (mark k) f d g y h = mark-meets d g y h k
call-meets (back k) f d g y h = back-meets d g y h k

-- ---- calls one after another

pub record Walked (cs : List Call) (d : Desk State) (y : Memory) : Type 0 where
  pub said : saids cs y ≡ map told (map word_of (replies begins adds (map meant cs) d))
  pub kept : Kept (after_all begins adds (map meant cs) d)
  pub shows : Shows (after_all begins adds (map meant cs) d) (memory_after cs y)
  pub slots : (j : ℕ) → j ≤ 15 → NoneWrites j cs → slot_of (suc j) (memory_after cs y) ≡ slot_of (suc j) y

pub walk-on : (cs : List Call) → AllFormed cs → (d : Desk State) → Kept d → (y : Memory) → Shows d y → Walked cs d y
walk-on [] f d g y h = record { said = refl; kept = g; shows = h; slots = λ j l n. refl }
walk-on (c ∷ cs) f d g y h =
    let m = call-meets c f.0 d g y h in
    let w = walk-on cs f.1 (left (call_answer (meant c) d) d) m.kept (step_of c y).memory m.shows in
    record { said = ap₂ (λ (x : Saying) (l : List Saying). x ∷ l) m.said w.said; kept = w.kept; shows = w.shows; slots = λ j l n. w.slots j l n.1 ∙ m.slots j l n.0 }

-- ---- a mark that is not made anew is the mark it was, or is gone

named-call : (c : Call) (k : ℕ) (d : Desk State) (s : State) → (Writes c k → ⊥) → named k (left (call_answer (meant c) d) d).marks ≡ some s → named k d.marks ≡ some s
named-call (start n xs) k d s w e = at (begins n (divisions_of xs)) e
  where
    at : (a : Answer State) → named k (left (fresh a) d).marks ≡ some s → named k d.marks ≡ some s
    at (refused m) e = e
    at (gives u) e = some-none (sym e)
named-call (add r) k d s w e = at (adds (rule_of r) d.now) e
  where
    at : (a : Answer State) → named k (left (renewed a d) d).marks ≡ some s → named k d.marks ≡ some s
    at (refused m) e = e
    at (gives u) e = e
named-call (mark j) k d s w e = at (leb j 15) e
  where
    at : (b : Bool) → named k (left (cond b (gives (marked j d)) (refused 18)) d).marks ≡ some s → named k d.marks ≡ some s
    at true e = sym ((mark-moves j d).1 k w) ∙ e
    at false e = e
named-call (back j) k d s w e = at (leb j 15) e
  where
    on : (o : Option State) → named k (left (or_refused 18 (restored j d o)) d).marks ≡ some s → named k d.marks ≡ some s
    on none e = e
    on (some u) e = named-through k j s d.marks e

    at : (b : Bool) → named k (left (cond b (or_refused 18 (gone_back j d)) (refused 18)) d).marks ≡ some s → named k d.marks ≡ some s
    at true e = on (named j d.marks) e
    at false e = e

named-calls : (cs : List Call) (k : ℕ) (d : Desk State) (s : State) → NoneWrites k cs → named k (after_all begins adds (map meant cs) d).marks ≡ some s → named k d.marks ≡ some s
named-calls [] k d s w e = e
named-calls (c ∷ cs) k d s w e = named-call c k d s w.0 (named-calls cs k (left (call_answer (meant c) d) d) s w.1 e)

-- ---- "Going back to a name restores every number of the state .., so whatever rule is added next is answered as it was or would have been then":
-- whatever calls follow the mark, none of which marks that name anew, going back to it is refused 18 (it went back to an older mark meanwhile, or was
-- started anew), or slot 0 has every word that it had at the mark, and rules added then are answered as they would have been at the mark

rules-meant : (rs : List Rule) → map meant (map add rs) ≡ map D.add (map rule_of rs)
rules-meant [] = refl
rules-meant (r ∷ rs) = ap (λ (l : List D.Call). D.add (rule_of r) ∷ l) (rules-meant rs)

-- memory z has the state of y: every word of it that is in use
pub record SameState (z y : Memory) : Type 0 where
  pub words : used_of (slot_of 0 z) ≡ used_of (slot_of 0 y)
  pub rules : (rs : List Rule) → AllFormed (map add rs) → saids (map add rs) z ≡ saids (map add rs) y

module _ (k : ℕ) (low : k ≤ 15) (cs : List Call) (formed : AllFormed cs) (none-marks : NoneWrites k cs) (d : Desk State) (g : Kept d) (y : Memory) (h : Shows d y) where
  abbrev marked-there : Memory
  marked-there = (step_of (mark k) y).memory

  abbrev later : Memory
  later = memory_after cs marked-there

  back-words : ((step_of (back k) later).said ≡ Refused 18) ⊎ SameState (step_of (back k) later).memory y
  back-words = at (named k e.marks) refl
    where
      marked-now : Desk State
      marked-now = left (call_answer (meant (mark k)) d) d

      m : Meets (Writes (mark k)) (call_answer (meant (mark k)) d) d y (step_of (mark k) y)
      m = mark-meets d g y h k

      w : Walked cs marked-now marked-there
      w = walk-on cs formed marked-now m.kept marked-there m.shows

      e : Desk State
      e = after_all begins adds (map meant cs) marked-now

      b : Meets (Writes (back k)) (call_answer (meant (back k)) e) e later (step_of (back k) later)
      b = back-meets e w.kept later w.shows k

      value : {s t : State} → some s ≡ some t → s ≡ t
      value q = cc

      -- the state of the mark is the state of then
      state-is : (s : State) → named k e.marks ≡ some s → s ≡ d.now
      state-is s q =
          value (sym (named-calls cs k marked-now s none-marks q) ∙ ap (λ (c : Bool). named k (left (cond c (gives (marked k d)) (refused 18)) d).marks) (le-leb k 15 low) ∙ (mark-moves k d).0)

      now-is : (s : State) → named k e.marks ≡ some s → (left (call_answer (meant (back k)) e) e).now ≡ s
      now-is s q =
          ap (λ (c : Bool). (left (cond c (or_refused 18 (gone_back k e)) (refused 18)) e).now) (le-leb k 15 low)
          ∙ ap (λ (o : Option State). (left (or_refused 18 (restored k e o)) e).now) q

      answered : (s : State) → named k e.marks ≡ some s → (rs : List Rule) → AllFormed (map add rs) → saids (map add rs) (step_of (back k) later).memory ≡ saids (map add rs) y
      answered s q rs f =
          let there : Desk State = left (call_answer (meant (back k)) e) e in
          (walk-on (map add rs) f there b.kept (step_of (back k) later).memory b.shows).said
          ∙ ap (λ (l : List D.Call). map told (map word_of (replies begins adds l there))) (rules-meant rs)
          ∙ ap (λ (l : List (Answer State)). map told (map word_of l)) (rules-by-state begins adds (map rule_of rs) there d (now-is s q ∙ state-is s q))
          ∙ ap (λ (l : List D.Call). map told (map word_of (replies begins adds l d))) (sym (rules-meant rs))
          ∙ sym (walk-on (map add rs) f d g y h).said

      at : (o : Option State) → named k e.marks ≡ o → ((step_of (back k) later).said ≡ Refused 18) ⊎ SameState (step_of (back k) later).memory y
      at none q = inl (b.said ∙ ap (λ (a : Answer (Desk State)). told (word_of (shown a))) (unknown-18 begins adds k e q))
      at (some s) q = inr (record { words = back-slot e w.kept later w.shows k low s q ∙ ap used_of (w.slots k low none-marks) ∙ mark-slot d g y h k low; rules = answered s q })

-- calls that keep a mark do not mark that name anew
none-writes : (k : ℕ) (cs : List Call) (d : Desk State) → KeepsAll begins adds k (map meant cs) d → NoneWrites k cs
none-writes k [] d z = tt
none-writes k (c ∷ cs) d z = (by c z.0, none-writes k cs (left (call_answer (meant c) d) d) z.1)
  where
    by : (c : Call) → Keeps begins adds k (meant c) d → Writes c k → ⊥
    by (start n xs) z w = w
    by (add r) z w = w
    by (mark j) z w = z (sym w)
    by (back j) z w = w

not-refused : (v : Verdict) (k : ℕ) → saying_of v ≡ Refused k → ⊥
not-refused point k e = let z : ◌≡◌ {A = ℕ} 0 1 = cc in omega arith
not-refused dropped k e = let z : ◌≡◌ {A = ℕ} 0 1 = cc in omega arith
not-refused long k e = let z : ◌≡◌ {A = ℕ} 0 1 = cc in omega arith
not-refused wide k e = let z : ◌≡◌ {A = ℕ} 0 1 = cc in omega arith

-- ---- from a start

module _ (y : Memory) (fit : T (fitting y)) (n : ℕ) (xs : List ℤ) (cs : List Call) (formed : AllFormed (start n xs ∷ cs)) (d : Desk State) (given : start_answer n (divisions_of xs) ≡ gives d) where
  begun : Begins d y (step_of (start n xs) y)
  begun = start-begins n xs formed.0 y (fitting-fits y (from-T (fitting y) fit)) d given

  walked : Walked cs d (step_of (start n xs) y).memory
  walked = walk-on cs formed.1 d begun.kept (step_of (start n xs) y).memory begun.shows

  -- what is said is planning's words, one after another
  pub walk-words : saids (start n xs ∷ cs) y ≡ map told (words n (divisions_of xs) (map meant cs))
  walk-words =
      ap₂ (λ (x : Saying) (l : List Saying). x ∷ l) begun.said walked.said
      ∙ ap (λ (a : Answer (Desk State)). map told (words_from begins adds a (map meant cs))) (sym given)

  -- the memory after them shows planning's desk
  pub walk-shows : Shows (after_all begins adds (map meant cs) d) (memory_after (start n xs ∷ cs) y)
  walk-shows = walked.shows

  -- the desk is one that is reached
  pub walk-reached : (b : Desk BasicSet) × Reached b (after_all begins adds (map meant cs) d)
  walk-reached = reached-all (reached-start n (divisions_of xs) given) (map meant cs)

  -- "restores every number of the state": over calls from a start, a mark under k, and any calls that do not mark k anew
  module _ (k : ℕ) (low : k ≤ 15) (more : List Call) (ok : AllFormed more) where
    abbrev desk : Desk State
    desk = after_all begins adds (map meant cs) d

    abbrev at_mark : Memory
    at_mark = memory_after (start n xs ∷ cs) y

    abbrev at_last : Memory
    at_last = memory_after more (step_of (mark k) at_mark).memory

    pub walk-back : NoneWrites k more → ((step_of (back k) at_last).said ≡ Refused 18) ⊎ SameState (step_of (back k) at_last).memory at_mark
    walk-back w = back-words k low more ok w desk walked.kept at_mark walk-shows

    -- it is not refused where they keep the mark: planning's `KeepsAll`
    pub walk-restores : KeepsAll begins adds k (map meant more) (marked k desk) → SameState (step_of (back k) at_last).memory at_mark
    walk-restores z = ⊎_elim (λ e. absurd (not-refused r.desk.now.says 18 (sym said-now ∙ e))) (λ x. x) (walk-back (none-writes k more (marked k desk) z))
      where
        r : Restored begins adds k desk (map meant more)
        r = reached-back walk-reached.1 k (map meant more) (to-T (leb k 15) (le-leb k 15 low)) z

        m : Meets (Writes (mark k)) (call_answer (meant (mark k)) desk) desk at_mark (step_of (mark k) at_mark)
        m = mark-meets desk walked.kept at_mark walk-shows k

        w : Walked more (left (call_answer (meant (mark k)) desk) desk) (step_of (mark k) at_mark).memory
        w = walk-on more ok (left (call_answer (meant (mark k)) desk) desk) m.kept (step_of (mark k) at_mark).memory m.shows

        said-now : (step_of (back k) at_last).said ≡ saying_of r.desk.now.says
        said-now =
            (back-meets (after_all begins adds (map meant more) (left (call_answer (meant (mark k)) desk) desk)) w.kept at_last w.shows k).said
            ∙ ap (λ (x : Desk State). told (word_of (shown (call_answer (D.back k) (after_all begins adds (map meant more) x))))) (ap (λ (c : Bool). left (cond c (gives (marked k desk)) (refused 18)) desk) (le-leb k 15 low))
            ∙ ap (λ (a : Answer (Desk State)). told (word_of (shown a))) r.gives_it

  -- ---- "Empty is said only when no point with fractions meets the rules and the divisions' bounds, point only when one does": at the start, and at
  -- every call after any others

  empty-only : (v : Verdict) → saying_of v ≡ Empty → v ≡ dropped
  empty-only point e = absurd (let z : ◌≡◌ {A = ℕ} 0 1 = cc in omega arith)
  empty-only dropped e = refl
  empty-only long e = absurd (let z : ◌≡◌ {A = ℕ} 0 1 = cc in omega arith)
  empty-only wide e = absurd (let z : ◌≡◌ {A = ℕ} 0 1 = cc in omega arith)

  point-only : (v : Verdict) → saying_of v ≡ Point → v ≡ point
  point-only point e = refl
  point-only dropped e = absurd (let z : ◌≡◌ {A = ℕ} 0 1 = cc in omega arith)
  point-only long e = absurd (let z : ◌≡◌ {A = ℕ} 0 1 = cc in omega arith)
  point-only wide e = absurd (let z : ◌≡◌ {A = ℕ} 0 1 = cc in omega arith)

  pub start-empty : (step_of (start n xs) y).said ≡ Empty → NoPoint (without_rules (divisions_of xs))
  start-empty e = reached-empty (reached-start n (divisions_of xs) given) (empty-only d.now.says (sym begun.said ∙ e))

  pub start-point : (step_of (start n xs) y).said ≡ Point → Witness d.now.axes (without_rules (divisions_of xs))
  start-point e = reached-point (reached-start n (divisions_of xs) given) (point-only d.now.says (sym begun.said ∙ e))

  module _ (c : Call) (ok : Formed c) where
    abbrev before : Desk State
    before = after_all begins adds (map meant cs) d

    abbrev step : Step
    step = step_of c (memory_after (start n xs ∷ cs) y)

    last : Meets (Writes c) (call_answer (meant c) before) before (memory_after (start n xs ∷ cs) y) step
    last = call-meets c ok before walked.kept (memory_after (start n xs ∷ cs) y) walk-shows

    pub walk-empty : step.said ≡ Empty → (b : Desk BasicSet) × Reached b (left (call_answer (meant c) before) before) × NoPoint b.now
    walk-empty e = at (call_answer (meant c) before) refl (sym last.said ∙ e)
      where
        at : (a : Answer (Desk State)) → call_answer (meant c) before ≡ a → told (word_of (shown a)) ≡ Empty → (b : Desk BasicSet) × Reached b (left a before) × NoPoint b.now
        at (refused k) q e = absurd (let z : ◌≡◌ {A = ℕ} 0 1 = cc in omega arith)
        at (gives u) q e = let r = reached-on walk-reached.1 (meant c) q in (r.0, r.1, reached-empty r.1 (empty-only u.now.says e))

    pub walk-point : step.said ≡ Point → (b : Desk BasicSet) × Reached b (left (call_answer (meant c) before) before) × Witness (left (call_answer (meant c) before) before).now.axes b.now
    walk-point e = at (call_answer (meant c) before) refl (sym last.said ∙ e)
      where
        at : (a : Answer (Desk State)) → call_answer (meant c) before ≡ a → told (word_of (shown a)) ≡ Point → (b : Desk BasicSet) × Reached b (left a before) × Witness (left a before).now.axes b.now
        at (refused k) q e = absurd (let z : ◌≡◌ {A = ℕ} 0 1 = cc in omega arith)
        at (gives u) q e = let r = reached-on walk-reached.1 (meant c) q in (r.0, r.1, reached-point r.1 (point-only u.now.says e))

-- ---- no call finds the memory misused

never : (a : Answer Verdict) → told a ≡ Misused → ⊥
never (refused k) e = let z : ◌≡◌ {A = ℕ} 0 1 = cc in omega arith
never (gives point) e = let z : ◌≡◌ {A = ℕ} 0 1 = cc in omega arith
never (gives dropped) e = let z : ◌≡◌ {A = ℕ} 0 1 = cc in omega arith
never (gives long) e = let z : ◌≡◌ {A = ℕ} 0 1 = cc in omega arith
never (gives wide) e = let z : ◌≡◌ {A = ℕ} 0 1 = cc in omega arith

never-all : (l : List (Answer Verdict)) → All (λ (x : Saying). x ≡ Misused → ⊥) (map told l)
never-all [] = tt
never-all (a ∷ l) = (never a, never-all l)

pub walk-never-misused : (y : Memory) → T (fitting y) → (n : ℕ) (xs : List ℤ) (cs : List Call) → AllFormed (start n xs ∷ cs) → (d : Desk State) → start_answer n (divisions_of xs) ≡ gives d
    → All (λ (x : Saying). x ≡ Misused → ⊥) (saids (start n xs ∷ cs) y)
walk-never-misused y fit n xs cs f d q = subst (All (λ (x : Saying). x ≡ Misused → ⊥)) (sym (walk-words y fit n xs cs f d q)) (never-all (words n (divisions_of xs) (map meant cs)))

-- a start that is refused says so and leaves every word
pub start-refused-leaves : (y : Memory) → T (fitting y) → (n : ℕ) (xs : List ℤ) → Formed (start n xs) → (c : ℕ) → start_answer n (divisions_of xs) ≡ refused c → step_of (start n xs) y ≡ stepped (Refused c) y
start-refused-leaves y fit n xs f c q = start-leaves n xs f y (fitting-fits y (from-T (fitting y) fit)) c q

-- "A refused call leaves state and marks as they were": every word of any memory
pub refused-leaves-words : (c : Call) (y : Memory) (k : ℕ) → (step_of c y).said ≡ Refused k → (step_of c y).memory ≡ y
refused-leaves-words (start n xs) y k e = L.start-leaves y k n xs e
refused-leaves-words (add r) y k e = L.add-leaves y k (rule_of r) e
refused-leaves-words (mark j) y k e = L.mark-leaves y k j e
refused-leaves-words (back j) y k e = L.back-leaves y k j e
