-- Marking a state and going back to one, on the words of a memory that shows a desk, are planning's. Assumes nothing.
use mathlib.Core.Path.{◌≡◌, refl, sym, ap, ap₂, ◌∙◌, subst}
use mathlib.Core.Bool.{Bool, true, false, ◌&&◌, cond}
use mathlib.Core.List.{List, [], ◌∷◌, map}
use mathlib.Core.Option.{Option, none, some}
use Prim.Native.Nat.{ℕ, suc, ◌+◌, ◌≤◌, ◌<◌}
use native.Mathlib.Numerals.{add-one}
use native.Mathlib.Omega.{arith}
use borrow.Author.Tests.{eqb-true, eqb-false, eq-eqb, leb-true, leb-false}
use lib.Dec.{eqb, leb}
use lib.ListN.{length, get_or, set, length-set, length-map}
use lib.Seq.{get_or-drop}
use Rattle.model.proofs.Count.{from-T}
use Rattle.codec.specs.Bytes.{Answer, refused, gives}
use Rattle.feasibility.specs.Tableau.{Verdict, point, dropped, wide, long}
use Rattle.feasibility.proofs.Verdicts.{some-none}
use Rattle.planning.specs.State.{State}
use Rattle.planning.specs.Desk.{Desk, named, marked, through, restored, gone_back, mark, back, left, shown, or_refused, word_of, call_answer}
use Rattle.planning.proofs.Marks.{Once, NamesBelow, once-marked, once-through, names_marked, names-through, mark-moves}
use Rattle.simplex.proofs.Columns.{tabulate-at}
use Rattle.memory.specs.Memory.{Memory, fitting, Fits, slot_copied, ranks_of, newest, forgotten}
use Rattle.memory.specs.Sound.{is_word}
use Rattle.states.specs.Calls.{Refused}
use Rattle.states.specs.Calls.{Step, stepped, said_of, ranked, marked_in, mark_step, back_in, back_step}
use Rattle.states.proofs.Stepping.{mark-over, mark-done, back-over, back-never, back_done}
use Rattle.reaching.specs.Shows.{slot_of, used_of, word_for, rank_in, ShowsState, Shows}
use Rattle.reaching.specs.Walks.{saying_of, told}
use Rattle.reaching.proofs.Windows.{slot-copied, slot-other, copied-ranks, copied-fits, shows-used, slot-ranked, ranks-put, ranks-long}
use Rattle.reaching.proofs.Ranks.{rank-none, none-rank, ranks-marked, ranks-through}
use Rattle.reaching.proofs.Good.{Good, head_at_lem, word-is}

-- a desk of such states, each name marked once
pub record Kept (d : Desk State) : Type 0 where
  pub now : Good d.now
  pub marks : (k : ℕ) (s : State) → named k d.marks ≡ some s → Good s
  pub once : Once d.marks
  pub names : NamesBelow 16 d.marks

-- a step from memory y that is answer a to desk d: what is said, the desk that the memory shows after it, and the slots that are left word for word: of
-- all names but its own
pub record Meets (own : ℕ → Type 0) (a : Answer (Desk State)) (d : Desk State) (y : Memory) (x : Step) : Type 0 where
  pub said : x.said ≡ told (word_of (shown a))
  pub kept : Kept (left a d)
  pub shows : Shows (left a d) x.memory
  pub slots : (j : ℕ) → j ≤ 15 → (own j → ⊥) → slot_of (suc j) x.memory ≡ slot_of (suc j) y

-- ---- words

pub said-is : (v : Verdict) → said_of (word_for v) ≡ saying_of v
said-is point = refl
said-is dropped = refl
said-is wide = refl
said-is long = refl

pub fits-fitting : (y : Memory) → Fits y → fitting y ≡ true
fits-fitting y f = all-four (eq-eqb _ _ f.rows) (eq-eqb _ _ f.place) (eq-eqb _ _ f.kinds) (eq-eqb _ _ f.heads)
  where
    all-four : {a b c e : Bool} → a ≡ true → b ≡ true → c ≡ true → e ≡ true → (a && (b && (c && e))) ≡ true
    all-four p q r s = ap₂ ◌&&◌ p (ap₂ ◌&&◌ q (ap₂ ◌&&◌ r s))

-- ---- names

name_below : (n k : ℕ) (s : State) (ms : List (ℕ × State)) → NamesBelow n ms → named k ms ≡ some s → k < n
name_below n k s [] b e = some-none (sym e)
name_below n k s (p ∷ ms) b e = at (eqb p.0 k) refl e (name_below n k s ms b.1)
  where
    at : (c : Bool) → eqb p.0 k ≡ c → cond c (some p.1) (named k ms) ≡ some s → (named k ms ≡ some s → k < n) → k < n
    at true q e ih = subst (λ j. j < n) (eqb-true p.0 k q) b.0
    at false q e ih = ih e

pub named-through : (j k : ℕ) (s : State) (ms : List (ℕ × State)) → named j (through k ms) ≡ some s → named j ms ≡ some s
named-through j k s [] e = e
named-through j k s (p ∷ ms) e = at (eqb p.0 j) (eqb p.0 k) e (named-through j k s ms)
  where
    at : (a b : Bool) → cond a (some p.1) (named j (cond b [] (through k ms))) ≡ some s → (named j (through k ms) ≡ some s → named j ms ≡ some s) → cond a (some p.1) (named j ms) ≡ some s
    at true b e ih = e
    at false true e ih = some-none (sym e)
    at false false e ih = ih e

value : {s t : State} → some s ≡ some t → s ≡ t
value e = cc

newest-long : (k : ℕ) (r : List ℕ) → length (newest k r) ≡ length r
unfolding newest
newest-long k r = length-set (map (Rattle.memory.specs.Memory.fallen (get_or r k 0)) (set r k 0)) k _ ∙ length-map (set r k 0) (Rattle.memory.specs.Memory.fallen (get_or r k 0)) ∙ length-set r k 0

-- a copied slot, and other ranks
module _ (y : Memory) (f : Fits y) (from to : ℕ) (source : from ≤ 16) (target : to ≤ 16) (g : List ℕ → List ℕ) (same : (r : List ℕ) → length (g r) ≡ length r) where
  abbrev z : Memory
  z = ranked g (slot_copied from to y)

  moved-fits : Fits z
  moved-fits =
      let c = copied-fits y f from to source target in
      let h = c.heads in
      record {
        rows = c.rows;
        place = c.place;
        kinds = c.kinds;
        heads = ranks-long g (slot_copied from to y).heads (omega arith) (same _) ∙ h;
      }

  moved_here : used_of (slot_of to z) ≡ used_of (slot_of from y)
  moved_here = ap used_of (slot-ranked g (slot_copied from to y) (copied-fits y f from to source target) to target) ∙ slot-copied y f from to source target

  moved_other : (j : ℕ) → j ≤ 16 → (j ≡ to → ⊥) → slot_of j z ≡ slot_of j y
  moved_other j l n = slot-ranked g (slot_copied from to y) (copied-fits y f from to source target) j l ∙ slot-other y f from to source target j l n

  moved-ranks : ranks_of z ≡ g (ranks_of y)
  moved-ranks =
      let h = (copied-fits y f from to source target).heads in
      ranks-put g (slot_copied from to y).heads (omega arith) ∙ ap g (copied-ranks y f from to source target)

-- ---- the calls

module _ (d : Desk State) (g : Kept d) (y : Memory) (h : Shows d y) (k : ℕ) where
  refused-18 : (own : ℕ → Type 0) → Meets own (refused 18) d y (stepped (Refused 18) y)
  refused-18 own = record { said = refl; kept = g; shows = h; slots = λ j l n. refl }

  -- ---- mark

  marked-kept : k ≤ 15 → Kept (marked k d)
  marked-kept l =
      record {
        now = g.now;
        marks = λ j s e. at j s e (eqb k j) refl;
        once = once-marked k d g.once;
        names = names_marked 16 k d (omega arith) g.names;
      }
    where
      at : (j : ℕ) (s : State) → named j (marked k d).marks ≡ some s → (b : Bool) → eqb k j ≡ b → Good s
      at j s e true q = subst Good (value (sym (mark-moves k d).0 ∙ ap (λ i. named i (marked k d).marks) (eqb-true k j q) ∙ e)) g.now
      at j s e false q = g.marks j s (sym ((mark-moves k d).1 j (eqb-false k j q)) ∙ e)

  marked-shows : k ≤ 15 → Shows (marked k d) (marked_in k y)
  marked-shows l =
      record {
        fits = moved-fits y f 0 (k + 1) (omega arith) (omega arith) (newest k) (newest-long k);
        now = subst (ShowsState d.now) (sym (moved_other y f 0 (k + 1) (omega arith) (omega arith) (newest k) (newest-long k) 0 (omega arith) (λ e. omega arith))) h.now;
        marks = λ j s e. at j s e (eqb k j) refl;
        ranks = moved-ranks y f 0 (k + 1) (omega arith) (omega arith) (newest k) (newest-long k) ∙ ap (newest k) h.ranks ∙ ranks-marked k d g.once g.names (omega arith);
      }
    where
      f : Fits y
      f = h.fits

      at : (j : ℕ) (s : State) → named j (marked k d).marks ≡ some s → (b : Bool) → eqb k j ≡ b → ShowsState s (slot_of (suc j) (marked_in k y))
      at j s e true q =
          let i = eqb-true k j q in
          let v = value (sym (mark-moves k d).0 ∙ ap (λ i. named i (marked k d).marks) i ∙ e) in
          subst (λ n. ShowsState s (slot_of n (marked_in k y))) (add-one k ∙ ap suc i)
          (shows-used s (slot_of 0 y) (slot_of (k + 1) (marked_in k y)) (moved_here y f 0 (k + 1) (omega arith) (omega arith) (newest k) (newest-long k)) (subst (λ s. ShowsState s (slot_of 0 y)) v h.now))
      at j s e false q =
          let n = eqb-false k j q in
          let b = name_below 16 j s (marked k d).marks (names_marked 16 k d (omega arith) g.names) e in
          subst (ShowsState s) (sym (moved_other y f 0 (k + 1) (omega arith) (omega arith) (newest k) (newest-long k) (suc j) (omega arith) (λ e. n (omega arith)))) (h.marks j s (sym ((mark-moves k d).1 j n) ∙ e))

  marked-slots : k ≤ 15 → (j : ℕ) → j ≤ 15 → (k ≡ j → ⊥) → slot_of (suc j) (marked_in k y) ≡ slot_of (suc j) y
  marked-slots l j b n = moved_other y h.fits 0 (k + 1) (omega arith) (omega arith) (newest k) (newest-long k) (suc j) (omega arith) (λ e. n (omega arith))

  pub mark-meets : Meets (λ j. k ≡ j) (call_answer (mark k) d) d y (mark_step k y)
  mark-meets = at (leb k 15) refl
    where
      at : (b : Bool) → leb k 15 ≡ b → Meets (λ j. k ≡ j) (cond b (gives (marked k d)) (refused 18)) d y (mark_step k y)
      at false q = subst (Meets (λ j. k ≡ j) (refused 18) d y) (mark-over k y (leb-false k 15 q)) (refused-18 (λ j. k ≡ j))
      at true q =
          let l = leb-true k 15 q in
          let w = head_at_lem d.now 0 y h.now 4 (omega arith) in
          subst (Meets (λ j. k ≡ j) (gives (marked k d)) d y) (mark-done k y l (fits-fitting y h.fits) (ap is_word w ∙ from-T _ (word-is d.now.says)) refl refl)
          (record { said = ap said_of w ∙ said-is d.now.says; kept = marked-kept l; shows = marked-shows l; slots = marked-slots l })

  -- its own slot gets every word of the state's that is in use
  pub mark-slot : k ≤ 15 → used_of (slot_of (suc k) (mark_step k y).memory) ≡ used_of (slot_of 0 y)
  mark-slot l =
      let w = head_at_lem d.now 0 y h.now 4 (omega arith) in
      ap (λ (x : Step). used_of (slot_of (suc k) x.memory)) (sym (mark-done k y l (fits-fitting y h.fits) (ap is_word w ∙ from-T _ (word-is d.now.says)) refl refl))
      ∙ ap (λ i. used_of (slot_of i (marked_in k y))) (sym (add-one k))
      ∙ moved_here y h.fits 0 (k + 1) (omega arith) (omega arith) (newest k) (newest-long k)

  -- ---- back

  rank-there : k ≤ 15 → rank_in d.marks k ≡ get_or y.heads (85 + k) 0
  rank-there l = sym (sym (get_or-drop 85 y.heads k 0) ∙ ap (λ r. get_or r k 0) h.ranks ∙ tabulate-at 16 (rank_in d.marks) k 0 (omega arith))

  module _ (l : k ≤ 15) (s : State) (e : named k d.marks ≡ some s) where
    abbrev gone : Desk State
    gone = record { now = s; marks = through k d.marks }

    abbrev rank : ℕ
    rank = rank_in d.marks k

    ranked-there : rank ≡ 0 → ⊥
    ranked-there z = some-none (sym e ∙ rank-none k d.marks z)

    forgets-long : (r : List ℕ) → length (map (forgotten rank) r) ≡ length r
    forgets-long r = length-map r (forgotten rank)

    slot-there : ShowsState s (slot_of (k + 1) y)
    slot-there = subst (λ n. ShowsState s (slot_of n y)) (sym (add-one k)) (h.marks k s e)

    gone-kept : Kept gone
    gone-kept = record { now = g.marks k s e; marks = λ j u q. g.marks j u (named-through j k u d.marks q); once = once-through k d.marks g.once; names = names-through 16 k d.marks g.names }

    gone-shows : Shows gone (back_in k rank y)
    gone-shows =
        record {
          fits = moved-fits y h.fits (k + 1) 0 (omega arith) (omega arith) (map (forgotten rank)) forgets-long;
          now = shows-used s (slot_of (k + 1) y) (slot_of 0 (back_in k rank y)) (moved_here y h.fits (k + 1) 0 (omega arith) (omega arith) (map (forgotten rank)) forgets-long) slot-there;
          marks = λ j u q. let b = name_below 16 j u (through k d.marks) (names-through 16 k d.marks g.names) q in
              subst (ShowsState u) (sym (moved_other y h.fits (k + 1) 0 (omega arith) (omega arith) (map (forgotten rank)) forgets-long (suc j) (omega arith) (λ e. omega arith))) (h.marks j u (named-through j k u d.marks q));
          ranks = moved-ranks y h.fits (k + 1) 0 (omega arith) (omega arith) (map (forgotten rank)) forgets-long ∙ ap (map (forgotten rank)) h.ranks ∙ ranks-through k d.marks ranked-there;
        }

    gone-meets : Meets (λ j. ⊥) (gives gone) d y (back_step k y)
    gone-meets =
        let w = head_at_lem s (k + 1) y slot-there 4 (omega arith) in
        subst (Meets (λ j. ⊥) (gives gone) d y) (back_done k y l (fits-fitting y h.fits) rank (rank-there l) ranked-there (ap is_word w ∙ from-T _ (word-is s.says)) refl refl)
        (record { said = ap said_of w ∙ said-is s.says; kept = gone-kept; shows = gone-shows; slots = λ j b n. moved_other y h.fits (k + 1) 0 (omega arith) (omega arith) (map (forgotten rank)) forgets-long (suc j) (omega arith) (λ e. omega arith) })

    -- "restores every number of the state": every word of the slot that is in use
    pub back-slot : used_of (slot_of 0 (back_step k y).memory) ≡ used_of (slot_of (suc k) y)
    back-slot =
        let w = head_at_lem s (k + 1) y slot-there 4 (omega arith) in
        ap (λ (x : Step). used_of (slot_of 0 x.memory)) (sym (back_done k y l (fits-fitting y h.fits) rank (rank-there l) ranked-there (ap is_word w ∙ from-T _ (word-is s.says)) refl refl))
        ∙ moved_here y h.fits (k + 1) 0 (omega arith) (omega arith) (map (forgotten rank)) forgets-long
        ∙ ap (λ i. used_of (slot_of i y)) (add-one k)

  pub back-meets : Meets (λ j. ⊥) (call_answer (back k) d) d y (back_step k y)
  back-meets = at (leb k 15) refl
    where
      on : k ≤ 15 → (o : Option State) → named k d.marks ≡ o → Meets (λ j. ⊥) (or_refused 18 (restored k d o)) d y (back_step k y)
      on l none e = subst (Meets (λ j. ⊥) (refused 18) d y) (back-never k y l (fits-fitting y h.fits) (rank_in d.marks k) (rank-there l) (none-rank k d.marks e)) (refused-18 (λ j. ⊥))
      on l (some s) e = gone-meets l s e

      at : (b : Bool) → leb k 15 ≡ b → Meets (λ j. ⊥) (cond b (or_refused 18 (gone_back k d)) (refused 18)) d y (back_step k y)
      at false q = subst (Meets (λ j. ⊥) (refused 18) d y) (back-over k y (leb-false k 15 q)) (refused-18 (λ j. ⊥))
      at true q = on (leb-true k 15 q) (named k d.marks) refl
