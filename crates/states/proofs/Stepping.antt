-- Each way that a call ends, on any memory. Assumes nothing.
use mathlib.Core.Path.{◌≡◌, refl, sym, ap, ap₂, ◌∙◌}
use mathlib.Core.Bool.{true, false, cond}
use mathlib.Core.List.{List, [], ◌∷◌, ◌++◌, map}
use mathlib.Core.Option.{none, some}
use Prim.Native.Nat.{ℕ, zero, suc, ◌+◌, ◌*◌, ◌/◌, ◌%◌, ◌≤◌, ◌<◌}
use native.Mathlib.Omega.{arith}
use borrow.Author.Tests.{le-leb, lt-leb, eq-eqb, ne_eqb}
use lib.IntN.{ℤ}
use lib.ListN.{length, get_or, set, take, drop, length-drop}
use lib.Seq.{length-paste, get_or-set_other}
use Rattle.integers.specs.Size.{bound}
use Rattle.model.specs.Sets.{Constraint}
use Rattle.wide_tableau.specs.Cells.{rows_of}
use Rattle.planning.specs.State.{start_refusal}
use Rattle.drafting.specs.Sketch.{rule_row}
use Rattle.memory.specs.Memory.{Memory, memory, fitting, slot_copied, head_at, with_ranks, forgotten, Fits}
use Rattle.memory.proofs.Copies.{memory-is}
use Rattle.simplex.specs.Table.{Ending, kind_number}
use Rattle.memory.specs.Sound.{is_word, sound}
use Rattle.states.specs.Calls.{Saying}
use Rattle.states.specs.Calls.{Refused, Misused}
use Rattle.rules.specs.Rules.{rule_number}
use Rattle.rules.specs.Divisions.{divisions_in}
use Rattle.states.specs.Calls.{Step, stepped, said_of, ranked, marked_in, mark_step, back_in, back_by, back_step, first_kinds, opens, start_end, start_by, start_step, says, saying, goes_on, grown_by, grown_in, counted_in, joined_in, add_by, add_step}
use Rattle.states.specs.Parts.{Ran, Grew}

pub stepped-is : {x x' : Saying} {y y' : Memory} → x ≡ x' → y ≡ y' → stepped x y ≡ stepped x' y'
stepped-is a b = cc

-- the ranks changed behind the heads
pub ranked-is : {r : List (List ℕ)} {p k h n : List ℕ} (f : List ℕ → List ℕ) {z : Memory} → memory r p k h ≡ z → n ≡ with_ranks f h → memory r p k n ≡ ranked f z
ranked-is {r} {p} {k} {h} f e q = ap (memory r p k) q ∙ ap (ranked f) e

-- the heads keep their number
pub heads-copied : (from to : ℕ) (y : Memory) → Fits y → from ≤ 16 → to ≤ 16 → length (slot_copied from to y).heads ≡ 101
heads-copied from to y f a b =
    let h = f.heads in
    let d = length-drop (5 * from) y.heads in
    length-paste y.heads (5 * to) (drop (5 * from) y.heads) 5 (omega arith) (omega arith) ∙ h

-- ---- mark
module _ (k : ℕ) (y : Memory) where
  pub mark-over : 15 < k → stepped (Refused 18) y ≡ mark_step k y
  unfolding mark_step
  mark-over h = rw (lt-leb k 15 h)

  module _ (h : k ≤ 15) where
    pub mark-unfit : fitting y ≡ false → stepped Misused y ≡ mark_step k y
    unfolding mark_step
    mark-unfit e = rw (le-leb k 15 h, e)

    pub mark-none : fitting y ≡ true → is_word (head_at 0 4 y) ≡ false → stepped Misused y ≡ mark_step k y
    unfolding mark_step
    mark-none e w = rw (le-leb k 15 h, e, w)

    pub mark-done : fitting y ≡ true → is_word (head_at 0 4 y) ≡ true → {x : Saying} {z : Memory} → x ≡ said_of (head_at 0 4 y) → z ≡ marked_in k y → stepped x z ≡ mark_step k y
    unfolding mark_step
    mark-done e w a b = rw (le-leb k 15 h, e, w) (stepped-is a b)

-- ---- back
module _ (k : ℕ) (y : Memory) where
  pub back-over : 15 < k → stepped (Refused 18) y ≡ back_step k y
  unfolding back_step
  back-over h = rw (lt-leb k 15 h)

  module _ (h : k ≤ 15) where
    pub back-unfit : fitting y ≡ false → stepped Misused y ≡ back_step k y
    unfolding back_step
    back-unfit e = rw (le-leb k 15 h, e)

    module _ (e : fitting y ≡ true) (rank : ℕ) (q : rank ≡ get_or y.heads (85 + k) 0) where
      by : back_step k y ≡ back_by k rank y
      unfolding back_step
      by = rw (le-leb k 15 h, e) (ap (λ r. back_by k r y) (sym q))

      pub back-never : rank ≡ 0 → stepped (Refused 18) y ≡ back_step k y
      back-never z = sym (by ∙ ap (λ b. cond b (stepped (Refused 18) y) (cond (is_word (head_at (k + 1) 4 y)) (stepped (said_of (head_at (k + 1) 4 y)) (back_in k rank y)) (stepped Misused y))) (eq-eqb rank 0 z))

      pub back_none : (rank ≡ 0 → ⊥) → is_word (head_at (k + 1) 4 y) ≡ false → stepped Misused y ≡ back_step k y
      back_none z w = sym (by ∙ ap₂ (λ b d. cond b (stepped (Refused 18) y) (cond d (stepped (said_of (head_at (k + 1) 4 y)) (back_in k rank y)) (stepped Misused y))) (ne_eqb rank 0 z) w)

      pub back_done : (rank ≡ 0 → ⊥) → is_word (head_at (k + 1) 4 y) ≡ true → {x : Saying} {z : Memory} → x ≡ said_of (head_at (k + 1) 4 y) → z ≡ back_in k rank y → stepped x z ≡ back_step k y
      back_done z w a b = sym (by ∙ ap₂ (λ b d. cond b (stepped (Refused 18) y) (cond d (stepped (said_of (head_at (k + 1) 4 y)) (back_in k rank y)) (stepped Misused y))) (ne_eqb rank 0 z) w ∙ sym (stepped-is a b))

-- ---- start
module _ (n : ℕ) (xs : List ℤ) (y : Memory) where
  pub start-unfit : fitting y ≡ false → stepped Misused y ≡ start_step n xs y
  unfolding start_step
  start-unfit e = rw e

  pub start-broken : fitting y ≡ true → (length xs % 10 ≡ 0 → ⊥) → stepped Misused y ≡ start_step n xs y
  unfolding start_step
  start-broken e h = rw (e, ne_eqb (length xs % 10) 0 h)

  module _ (e : fitting y ≡ true) (h : length xs % 10 ≡ 0) (r : ℕ) (q : r ≡ start_refusal n (divisions_in (length xs / 10) xs)) where
    by-start : start_step n xs y ≡ start_by r n (length xs / 10) (divisions_in (length xs / 10) xs) y
    unfolding start_step
    by-start = rw (e, eq-eqb (length xs % 10) 0 h) (ap (λ r. start_by r n (length xs / 10) (divisions_in (length xs / 10) xs) y) (sym q))

    pub start-refused : (r ≡ 0 → ⊥) → stepped (Refused r) y ≡ start_step n xs y
    start-refused z = some r z ∙ sym by-start
      where
        some : (r : ℕ) → (r ≡ 0 → ⊥) → stepped (Refused r) y ≡ start_by r n (length xs / 10) (divisions_in (length xs / 10) xs) y
        some zero z = absurd (z refl)
        some (suc r) z = refl

    pub start-done : r ≡ 0 → {s : Step} → s ≡ opens n (length xs / 10) (start_end (length xs / 10) (divisions_in (length xs / 10) xs)) y → s ≡ start_step n xs y
    start-done z a = a ∙ ap (λ r. start_by r n (length xs / 10) (divisions_in (length xs / 10) xs) y) (sym z) ∙ sym by-start

-- the tables of a state that was begun
pub opens-is : (n k : ℕ) (y : Memory) {e : Ending} {w : ℕ} {x : Saying} {t : List (List ℕ)} {p k' h₁ h₂ : List ℕ} → Ran e w t p → k' ≡ first_kinds k
    → h₁ ≡ (n ∷ k ∷ 0 ∷ (2 * k) ∷ w ∷ []) ++ drop 5 y.heads → h₂ ≡ with_ranks (map (forgotten 0)) h₁ → x ≡ said_of w
    → stepped x (memory (t ++ drop (2 * k) y.rows) (p ++ drop (8 + k + 2 * k) y.place) (k' ++ drop (8 + k + 2 * k) y.kinds) h₂) ≡ opens n k e y
opens-is n k y r kk a b s =
    let ww = r.word in
    let z = b ∙ ap (with_ranks (map (forgotten 0))) (a ∙ ap (λ (v : ℕ). (n ∷ k ∷ 0 ∷ (2 * k) ∷ v ∷ []) ++ drop 5 y.heads) ww) in
    stepped-is (s ∙ ap said_of ww)
    (memory-is (ap (λ l. l ++ drop (2 * k) y.rows) r.rows) (ap (λ l. l ++ drop (8 + k + 2 * k) y.place) r.place_is) (ap (λ l. l ++ drop (8 + k + 2 * k) y.kinds) kk) z)

pub head-long : (n k w : ℕ) (heads : List ℕ) → length heads ≡ 101 → length ((n ∷ k ∷ 0 ∷ (2 * k) ∷ w ∷ []) ++ drop 5 heads) ≡ 101
head-long n k w heads e = let d = length-drop 5 heads in omega arith

-- ---- add
module _ (r : Constraint) (y : Memory) where
  pub add-unfit : fitting y ≡ false → stepped Misused y ≡ add_step r y
  unfolding add_step
  add-unfit e = rw e

  module _ (e : fitting y ≡ true) where
    pub add-unsound : sound y ≡ false → stepped Misused y ≡ add_step r y
    unfolding add_step
    add-unsound h = rw (e, h)

    module _ (h : sound y ≡ true) (x : ℕ) (q : x ≡ rule_number (head_at 0 0 y) (head_at 0 1 y) (head_at 0 2 y) r) where
      by-add : add_step r y ≡ add_by x r y
      unfolding add_step
      by-add = rw (e, h) (ap (λ x. add_by x r y) (sym q))

      pub add-refused : (x ≡ 0 → ⊥) → stepped (Refused x) y ≡ add_step r y
      add-refused z = some x z ∙ sym by-add
        where
          some : (x : ℕ) → (x ≡ 0 → ⊥) → stepped (Refused x) y ≡ add_by x r y
          some zero z = absurd (z refl)
          some (suc x) z = refl

      pub add_done : x ≡ 0 → {s : Step} → s ≡ says (joined_in r y) → s ≡ add_step r y
      add_done z a = a ∙ ap (λ x. add_by x r y) (sym z) ∙ sym by-add

-- the state says another word than point
pub joined-other : (r : Constraint) (y : Memory) {x : Saying} → (head_at 0 4 y ≡ 1 → ⊥) → x ≡ said_of (head_at 0 4 y) → stepped x (counted_in y) ≡ says (joined_in r y)
joined-other r y z s =
    let b = ne_eqb (head_at 0 4 y) 1 z in
    let g = get_or-set_other y.heads 2 4 (head_at 0 2 y + 1) 0 (λ e. omega arith) in
    stepped-is (s ∙ ap said_of (sym g)) refl ∙ ap (λ c. says (cond c (grown_in (head_at 0 1 y) (head_at 0 3 y) r (counted_in y)) (counted_in y))) (sym b)

pub joined-point : (r : Constraint) (y : Memory) {x : Saying} {z : Memory} → head_at 0 4 y ≡ 1 → z ≡ grown_in (head_at 0 1 y) (head_at 0 3 y) r (counted_in y) → x ≡ said_of (head_at 0 4 z) → stepped x z ≡ says (joined_in r y)
joined-point r y e g s =
    stepped-is s refl ∙ ap says g ∙ ap (λ c. says (cond c (grown_in (head_at 0 1 y) (head_at 0 3 y) r (counted_in y)) (counted_in y))) (sym (eq-eqb (head_at 0 4 y) 1 e))

-- a row beyond the bound, or one that joins
pub grown-wide : (k m : ℕ) (r : Constraint) (y : Memory) → rule_row (bound 128) k (rows_of (take m y.rows)) (take (8 + k + m) y.place) r ≡ none → saying 3 y ≡ grown_in k m r y
unfolding grown_in
grown-wide k m r y e = ap (λ o. grown_by k m (kind_number (some r.kind)) o y) (sym e)

pub grown-row : (k m kind : ℕ) (r : Constraint) (y : Memory) (row : List ℤ) {w : ℕ} {t : List (List ℕ)} {p κ : List ℕ} → rule_row (bound 128) k (rows_of (take m y.rows)) (take (8 + k + m) y.place) r ≡ some row
    → kind ≡ kind_number (some r.kind) → Grew k m kind (goes_on k m kind row y) w y.rows t y.place p y.kinds κ → memory t p κ (set (set y.heads 4 w) 3 (m + 1)) ≡ grown_in k m r y
unfolding grown_in
grown-row k m kind r y row e q g =
    memory-is g.rows_are g.place_is g.kinds_are (ap (λ v. set (set y.heads 4 v) 3 (m + 1)) g.word)
    ∙ ap₂ (λ o j. grown_by k m j o y) (sym e) q
