-- Parts of a list that are copied to another place of it, or left as they were; the slots of a memory. Assumes nothing.
use mathlib.Core.Path.{◌≡◌, refl, sym, ap, ◌∙◌}
use mathlib.Core.List.{List, [], ◌++◌}
use mathlib.Core.Logic.{◌⊎◌, inl, inr, ⊎_elim}
use Prim.Native.Nat.{ℕ, ◌+◌, ◌-◌, ◌*◌, ◌≤◌, ◌<◌, min}
use native.Mathlib.Omega.{arith}
use lib.ListN.{length, get_or, take, drop, length-take, length-drop, length-append, get_or-append}
use lib.Seq.{take_all, take-take, length-paste, length_paste_head, length-take-le, get_or-take, get_or-drop, get_or-append-add, ext_get_or}
use Rattle.integers.specs.Part.{lt-or-le}
use Rattle.memory.specs.Memory.{Memory, Fits, copied, used_in, slot_copied, with_ranks, ranks_of}
use Rattle.feasibility.specs.Tableau.{no_row}
use Rattle.planning.specs.State.{State}
use Rattle.states.specs.Calls.{ranked}
use Rattle.reaching.specs.Shows.{Slot, window, slot_of, used_of, ShowsState}

module _ {A : Type 0} (d : A) where
  pub window-at : (n a : ℕ) (l : List A) (i : ℕ) → i < n → get_or (window n a l) i d ≡ get_or l (a + i) d
  window-at n a l i h = get_or-take n (drop a l) i d h ∙ get_or-drop a l i d

  pub window-long : (n a : ℕ) (l : List A) → a + n ≤ length l → length (window n a l) ≡ n
  window-long n a l h = length-take-le n (drop a l) (let q = length-drop a l in omega arith)

  -- two windows with the same elements
  pub window-is : (n a b : ℕ) (l m : List A) → a + n ≤ length l → b + n ≤ length m → ((i : ℕ) → i < n → get_or l (a + i) d ≡ get_or m (b + i) d) → window n a l ≡ window n b m
  window-is n a b l m f g h =
      let p = window-long n a l f in
      ext_get_or d (window n a l) (window n b m) (p ∙ sym (window-long n b m g)) (λ i k. let w : i < n = omega arith in window-at n a l i w ∙ h i w ∙ sym (window-at n b m i w))

  -- ---- a part copied

  module _ (n from to : ℕ) (l : List A) (source : from + n ≤ length l) (target : to + n ≤ length l) where
    room : n ≤ length (drop from l)
    room = let q = length-drop from l in omega arith

    pub copied-long : length (copied n from to l) ≡ length l
    copied-long = length-paste l to (drop from l) n target room

    abbrev head : List A
    head = take to l ++ take n (drop from l)

    head-long : length head ≡ to + n
    head-long = length_paste_head l to (drop from l) n (omega arith) room

    low-long : length (take to l) ≡ to
    low-long = length-take-le to l (omega arith)

    below : (i : ℕ) → i < to → get_or (copied n from to l) i d ≡ get_or l i d
    below i h =
        let q = head-long in
        let p = low-long in
        get_or-append head (drop (to + n) l) d i (omega arith) ∙ get_or-append (take to l) (take n (drop from l)) d i (omega arith) ∙ get_or-take to l i d h

    inside : (i : ℕ) → i < n → get_or (copied n from to l) (to + i) d ≡ get_or l (from + i) d
    inside i h =
        let q = head-long in
        get_or-append head (drop (to + n) l) d (to + i) (omega arith)
        ∙ ap (λ j. get_or head (j + i) d) (sym low-long)
        ∙ get_or-append-add (take to l) (take n (drop from l)) i d
        ∙ window-at n from l i h

    above : (i : ℕ) → to + n ≤ i → get_or (copied n from to l) i d ≡ get_or l i d
    above i h =
        let q = head-long in
        let e : i ≡ length head + (i - (to + n)) = omega arith in
        let f : to + n + (i - (to + n)) ≡ i = omega arith in
        ap (λ j. get_or (copied n from to l) j d) e ∙ get_or-append-add head (drop (to + n) l) (i - (to + n)) d ∙ get_or-drop (to + n) l (i - (to + n)) d ∙ ap (λ j. get_or l j d) f

    pub copied-here : window n to (copied n from to l) ≡ window n from l
    copied-here = let q = copied-long in window-is n to from (copied n from to l) l (omega arith) source inside

    pub copied-apart : (m a : ℕ) → (a + m ≤ to) ⊎ (to + n ≤ a) → a + m ≤ length l → window m a (copied n from to l) ≡ window m a l
    copied-apart m a (inl h) k = let q = copied-long in window-is m a a (copied n from to l) l (omega arith) k (λ i b. below (a + i) (omega arith))
    copied-apart m a (inr h) k = let q = copied-long in window-is m a a (copied n from to l) l (omega arith) k (λ i b. above (a + i) (omega arith))

-- ---- ranks

module _ (f : List ℕ → List ℕ) (h : List ℕ) (long : 85 ≤ length h) where
  low : length (take 85 h) ≡ 85
  low = length-take-le 85 h long

  pub ranks-put : drop 85 (with_ranks f h) ≡ f (drop 85 h)
  ranks-put = lib.Seq.drop_at (take 85 h) (f (drop 85 h)) 85 low

  pub ranks-below : (i : ℕ) → i < 85 → get_or (with_ranks f h) i 0 ≡ get_or h i 0
  ranks-below i b = let q = low in get_or-append (take 85 h) (f (drop 85 h)) 0 i (omega arith) ∙ get_or-take 85 h i 0 b

  pub ranks-apart : (i : ℕ) → i ≤ 16 → window 5 (5 * i) (with_ranks f h) ≡ window 5 (5 * i) h
  ranks-apart i b =
      let q = low in
      let e = length-append (take 85 h) (f (drop 85 h)) in
      window-is 0 5 (5 * i) (5 * i) (with_ranks f h) h (omega arith) (omega arith) (λ j c. ranks-below (5 * i + j) (omega arith))

  pub ranks-long : length (f (drop 85 h)) ≡ length (drop 85 h) → length (with_ranks f h) ≡ length h
  ranks-long g = let q = low in let e = length-append (take 85 h) (f (drop 85 h)) in let r = length-drop 85 h in omega arith

-- ---- slots

pub slot_is : {a a' : List (List ℕ)} {b b' c c' e e' : List ℕ} → a ≡ a' → b ≡ b' → c ≡ c' → e ≡ e'
    → ◌≡◌ {A = Slot} (record { rows = a; place = b; kinds = c; head = e }) (record { rows = a'; place = b'; kinds = c'; head = e' })
slot_is p q r s = cc

-- as many of 64 as there are
take-few : {A : Type 0} (m : ℕ) (l : List A) → take m (take 64 l) ≡ take (min 64 m) l
take-few m l = ⊎_elim under over (lt-or-le m 64)
  where
    under : m < 64 → take m (take 64 l) ≡ take (min 64 m) l
    under h = let e : m ≡ min 64 m = omega arith in take-take m 64 l (omega arith) ∙ ap (λ (j : ℕ). take j l) e

    over : 64 ≤ m → take m (take 64 l) ≡ take (min 64 m) l
    over h = let e : 64 ≡ min 64 m = omega arith in take_all m (take 64 l) (omega (arith, length-take 64 l)) ∙ ap (λ (j : ℕ). take j l) e

apart : (j to : ℕ) → (j ≡ to → ⊥) → ((j < to) ⊎ (to < j))
apart j to h = ⊎_elim inl (λ k. inr (omega arith)) (lt-or-le j to)

module _ (y : Memory) (f : Fits y) (from to : ℕ) (source : from ≤ 16) (target : to ≤ 16) where
  few-rows : used_in from y ≤ 64
  few-rows = omega arith

  head-there : window 5 (5 * to) (slot_copied from to y).heads ≡ window 5 (5 * from) y.heads
  head-there = let e = f.heads in copied-here 0 5 (5 * from) (5 * to) y.heads (omega arith) (omega arith)

  -- the words in use
  pub slot-copied : used_of (slot_of to (slot_copied from to y)) ≡ used_of (slot_of from y)
  slot-copied =
      let a = f.rows in
      let b = f.place in
      let c = f.kinds in
      let n = few-rows in
      let m : ℕ = get_or (window 5 (5 * from) y.heads) 3 0 in
      let e : min 64 m ≡ used_in from y = ap (min 64) (window-at 0 5 (5 * from) y.heads 3 (omega arith)) in
      slot_is
      (ap (λ (h : List ℕ). take (get_or h 3 0) (window 64 (64 * to) (slot_copied from to y).rows)) head-there
      ∙ take-few m (drop (64 * to) (slot_copied from to y).rows) ∙ ap (λ (j : ℕ). window j (64 * to) (slot_copied from to y).rows) e
      ∙ copied-here [] (used_in from y) (64 * from) (64 * to) y.rows (omega arith) (omega arith)
      ∙ ap (λ (j : ℕ). window j (64 * from) y.rows) (sym e) ∙ sym (take-few m (drop (64 * from) y.rows)))
      (copied-here 0 80 (80 * from) (80 * to) y.place (omega arith) (omega arith)) (copied-here 0 80 (80 * from) (80 * to) y.kinds (omega arith) (omega arith)) head-there

  pub slot-other : (j : ℕ) → j ≤ 16 → (j ≡ to → ⊥) → slot_of j (slot_copied from to y) ≡ slot_of j y
  slot-other j few n = ⊎_elim under over (apart j to n)
    where
      under : j < to → slot_of j (slot_copied from to y) ≡ slot_of j y
      under l =
          let m = few-rows in
          let a = f.rows in
          let b = f.place in
          let c = f.kinds in
          let e = f.heads in
          slot_is (copied-apart [] (used_in from y) (64 * from) (64 * to) y.rows (omega arith) (omega arith) 64 (64 * j) (inl (omega arith)) (omega arith)) (copied-apart 0 80 (80 * from) (80 * to) y.place (omega arith) (omega arith) 80 (80 * j) (inl (omega arith)) (omega arith))
          (copied-apart 0 80 (80 * from) (80 * to) y.kinds (omega arith) (omega arith) 80 (80 * j) (inl (omega arith)) (omega arith)) (copied-apart 0 5 (5 * from) (5 * to) y.heads (omega arith) (omega arith) 5 (5 * j) (inl (omega arith)) (omega arith))

      over : to < j → slot_of j (slot_copied from to y) ≡ slot_of j y
      over l =
          let m = few-rows in
          let a = f.rows in
          let b = f.place in
          let c = f.kinds in
          let e = f.heads in
          slot_is (copied-apart [] (used_in from y) (64 * from) (64 * to) y.rows (omega arith) (omega arith) 64 (64 * j) (inr (omega arith)) (omega arith)) (copied-apart 0 80 (80 * from) (80 * to) y.place (omega arith) (omega arith) 80 (80 * j) (inr (omega arith)) (omega arith))
          (copied-apart 0 80 (80 * from) (80 * to) y.kinds (omega arith) (omega arith) 80 (80 * j) (inr (omega arith)) (omega arith)) (copied-apart 0 5 (5 * from) (5 * to) y.heads (omega arith) (omega arith) 5 (5 * j) (inr (omega arith)) (omega arith))

  pub copied-ranks : ranks_of (slot_copied from to y) ≡ ranks_of y
  copied-ranks =
      let e = f.heads in
      let q = copied-long 0 5 (5 * from) (5 * to) y.heads (omega arith) (omega arith) in
      let p = length-drop 85 (slot_copied from to y).heads in
      let r = length-drop 85 y.heads in
      ext_get_or 0 (ranks_of (slot_copied from to y)) (ranks_of y) (omega arith)
      (λ i h. get_or-drop 85 (slot_copied from to y).heads i 0 ∙ above 0 5 (5 * from) (5 * to) y.heads (omega arith) (omega arith) (85 + i) (omega arith) ∙ sym (get_or-drop 85 y.heads i 0))

  pub copied-fits : Fits (slot_copied from to y)
  copied-fits =
      let m = few-rows in
      let a = f.rows in
      let b = f.place in
      let c = f.kinds in
      let e = f.heads in
      record {
        rows = copied-long [] (used_in from y) (64 * from) (64 * to) y.rows (omega arith) (omega arith) ∙ a;
        place = copied-long 0 80 (80 * from) (80 * to) y.place (omega arith) (omega arith) ∙ b;
        kinds = copied-long 0 80 (80 * from) (80 * to) y.kinds (omega arith) (omega arith) ∙ c;
        heads = copied-long 0 5 (5 * from) (5 * to) y.heads (omega arith) (omega arith) ∙ e;
      }

-- a state is shown by the words in use
pub shows-used : (s : State) (x z : Slot) → used_of z ≡ used_of x → ShowsState s x → ShowsState s z
shows-used s x z e h =
    let there : z.head ≡ x.head = ap (λ (u : Slot). u.head) e in
    let places : z.place ≡ x.place = ap (λ (u : Slot). u.place) e in
    let m : ℕ = length s.tableau.rows in
    let mx : get_or x.head 3 0 ≡ m = ap (λ (l : List ℕ). get_or l 3 0) h.head in
    let mz : get_or z.head 3 0 ≡ m = ap (λ (l : List ℕ). get_or l 3 0) there ∙ mx in
    record {
      head = there ∙ h.head;
      rows = ap (λ (j : ℕ). take j z.rows) (sym mz) ∙ ap (λ (u : Slot). u.rows) e ∙ ap (λ (j : ℕ). take j x.rows) mx ∙ h.rows;
      row_places = λ i l. ap (λ (p : List ℕ). get_or p (get_or s.tableau.rows i no_row).var 0) places ∙ h.row_places i l;
      column_places = λ j l. ap (λ (p : List ℕ). get_or p (get_or s.tableau.cols j 0) 0) places ∙ h.column_places j l;
      kinds = ap (λ (u : Slot). take (length s.kinds) u.kinds) e ∙ h.kinds;
    }

-- a slot does not look at the ranks
pub slot-ranked : (f : List ℕ → List ℕ) (y : Memory) → Fits y → (i : ℕ) → i ≤ 16 → slot_of i (ranked f y) ≡ slot_of i y
slot-ranked f y g i h = let e = g.heads in slot_is refl refl refl (ranks-apart f y.heads (omega arith) i h)
