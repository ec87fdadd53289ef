-- Turns, by the tests that are made of them.
use mathlib.Core.Path.{◌≡◌, refl, ap, ap₂, sym, ◌∙◌}
use mathlib.Core.Bool.{Bool, true, false, not, ◌&&◌, ◌||◌, cond}
use mathlib.Core.List.{List, [], ◌∷◌, ◌++◌}
use Prim.Native.Nat.{ℕ, zero, suc, ◌+◌, ◌-◌, ◌≤◌, ◌<◌}
use native.Mathlib.Numerals.{add-one}
use native.Mathlib.Omega.{arith}
use borrow.Author.Tests.{lt-ltb, le-ltb, le-leb, lt-leb, eqb-true, leb-true, leb-false}
use lib.Dec.{ltb, leb, eqb}
use lib.IntN.{pos}
use lib.ListN.{length, get_or, take, drop, length-take, length-drop, drop_of_length-le}
use lib.Seq.{drop-cons}
use Rattle.model.specs.Lists.{all}
use Rattle.std.proofs.Common.{Option, Some, None}
use Rattle.codec.specs.Bytes.{Answer, refused, gives, is_opening, is_division, head_of, body_in, width_of, read_division, read_constraint, kind_of, first_failing}
use Rattle.listing.specs.Text as T
use Rattle.session.specs.Script.{room, is_binary, fixed_width, load_length, command_width, in_place, ending, execute}
use Rattle.session.specs.Turns.{Memory, Turned, quiet, state_at, state_of, table_at, goes_on, line_of, past, there, line_turn, front_of, front_turn, turn_in, turn_of, cursor_fits, usable, Fitted}
use Rattle.session.specs.declared.Cursor.{Cursor}
use Rattle.session.specs.declared.State.{State}
use Rattle.session.specs.declared.Next.TheVariants.{Goes, Reads, Misused}
use Rattle.listing.proofs.LineTexts.{one_number}
use Rattle.session.proofs.Commands.{no}

-- ---- the lines of a listing

module _ (n : ℕ) (c : Cursor) (b : ℕ) (t : List ℕ) where
  -- by the tests of its first byte
  abbrev lines : Bool → Bool → List ℕ
  lines x y = cond x (T.line "basic" (pos (c.basics + 1) ∷ [])) (cond y (T.division_line n (read_division (head_of b t) (body_in b t))) (T.constraint_line n c.divisions (read_constraint (kind_of b) (body_in b t))))

  pub line-opening : is_opening b ≡ true → T.line "basic" (pos (c.basics + 1) ∷ []) ≡ line_of n c b t
  line-opening e = sym (ap (λ (x : Bool). lines x (is_division b)) e)

  pub line-basic : is_opening b ≡ true → T.codes "basic" ++ (T.number (pos (c.basics + 1)) ++ (10 ∷ [])) ≡ line_of n c b t
  line-basic e = one_number (T.codes "basic") (c.basics + 1) ∙ line-opening e

  pub line-division : is_opening b ≡ false → is_division b ≡ true → T.division_line n (read_division (head_of b t) (body_in b t)) ≡ line_of n c b t
  line-division p q = sym (ap₂ lines p q)

  pub line-constraint : is_opening b ≡ false → is_division b ≡ false → T.constraint_line n c.divisions (read_constraint (kind_of b) (body_in b t)) ≡ line_of n c b t
  line-constraint p q = sym (ap₂ lines p q)

module _ (n : ℕ) (y : Memory) (c : Cursor) (s : List ℕ) (p : ℕ) where
  pub over-end : length s ≤ p → line_turn n y c (drop p s) ≡ quiet (state_at n None) y Goes
  over-end h = ap (line_turn n y c) (drop_of_length-le s h)

  module _ (h : p < length s) (w : ℕ) (e : w ≡ width_of (get_or s p 0)) where
    split : drop p s ≡ get_or s p 0 ∷ drop (p + 1) s
    split = rw (add-one, drop-cons s p 0 h)

    left : suc (length (drop (p + 1) s)) ≡ length s - p
    left = omega (arith, length-drop (p + 1) s)

    abbrev shows : Bool → Turned
    shows x = cond x (record { text = line_of n c (get_or s p 0) (drop (p + 1) s); used = 0; state = state_at n (Some (past c (get_or s p 0))); next = Goes; memory = y }) (quiet (state_at n None) y Goes)

    by_tests : (x z : Bool) → ltb 0 (width_of (get_or s p 0)) ≡ x → leb (width_of (get_or s p 0)) (suc (length (drop (p + 1) s))) ≡ z → line_turn n y c (drop p s) ≡ shows (x && z)
    by_tests x z q r = ap (line_turn n y c) split ∙ ap₂ (λ (x z : Bool). shows (x && z)) q r

    pub over-unknown : w ≡ 0 → line_turn n y c (drop p s) ≡ quiet (state_at n None) y Goes
    over-unknown z = by_tests false (leb (width_of (get_or s p 0)) (suc (length (drop (p + 1) s)))) (le-ltb 0 (width_of (get_or s p 0)) (omega arith)) refl

    pub over-cut : ¬ (w ≡ 0) → length s - p < w → line_turn n y c (drop p s) ≡ quiet (state_at n None) y Goes
    over-cut z k = let l = left in by_tests true false (lt-ltb 0 (width_of (get_or s p 0)) (omega arith)) (lt-leb (width_of (get_or s p 0)) (suc (length (drop (p + 1) s))) (omega arith))

    pub line-there : ¬ (w ≡ 0) → w ≤ length s - p
        → line_turn n y c (drop p s) ≡ record { text = line_of n c (get_or s p 0) (drop (p + 1) s); used = 0; state = state_at n (Some (past c (get_or s p 0))); next = Goes; memory = y }
    line-there z k = let l = left in by_tests true true (lt-ltb 0 (width_of (get_or s p 0)) (omega arith)) (le-leb (width_of (get_or s p 0)) (suc (length (drop (p + 1) s))) (omega arith))

-- ---- what is lent

pub and_left : (x y : Bool) → (x && y) ≡ true → x ≡ true
and_left true y e = refl
and_left false y e = no e

pub and_right : (x y : Bool) → (x && y) ≡ true → y ≡ true
and_right true y e = e
and_right false y e = no e

pub all_fit : (l : List ℕ) → all (λ (x : ℕ). leb x room) l ≡ true → (m : ℕ) → get_or l m 0 ≤ room
all_fit [] e m = omega arith
all_fit (x ∷ l) e zero = leb-true x room (and_left (leb x room) (all (λ (x : ℕ). leb x room) l) e)
all_fit (x ∷ l) e (suc m) = all_fit l (and_right (leb x room) (all (λ (x : ℕ). leb x room) l) e) m

-- ---- a turn

module _ (st : State) (y : Memory) (w : ℕ) (ended : Bool) (s : List ℕ) where
  pub turn-misused : usable st y w ≡ false → turn_of st y w ended s ≡ quiet st y Misused
  unfolding turn_of
  turn-misused e = ap (λ (x : Bool). cond x (turn_in st y ended s st.listing) (quiet st y Misused)) e

  pub turn_in_lem : usable st y w ≡ true → (l : Option Cursor) → st.listing ≡ l → turn_of st y w ended s ≡ turn_in st y ended s l
  unfolding turn_of
  turn_in_lem e l q = ap (λ (x : Bool). cond x (turn_in st y ended s st.listing) (quiet st y Misused)) e ∙ ap (turn_in st y ended s) q

pub lent-fitted : (st : State) (y : Memory) (w : ℕ) → usable st y w ≡ true → Fitted y.tables y.lengths
unfolding usable
lent-fitted st y w e =
    let p1 : Bool = eqb (length y.tables) 32000 in let p2 : Bool = eqb (length y.lengths) 4 in let p3 : Bool = all (λ (l : ℕ). leb l room) y.lengths in
    let p4 : Bool = eqb (length y.result) room && (leb 512 w && (leb st.axes 8 && cursor_fits y.lengths st.listing)) in
    let e1 = and_right p1 (p2 && (p3 && p4)) e in
    let e2 = and_right p2 (p3 && p4) e1 in
    record {
      tables_long = eqb-true (length y.tables) 32000 (and_left p1 (p2 && (p3 && p4)) e);
      lengths_long = eqb-true (length y.lengths) 4 (and_left p2 (p3 && p4) e1);
      fit = all_fit y.lengths (and_left p3 p4 e2);
    }

-- ---- how much input a turn uses, and how much it waits for

length_most : (b : ℕ) → fixed_width b ≤ 70
length_most b = by (eqb b 0x00) (eqb b 0x10) (eqb b 0x40 || is_binary b) (eqb b 0x44) (eqb b 0x45) (eqb b 0x46) (eqb b 0x47)
  where
    by : (p q r t u v x : Bool) → cond p 1 (cond q 2 (cond r 4 (cond t 3 (cond u 2 (cond v 34 (cond x 70 0)))))) ≤ 70
    by true q r t u v x = omega arith
    by false true r t u v x = omega arith
    by false false true t u v x = omega arith
    by false false false true u v x = omega arith
    by false false false false true v x = omega arith
    by false false false false false true x = omega arith
    by false false false false false false true = omega arith
    by false false false false false false false = omega arith

load-most : (s : List ℕ) → ((i : ℕ) → get_or s i 0 < 256) → load_length s < 65536
load-most [] h = omega arith
load-most (a ∷ []) h = omega arith
load-most (a ∷ b ∷ []) h = omega arith
load-most (a ∷ b ∷ c ∷ []) h = let x = h 2 in omega arith
load-most (a ∷ b ∷ c ∷ d ∷ s) h = let x = h 2 in let y = h 3 in omega arith

-- `40` with 65,535 bytes is the longest command
command-most : (b : ℕ) (s : List ℕ) → ((i : ℕ) → get_or (b ∷ s) i 0 < 256) → command_width (b ∷ s) ≤ 65539
command-most b s h = by (eqb b 0x40) refl
  where
    by : (x : Bool) → eqb b 0x40 ≡ x → fixed_width b + cond x (load_length (b ∷ s)) 0 ≤ 65539
    by true e = let f : fixed_width b ≡ 4 = ap fixed_width (eqb-true b 0x40 e) in let l = load-most (b ∷ s) h in omega arith
    by false e = let f = length_most b in omega arith

not-reads : (x : Bool) {X : Type 0} → goes_on x ≡ Reads → X
not-reads true e = let z : ◌≡◌ {A = ℕ} 0 1 = cc in absurd (omega arith)
not-reads false e = let z : ◌≡◌ {A = ℕ} 0 1 = cc in absurd (omega arith)

front-short : (st : State) (y : Memory) (e : Bool) (s : List ℕ) → ((i : ℕ) → get_or s i 0 < 256) → (front_turn st y s (front_of st.axes e s)).next ≡ Reads → length s < 65539
unfolding front_of ending
front-short st y e [] h q = omega arith
front-short st y e (b ∷ s) h q = by (leb (command_width (b ∷ s)) (suc (length s))) refl (ltb 0 (fixed_width b)) (in_place st.axes b) q
  where
    by : (r : Bool) → leb (command_width (b ∷ s)) (suc (length s)) ≡ r → (p o : Bool)
        → (front_turn st y (b ∷ s) (elim (first_failing ((p, 2) ∷ (o, 15) ∷ (r, 3) ∷ [])) [ zero ↦ gives (Some (command_width (b ∷ s))) | suc k ↦ cond (eqb (suc k) 3 && not e) (gives None) (refused (suc k)) ])).next ≡ Reads → suc (length s) < 65539
    by false z p o q = let l = leb-false (command_width (b ∷ s)) (suc (length s)) z in let m = command-most b s h in omega arith
    by true z true true q = not-reads (execute (state_of st.axes y) (take (command_width (b ∷ s)) (b ∷ s))).goes q
    by true z true false q = not-reads false q
    by true z false o q = not-reads false q

front-ended : (axes : ℕ) (e : Bool) (s : List ℕ) → e ≡ true → ¬ (front_of axes e s ≡ gives None)
unfolding front_of
front-ended axes e s d = by (ending axes s) e d
  where
    by : (k : ℕ) (e : Bool) → e ≡ true → ¬ (elim k [ zero ↦ gives (Some (command_width s)) | suc k ↦ cond (eqb (suc k) 3 && not e) (gives None) (refused (suc k)) ] ≡ gives None)
    by zero e d q = let z : ◌≡◌ {A = ℕ} 0 1 = cc in omega arith
    by (suc k) false d q = no d
    by (suc k) true d q = stop (eqb (suc k) 3) q
      where
        stop : (x : Bool) → ¬ (◌≡◌ {A = Answer (Option ℕ)} (cond (x && false) (gives None) (refused (suc k))) (gives None))
        stop true q = let z : ◌≡◌ {A = ℕ} 0 1 = cc in omega arith
        stop false q = let z : ◌≡◌ {A = ℕ} 0 1 = cc in omega arith

module _ (st : State) (y : Memory) (w : ℕ) (e : Bool) (s : List ℕ) where
  abbrev turn_by : Bool → Option Cursor → Turned
  turn_by x l = cond x (turn_in st y e s l) (quiet st y Misused)

  pub turn-used : (turn_of st y w e s).used ≤ length s
  unfolding turn_of
  turn-used = at (usable st y w) st.listing
    where
      line : (c : Cursor) (t : List ℕ) → (line_turn st.axes y c t).used ≤ length s
      line c [] = omega arith
      line c (b ∷ t) = by (there (b ∷ t))
        where
          by : (x : Bool) → (cond x (record { text = line_of st.axes c b t; used = 0; state = state_at st.axes (Some (past c b)); next = Goes; memory = y }) (quiet (state_at st.axes None) y Goes)).used ≤ length s
          by true = omega arith
          by false = omega arith

      front : (f : Answer (Option ℕ)) → (front_turn st y s f).used ≤ length s
      front (gives (Some k)) = omega (arith, length-take k s)
      front (gives None) = omega arith
      front (refused k) = omega arith

      at : (x : Bool) (l : Option Cursor) → (turn_by x l).used ≤ length s
      at false l = omega arith
      at true (Some c) = line c (drop c.place (table_at y.tables y.lengths c.set))
      at true None = front (front_of st.axes e s)

  -- a turn that waits for more has less than the longest command
  pub turn-short : ((i : ℕ) → get_or s i 0 < 256) → (turn_of st y w e s).next ≡ Reads → length s < 65539
  unfolding turn_of
  turn-short h = at (usable st y w) st.listing
    where
      line : (c : Cursor) (t : List ℕ) → (line_turn st.axes y c t).next ≡ Reads → length s < 65539
      line c [] = not-reads true
      line c (b ∷ t) = by (there (b ∷ t))
        where
          by : (x : Bool) → (cond x (record { text = line_of st.axes c b t; used = 0; state = state_at st.axes (Some (past c b)); next = Goes; memory = y }) (quiet (state_at st.axes None) y Goes)).next ≡ Reads → length s < 65539
          by true = not-reads true
          by false = not-reads true

      at : (x : Bool) (l : Option Cursor) → (turn_by x l).next ≡ Reads → length s < 65539
      at false l q = let z : ◌≡◌ {A = ℕ} 0 1 = cc in absurd (omega arith)
      at true (Some c) q = line c (drop c.place (table_at y.tables y.lengths c.set)) q
      at true None q = front-short st y e s h q

  -- what is lent rightly is not misused, and where the input has ended nothing is waited for
  pub turn-next : usable st y w ≡ true → ¬ ((turn_of st y w e s).next ≡ Misused) × (e ≡ true → ¬ ((turn_of st y w e s).next ≡ Reads))
  unfolding turn_of
  turn-next u = at (usable st y w) u st.listing
    where
      goes : (x : Bool) → ¬ (goes_on x ≡ Misused)
      goes true q = let z : ◌≡◌ {A = ℕ} 0 1 = cc in omega arith
      goes false q = let z : ◌≡◌ {A = ℕ} 0 1 = cc in omega arith

      line : (c : Cursor) (t : List ℕ) → (line_turn st.axes y c t).next ≡ Goes
      line c [] = refl
      line c (b ∷ t) = by (there (b ∷ t))
        where
          by : (x : Bool) → (cond x (record { text = line_of st.axes c b t; used = 0; state = state_at st.axes (Some (past c b)); next = Goes; memory = y }) (quiet (state_at st.axes None) y Goes)).next ≡ Goes
          by true = refl
          by false = refl

      front : (f : Answer (Option ℕ)) → (e ≡ true → ¬ (f ≡ gives None)) → ¬ ((front_turn st y s f).next ≡ Misused) × (e ≡ true → ¬ ((front_turn st y s f).next ≡ Reads))
      front (gives (Some k)) h = (goes (execute (state_of st.axes y) (take k s)).goes, λ d. not-reads (execute (state_of st.axes y) (take k s)).goes)
      front (gives None) h = (λ q. let z : ◌≡◌ {A = ℕ} 0 1 = cc in omega arith, λ d q. h d refl)
      front (refused k) h = (goes false, λ d. not-reads false)

      at : (x : Bool) → x ≡ true → (l : Option Cursor) → ¬ ((turn_by x l).next ≡ Misused) × (e ≡ true → ¬ ((turn_by x l).next ≡ Reads))
      at false q l = no q
      at true q (Some c) =
          let g = line c (drop c.place (table_at y.tables y.lengths c.set)) in
          (λ q. goes true (sym g ∙ q), λ d q. not-reads true (sym g ∙ q))
      at true q None = front (front_of st.axes e s) (λ d. front-ended st.axes e s d)
