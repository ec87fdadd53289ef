-- What the commands of a script do, by the tests that are made of them.
use mathlib.Core.Path.{◌≡◌, refl, ap, ap₂, sym, subst}
use mathlib.Core.Bool.{Bool, true, false, ◌&&◌, ◌||◌, cond}
use mathlib.Core.List.{List, [], ◌∷◌}
use Prim.Native.Nat.{ℕ, zero, suc, ◌+◌, ◌≤◌, ◌<◌}
use native.Mathlib.Omega.{arith}
use borrow.Author.Tests.{eqb-true, leb-true, ne_eqb}
use lib.Dec.{leb, eqb}
use lib.ListN.{length, get_or, take, drop}
use Rattle.model.specs.Lists.{all}
use Rattle.codec.specs.Bytes.{Answer, refused, gives, decode, value_of}
use Rattle.algebra.specs.Operations.{union_bytes, intersection_bytes, difference_bytes, complement_bytes}
use Rattle.query.specs.Member.{member_bytes}
use Rattle.enumeration.specs.Search.{search_bytes}
use Rattle.listing.specs.Text as T
use Rattle.session.specs.Script.{State, Done, room, set_at, is_binary, fixed_width, load_length, command_width, set_numbers, says, ends, refused_line, opened, stored, load_bytes, told, member_line, search_line, coordinates, perform, execute}
use Rattle.session.specs.Turns.{state_in, table_at, Effect, none, assigns, listed, is_assignment, answer_of, performs, effect_of}

-- a test cannot be both
pub no : {X : Type 0} → false ≡ true → X
no e = let z : ◌≡◌ {A = ℕ} 0 1 = ap (λ (b : Bool). cond b 1 0) e in absurd (omega arith)

-- ---- `40` to `44`

-- what holds of each of them
pub by-command : (P : ℕ → Type 0) → P 0x40 → P 0x41 → P 0x42 → P 0x43 → P 0x44 → (b : ℕ) → is_assignment b ≡ true → P b
by-command P p0 p1 p2 p3 p4 b e = go (eqb b 0x40) refl (eqb b 0x41) refl (eqb b 0x42) refl (eqb b 0x43) refl (eqb b 0x44) refl e
  where
    go : (x0 : Bool) → eqb b 0x40 ≡ x0 → (x1 : Bool) → eqb b 0x41 ≡ x1 → (x2 : Bool) → eqb b 0x42 ≡ x2 → (x3 : Bool) → eqb b 0x43 ≡ x3 → (x4 : Bool) → eqb b 0x44 ≡ x4
        → (x0 || ((x1 || (x2 || x3)) || x4)) ≡ true → P b
    go true q0 x1 q1 x2 q2 x3 q3 x4 q4 e = subst P (sym (eqb-true b 0x40 q0)) p0
    go false q0 true q1 x2 q2 x3 q3 x4 q4 e = subst P (sym (eqb-true b 0x41 q1)) p1
    go false q0 false q1 true q2 x3 q3 x4 q4 e = subst P (sym (eqb-true b 0x42 q2)) p2
    go false q0 false q1 false q2 true q3 x4 q4 e = subst P (sym (eqb-true b 0x43 q3)) p3
    go false q0 false q1 false q2 false q3 true q4 e = subst P (sym (eqb-true b 0x44 q4)) p4
    go false q0 false q1 false q2 false q3 false q4 e = no e

-- every command names a set at least
pub numbers-one : (b : ℕ) → 1 ≤ set_numbers b
numbers-one b = by (is_binary b) (eqb b 0x44)
  where
    by : (x y : Bool) → 1 ≤ cond x 3 (cond y 2 1)
    by true y = omega arith
    by false true = omega arith
    by false false = omega arith

-- a good set number
pub number-good : (k i : ℕ) (s : List ℕ) → all (λ (m : ℕ). leb m 3) (take k s) ≡ true → i < k → get_or s i 0 ≤ 3
number-good k i [] e h = omega arith
number-good zero i (m ∷ s) e h = absurd (omega arith)
number-good (suc k) zero (m ∷ s) e h = at (leb m 3) refl e
  where
    at : (x : Bool) → leb m 3 ≡ x → (x && all (λ (m : ℕ). leb m 3) (take k s)) ≡ true → m ≤ 3
    at true q e = leb-true m 3 q
    at false q e = no e
number-good (suc k) (suc i) (m ∷ s) e h = number-good k i s (rest (leb m 3) e) (omega arith)
  where
    rest : (x : Bool) → (x && all (λ (m : ℕ). leb m 3) (take k s)) ≡ true → all (λ (m : ℕ). leb m 3) (take k s) ≡ true
    rest true e = e
    rest false e = no e

-- ---- memory

pub set-at : (n : ℕ) (tables lengths : List ℕ) (m : ℕ) → m ≤ 3 → set_at (state_in n tables lengths) m ≡ table_at tables lengths m
set-at n tables lengths zero h = refl
set-at n tables lengths (suc zero) h = refl
set-at n tables lengths (suc (suc zero)) h = refl
set-at n tables lengths (suc (suc (suc zero))) h = refl
set-at n tables lengths (suc (suc (suc (suc m)))) h = absurd (omega arith)

-- ---- what is performed

module _ (st : State) (b : ℕ) (s : List ℕ) where
  pub perform-assign : is_assignment b ≡ true → perform st b s ≡ stored st (get_or s 0 0) (answer_of st b s)
  unfolding perform answer_of
  perform-assign = by-command (λ (b : ℕ). perform st b s ≡ stored st (get_or s 0 0) (answer_of st b s)) refl refl refl refl refl b

  pub performs-assign : is_assignment b ≡ true → performs st b s ≡ assigns (get_or s 0 0) (answer_of st b s)
  unfolding performs
  performs-assign e = ap (λ (x : Bool). cond x (assigns (get_or s 0 0) (answer_of st b s)) (cond (eqb b 0x45) (listed (get_or s 0 0) (decode st.axes (set_at st (get_or s 0 0)))) none)) e

  pub perform-list : b ≡ 0x45 → perform st b s ≡ told st (T.listing st.axes (get_or s 0 0)) (decode st.axes (set_at st (get_or s 0 0)))
  unfolding perform
  perform-list e = ap (λ (c : ℕ). perform st c s) e

  pub performs-list : b ≡ 0x45 → performs st b s ≡ listed (get_or s 0 0) (decode st.axes (set_at st (get_or s 0 0)))
  unfolding performs
  performs-list e = ap (λ (c : ℕ). performs st c s) e

  pub perform-member : b ≡ 0x46 → perform st b s ≡ told st member_line (member_bytes st.axes (set_at st (get_or s 0 0)) (coordinates 8 (drop 1 s)))
  unfolding perform
  perform-member e = ap (λ (c : ℕ). perform st c s) e

  pub perform-search : b ≡ 0x47 → perform st b s ≡ told st search_line (search_bytes st.axes (set_at st (get_or s 0 0)) (coordinates 8 (drop 5 s)) (coordinates 8 (drop 37 s)) (Rattle.codec.specs.Bytes.value_of (take 4 (drop 1 s))))
  unfolding perform
  perform-search e = ap (λ (c : ℕ). perform st c s) e

  -- member and search leave everything as it is
  pub performs-none : ¬ (b ≡ 0x45) → is_assignment b ≡ false → performs st b s ≡ none
  unfolding performs
  performs-none n e =
      ap₂ (λ (x y : Bool). cond x (assigns (get_or s 0 0) (answer_of st b s)) (cond y (listed (get_or s 0 0) (decode st.axes (set_at st (get_or s 0 0)))) none)) e (ne_eqb b 0x45 n)

  -- only `45` begins a listing
  pub performs-quiet : (P : Effect → Type 0) → P none → ((m : ℕ) (a : Answer (List ℕ)) → P (assigns m a)) → ¬ (b ≡ 0x45) → P (performs st b s)
  unfolding performs
  performs-quiet P p q n = at (is_assignment b)
    where
      at : (x : Bool) → P (cond x (assigns (get_or s 0 0) (answer_of st b s)) (cond (eqb b 0x45) (listed (get_or s 0 0) (decode st.axes (set_at st (get_or s 0 0)))) none))
      at true = q (get_or s 0 0) (answer_of st b s)
      at false = subst (λ (y : Bool). P (cond y (listed (get_or s 0 0) (decode st.axes (set_at st (get_or s 0 0)))) none)) (sym (ne_eqb b 0x45 n)) p

-- ---- the whole command

module _ (st : State) (b : ℕ) (s : List ℕ) where
  pub execute-end : b ≡ 0x00 → execute st (b ∷ s) ≡ ends st (T.line "end" [])
  unfolding execute
  execute-end e = ap (λ (c : ℕ). execute st (c ∷ s)) e

  effect-none : performs st b s ≡ none → effect_of st (b ∷ s) ≡ none
  unfolding effect_of
  effect-none e = at (all (λ (m : ℕ). leb m 3) (take (set_numbers b) s))
    where
      at : (x : Bool) → cond x (performs st b s) none ≡ none
      at true = e
      at false = refl

  pub effect-end : b ≡ 0x00 → effect_of st (b ∷ s) ≡ none
  unfolding performs
  effect-end e = effect-none (ap (λ (c : ℕ). performs st c s) e)

  pub execute-open : b ≡ 0x10 → execute st (b ∷ s) ≡ opened st (get_or s 0 0)
  unfolding execute
  execute-open e = ap (λ (c : ℕ). execute st (c ∷ s)) e

  pub effect-open : b ≡ 0x10 → effect_of st (b ∷ s) ≡ none
  unfolding performs
  effect-open e = effect-none (ap (λ (c : ℕ). performs st c s) e)

  module _ (n0 : ¬ (b ≡ 0x00)) (n1 : ¬ (b ≡ 0x10)) where
    pub execute-bad : all (λ (m : ℕ). leb m 3) (take (set_numbers b) s) ≡ false → execute st (b ∷ s) ≡ says st (refused_line 14)
    unfolding execute
    execute-bad e = simp (ne_eqb b 0x00 n0, ne_eqb b 0x10 n1, e)

    pub execute-good : all (λ (m : ℕ). leb m 3) (take (set_numbers b) s) ≡ true → execute st (b ∷ s) ≡ perform st b s
    unfolding execute
    execute-good e = simp (ne_eqb b 0x00 n0, ne_eqb b 0x10 n1, e)

  pub effect-bad : all (λ (m : ℕ). leb m 3) (take (set_numbers b) s) ≡ false → effect_of st (b ∷ s) ≡ none
  unfolding effect_of
  effect-bad e = ap (λ (x : Bool). cond x (performs st b s) none) e

  pub effect-good : all (λ (m : ℕ). leb m 3) (take (set_numbers b) s) ≡ true → effect_of st (b ∷ s) ≡ performs st b s
  unfolding effect_of
  effect-good e = ap (λ (x : Bool). cond x (performs st b s) none) e

-- a performed command leaves n and goes on
record Fine (st : State) (d : Done) : Type 0 where
  goes_on : d.goes ≡ true
  axes_same : d.state.axes ≡ st.axes

either : {st : State} (x : Bool) {d e : Done} → Fine st d → Fine st e → Fine st (cond x d e)
either true p q = p
either false p q = q

stored-fine : (st : State) (m : ℕ) (a : Answer (List ℕ)) → Fine st (stored st m a)
stored-fine st m (refused k) = record { goes_on = refl; axes_same = refl }
stored-fine st m (gives l) = record { goes_on = refl; axes_same = refl }

told-fine : {A : Type 0} (st : State) (f : A → List ℕ) (a : Answer A) → Fine st (told st f a)
told-fine st f (refused k) = record { goes_on = refl; axes_same = refl }
told-fine st f (gives x) = record { goes_on = refl; axes_same = refl }

perform-fine : (st : State) (b : ℕ) (s : List ℕ) → Fine st (perform st b s)
unfolding perform
perform-fine st b s =
    let m : ℕ = get_or s 0 0 in
    let n : ℕ = st.axes in
    let first : List ℕ = set_at st (get_or s 1 0) in
    let second : List ℕ = set_at st (get_or s 2 0) in
    either (eqb b 0x40) (stored-fine st m (load_bytes n (drop 3 s)))
    (either (eqb b 0x41) (stored-fine st m (union_bytes n room first second))
    (either (eqb b 0x42) (stored-fine st m (intersection_bytes n room first second))
    (either (eqb b 0x43) (stored-fine st m (difference_bytes n room first second))
    (either (eqb b 0x44) (stored-fine st m (complement_bytes n room first))
    (either (eqb b 0x45) (told-fine st (T.listing n m) (decode n (set_at st m)))
    (either (eqb b 0x46) (told-fine st member_line (member_bytes n (set_at st m) (coordinates 8 (drop 1 s))))
    (told-fine st search_line (search_bytes n (set_at st m) (coordinates 8 (drop 5 s)) (coordinates 8 (drop 37 s)) (value_of (take 4 (drop 1 s)))))))))))

pub perform-goes : (st : State) (b : ℕ) (s : List ℕ) → (perform st b s).goes ≡ true
perform-goes st b s = (perform-fine st b s).goes_on

pub perform-axes : (st : State) (b : ℕ) (s : List ℕ) → (perform st b s).state.axes ≡ st.axes
perform-axes st b s = (perform-fine st b s).axes_same

pub width-least : (s : List ℕ) (w : ℕ) → ¬ (length s ≡ 0) → w ≡ fixed_width (get_or s 0 0) → w ≤ command_width s
width-least [] w n x = absurd (n refl)
width-least (b ∷ s) w n x = let f : w ≤ fixed_width b + cond (eqb b 0x40) (load_length (b ∷ s)) 0 = omega arith in f
