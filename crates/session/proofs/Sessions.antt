-- However the input is split into reads, the turns' texts, one after the other, are what the script prints.
use mathlib.Core.Path.{◌≡◌, refl, ap, ap₂, sym, subst, ◌∙◌}
use mathlib.Core.Bool.{Bool, true, false, not, ◌&&◌, ◌||◌, cond}
use mathlib.Core.List.{List, [], ◌∷◌, ◌++◌, append_assoc, append-nil}
use Prim.Native.Nat.{ℕ, zero, suc, ◌+◌, ◌*◌, ◌≤◌, ◌<◌}
use native.Mathlib.Omega.{arith}
use borrow.Author.Tests.{ltb-true, ltb-false, eqb-true, eqb-false}
use lib.Dec.{leb, ltb, eqb}
use lib.ListN.{length, get_or, set, take, drop, length-drop}
use lib.Seq.{length-take-le}
use Rattle.model.specs.Lists.{all}
use Rattle.model.specs.Sets.{Set}
use Rattle.std.proofs.Common.{Option, Some, None}
use Rattle.codec.specs.Bytes.{Answer, refused, gives, decode, number, width_of, axes_fit, value_of}
use Rattle.codec.specs.Places.{built, set_from}
use Rattle.codec.proofs.Boundaries.{decode_is}
use Rattle.algebra.specs.Result.{table_of}
use Rattle.algebra.specs.Operations.{union_bytes, intersection_bytes, difference_bytes, complement_bytes}
use Rattle.query.specs.Member.{member_bytes}
use Rattle.enumeration.specs.Search.{search_bytes}
use Rattle.listing.specs.Text as T
use Rattle.session.specs.Script as S
use Rattle.session.specs.Script.{room, set_at, set_numbers, load_bytes, command_width, ending, Done, refused_line, execute, run, script}
use Rattle.listing.specs.Written.{put}
use Rattle.session.specs.Turns.{Memory, state_in, state_of, table_at, keeps, Effect, none, assigns, listed, is_assignment, answer_of, effect_of, performs, shown, listing_of, memory_of, goes_on, Turned, quiet, state_at, line_of, past, line_turn, command_turn, front_turn, front_of, turn_of, usable, header_line, start_of, Fitted}
use Rattle.session.specs.Session.{Session, goes, reads, closes, ends}
use Rattle.session.specs.declared.Cursor.{Cursor}
use Rattle.session.specs.declared.State.{State}
use Rattle.session.specs.declared.Next.{Next}
use Rattle.session.specs.declared.Next.TheVariants.{Goes, Reads, Ends, Misused}
use Rattle.session.proofs.Steps.{whole, ending-first, followed, run-fuel}
use Rattle.codec.proofs.Walking.{head}
use lib.IntN.{pos}
use Rattle.session.proofs.Turning.{turn_in_lem, turn-misused, lent-fitted, line-there, over-end}
use Rattle.session.proofs.Commands.{number-good, numbers-one, set-at, perform-assign, performs-assign, perform-list, performs-list, performs-none, perform-goes, execute-end, execute-open, execute-bad, execute-good, effect-end, effect-open, effect-bad, effect-good}
use Rattle.session.proofs.Assigned.{kept_same, kept-other, Bounded, answer-bounded}
use Rattle.session.proofs.Listings.{lines_left, Stands, listing-next, listing-end, listing_start, stands-start}

-- ---- what is still to be printed

abbrev pending : ℕ → Memory → Option Cursor → List ℕ
pending n y None = []
pending n y (Some c) = lines_left n c (built (drop c.place (table_at y.tables y.lengths c.set)))

-- all of it, with the bytes s to come
abbrev pub rest : State → Memory → List ℕ → List ℕ
rest st y s = pending st.axes y st.listing ++ run (suc (length s)) (state_of st.axes y) s

-- ---- the run, unrolled

abbrev onward : S.State → List ℕ → List ℕ → List ℕ
onward st c r = (execute st c).text ++ elim (execute st c).goes [ false ↦ [] | true ↦ run (suc (length r)) (execute st c).state r ]

pub run-stop : (st : S.State) (s : List ℕ) (k : ℕ) → ending st.axes s ≡ suc k → run (suc (length s)) st s ≡ refused_line (suc k)
unfolding run
run-stop st s k e = rw (e, run)

pub run-whole : (st : S.State) (s : List ℕ) → ending st.axes s ≡ 0 → run (suc (length s)) st s ≡ onward st (take (command_width s) s) (drop (command_width s) s)
unfolding run
run-whole st s e =
    let w = whole st.axes s e in
    let c : List ℕ = take (command_width s) s in
    let r : List ℕ = drop (command_width s) s in
    let l : length r < length s = let a = w.known in let b = w.there in omega (arith, length-drop (command_width s) s) in
    let f : run (length s) (execute st c).state r ≡ run (suc (length r)) (execute st c).state r = run-fuel (length s) (suc (length r)) (execute st c).state r l (omega arith) in
    rw (e, run) (ap (λ (x : List ℕ). (execute st c).text ++ elim (execute st c).goes [ false ↦ [] | true ↦ x ]) f)

-- ---- one command

abbrev pub Fine : ℕ → Memory → Option Cursor → Type 0
Fine n y None = Unit {0}
Fine n y (Some c) = Stands n (table_at y.tables y.lengths c.set) c

record Law (y : Memory) (d : Done) (e : Effect) : Type 0 where
  state : state_of d.state.axes (memory_of y e) ≡ d.state
  text : d.text ≡ shown d.text e ++ pending d.state.axes (memory_of y e) (listing_of e)
  fine : Fine d.state.axes (memory_of y e) (listing_of e)

plain : (y : Memory) (d : Done) → state_of d.state.axes y ≡ d.state → Law y d none
plain y d e = record { state = e; text = sym (append-nil d.text); fine = tt }

assigned : (n : ℕ) (y : Memory) (m : ℕ) (a : Answer (List ℕ)) → Fitted y.tables y.lengths → m ≤ 3 → Bounded a → Law y (S.stored (state_of n y) m a) (assigns m a)
assigned n y m (refused k) f h p = record { state = refl; text = sym (append-nil (refused_line k)); fine = tt }
assigned n y m (gives l) f h p = record { state = ap (λ (x : List (List ℕ)). record { axes = n; sets = x }) (sets m h); text = refl; fine = tt }
  where
    new : ℕ → ℕ → List ℕ
    new m j = table_at (put (room * m) (table_of room (gives l)) y.tables) (set y.lengths m (length l)) j

    same : (m : ℕ) → m ≤ 3 → table_at (put (room * m) (table_of room (gives l)) y.tables) (set y.lengths m (length l)) m ≡ l
    same m h = kept_same y.tables y.lengths l f (p.within_room l refl) m h

    other : (m : ℕ) → m ≤ 3 → (j : ℕ) → ¬ (j ≡ m) → table_at (put (room * m) (table_of room (gives l)) y.tables) (set y.lengths m (length l)) j ≡ table_at y.tables y.lengths j
    other m h j o = kept-other y.tables y.lengths l f (p.within_room l refl) m h j o

    four : {a b c d a' b' c' d' : List ℕ} → a ≡ a' → b ≡ b' → c ≡ c' → d ≡ d' → ◌≡◌ {A = List (List ℕ)} (a ∷ b ∷ c ∷ d ∷ []) (a' ∷ b' ∷ c' ∷ d' ∷ [])
    four p q r s = ap₂ (λ (x : List ℕ) (y : List (List ℕ)). x ∷ y) p (ap₂ (λ (x : List ℕ) (y : List (List ℕ)). x ∷ y) q (ap₂ (λ (x : List ℕ) (y : List (List ℕ)). x ∷ y) r (ap (λ (x : List ℕ). x ∷ []) s)))

    sets : (m : ℕ) → m ≤ 3 → (state_of n (keeps y m (gives l))).sets ≡ set (state_of n y).sets m l
    sets zero h = four (same 0 h) (other 0 h 1 (λ e. omega arith)) (other 0 h 2 (λ e. omega arith)) (other 0 h 3 (λ e. omega arith))
    sets (suc zero) h = four (other 1 h 0 (λ e. omega arith)) (same 1 h) (other 1 h 2 (λ e. omega arith)) (other 1 h 3 (λ e. omega arith))
    sets (suc (suc zero)) h = four (other 2 h 0 (λ e. omega arith)) (other 2 h 1 (λ e. omega arith)) (same 2 h) (other 2 h 3 (λ e. omega arith))
    sets (suc (suc (suc zero))) h = four (other 3 h 0 (λ e. omega arith)) (other 3 h 1 (λ e. omega arith)) (other 3 h 2 (λ e. omega arith)) (same 3 h)
    sets (suc (suc (suc (suc m)))) h = absurd (omega arith)

listing-law : (n : ℕ) (y : Memory) (m : ℕ) → m ≤ 3 → (a : Answer Set) → decode n (table_at y.tables y.lengths m) ≡ a → Law y (S.told (state_of n y) (T.listing n m) a) (listed m a)
listing-law n y m h (refused k) e = plain y (S.says (state_of n y) (refused_line k)) refl
listing-law n y m h (gives t) e =
    let s : List ℕ = table_at y.tables y.lengths m in
    let z : number (decode n s) ≡ 0 = ap number e in
    let q : set_from s 0 ≡ t = give (sym (decode_is n s z) ∙ e) in
    record { state = refl; text = subst (λ (x : Set). T.listing n m x ≡ header_line m (length x) ++ lines_left n (start_of m) (built (drop 0 s))) q (listing_start n m s z); fine = stands-start n m s z }
  where
    give : {a b : Set} → gives a ≡ gives b → a ≡ b
    give e = cc

law-same : {y : Memory} {d d' : Done} {e e' : Effect} → d ≡ d' → e ≡ e' → Law y d e → Law y d' e'
law-same {y} {d} {d'} {e} {e'} p q l = subst (λ (x : Done). Law y x e') p (subst (λ (x : Effect). Law y d x) q l)

-- what is performed, by the tests of the command
abbrev perform_by : S.State → List ℕ → Bool → Bool → Bool → Bool → Bool → Bool → Bool → Done
perform_by st s x0 x1 x2 x3 x4 x5 x6 =
    let n : ℕ = st.axes in
    let m : ℕ = get_or s 0 0 in
    let first : List ℕ = set_at st (get_or s 1 0) in
    let second : List ℕ = set_at st (get_or s 2 0) in
    cond x0 (S.stored st m (load_bytes n (drop 3 s)))
    (cond x1 (S.stored st m (union_bytes n room first second))
    (cond x2 (S.stored st m (intersection_bytes n room first second))
    (cond x3 (S.stored st m (difference_bytes n room first second))
    (cond x4 (S.stored st m (complement_bytes n room first))
    (cond x5 (S.told st (T.listing n m) (decode n (set_at st m)))
    (cond x6 (S.told st S.member_line (member_bytes n (set_at st m) (S.coordinates 8 (drop 1 s))))
    (S.told st S.search_line (search_bytes n (set_at st m) (S.coordinates 8 (drop 5 s)) (S.coordinates 8 (drop 37 s)) (value_of (take 4 (drop 1 s)))))))))))

-- member and search leave the state
asked : (y : Memory) (n b : ℕ) (s : List ℕ) → ¬ (b ≡ 0x45) → is_assignment b ≡ false → Law y (S.perform (state_of n y) b s) (performs (state_of n y) b s)
unfolding S.perform
asked y n b s o e =
    law-same refl (sym (performs-none (state_of n y) b s o e))
    (plain y (S.perform (state_of n y) b s) (go (eqb b 0x40) (eqb b 0x41) (eqb b 0x42) (eqb b 0x43) (eqb b 0x44) (eqb b 0x45) (eqb b 0x46) e))
  where
    still : {A : Type 0} (f : A → List ℕ) (a : Answer A) → state_of (S.told (state_of n y) f a).state.axes y ≡ (S.told (state_of n y) f a).state
    still f (refused k) = refl
    still f (gives x) = refl

    no : {X : Type 0} → true ≡ false → X
    no e = let z : ◌≡◌ {A = ℕ} 1 0 = ap (λ (b : Bool). cond b 1 0) e in absurd (omega arith)

    go : (x0 x1 x2 x3 x4 x5 x6 : Bool) → (x0 || ((x1 || (x2 || x3)) || x4)) ≡ false → state_of (perform_by (state_of n y) s x0 x1 x2 x3 x4 x5 x6).state.axes y ≡ (perform_by (state_of n y) s x0 x1 x2 x3 x4 x5 x6).state
    go true x1 x2 x3 x4 x5 x6 e = no e
    go false true x2 x3 x4 x5 x6 e = no e
    go false false true x3 x4 x5 x6 e = no e
    go false false false true x4 x5 x6 e = no e
    go false false false false true x5 x6 e = no e
    go false false false false false true x6 e = still (T.listing n (get_or s 0 0)) (decode n (set_at (state_of n y) (get_or s 0 0)))
    go false false false false false false true e = still S.member_line (member_bytes n (set_at (state_of n y) (get_or s 0 0)) (S.coordinates 8 (drop 1 s)))
    go false false false false false false false e = still S.search_line (search_bytes n (set_at (state_of n y) (get_or s 0 0)) (S.coordinates 8 (drop 5 s)) (S.coordinates 8 (drop 37 s)) (value_of (take 4 (drop 1 s))))

-- a command with good set numbers
performed : (y : Memory) (n b : ℕ) (s : List ℕ) → Fitted y.tables y.lengths → all (λ (m : ℕ). leb m 3) (take (set_numbers b) s) ≡ true → Law y (S.perform (state_of n y) b s) (performs (state_of n y) b s)
performed y n b s f g = at (is_assignment b) refl (eqb b 0x45) refl
  where
    m : ℕ
    m = get_or s 0 0

    few : get_or s 0 0 ≤ 3
    few = number-good (set_numbers b) 0 s g (numbers-one b)

    at : (x : Bool) → is_assignment b ≡ x → (z : Bool) → eqb b 0x45 ≡ z → Law y (S.perform (state_of n y) b s) (performs (state_of n y) b s)
    at true e z q =
        law-same (sym (perform-assign (state_of n y) b s e)) (sym (performs-assign (state_of n y) b s e))
        (assigned n y (get_or s 0 0) (answer_of (state_of n y) b s) f few (answer-bounded (state_of n y) b s))
    at false e true q =
        let i = eqb-true b 0x45 q in
        let t : set_at (state_of n y) (get_or s 0 0) ≡ table_at y.tables y.lengths (get_or s 0 0) = set-at n y.tables y.lengths (get_or s 0 0) few in
        law-same (sym (perform-list (state_of n y) b s i)) (sym (performs-list (state_of n y) b s i))
        (listing-law n y (get_or s 0 0) few (decode n (set_at (state_of n y) (get_or s 0 0))) (ap (decode n) (sym t)))
    at false e false q = asked y n b s (eqb-false b 0x45 q) e

-- every whole command that lets the script go on; one that ends it prints its text at once
record Commanded (y : Memory) (d : Done) (e : Effect) : Type 0 where
  on : d.goes ≡ true → Law y d e
  last : d.goes ≡ false → shown d.text e ≡ d.text

ending-command : {y : Memory} {d : Done} {e : Effect} → e ≡ none → Law y d none → Commanded y d e
ending-command {y} {d} {e} q l = record { on = λ z. law-same refl (sym q) l; last = λ z. ap (shown d.text) q }

commanded : (y : Memory) (n : ℕ) (c : List ℕ) → Fitted y.tables y.lengths → Commanded y (execute (state_of n y) c) (effect_of (state_of n y) c)
unfolding execute effect_of
commanded y n [] f = ending-command refl (plain y (S.ends (state_of n y) []) refl)
commanded y n (b ∷ s) f = at (eqb b 0x00) refl (eqb b 0x10) refl (all (λ (m : ℕ). leb m 3) (take (set_numbers b) s)) refl
  where
    st : S.State
    st = state_of n y

    same : {d : Done} {e : Effect} → execute (state_of n y) (b ∷ s) ≡ d → effect_of (state_of n y) (b ∷ s) ≡ e → Commanded y d e → Commanded y (execute (state_of n y) (b ∷ s)) (effect_of (state_of n y) (b ∷ s))
    same {d} {e} p q c = subst (λ (x : Done). Commanded y x (effect_of (state_of n y) (b ∷ s))) (sym p) (subst (λ (x : Effect). Commanded y d x) (sym q) c)

    open-law : (k : ℕ) → Law y (S.opened (state_of n y) k) none
    open-law k = go (axes_fit k)
      where
        go : (x : Bool) → Law y (cond x (S.says (record { axes = k; sets = (state_of n y).sets }) (T.line "axes" (pos k ∷ []))) (S.ends (state_of n y) (refused_line 1))) none
        go true = plain y (S.says (record { axes = k; sets = (state_of n y).sets }) (T.line "axes" (pos k ∷ []))) refl
        go false = plain y (S.ends (state_of n y) (refused_line 1)) refl

    at : (x : Bool) → eqb b 0x00 ≡ x → (z : Bool) → eqb b 0x10 ≡ z → (g : Bool) → all (λ (m : ℕ). leb m 3) (take (set_numbers b) s) ≡ g → Commanded y (execute (state_of n y) (b ∷ s)) (effect_of (state_of n y) (b ∷ s))
    at true e z q g r = let i = eqb-true b 0x00 e in same (execute-end (state_of n y) b s i) (effect-end (state_of n y) b s i) (ending-command refl (plain y (S.ends (state_of n y) (T.line "end" [])) refl))
    at false e true q g r = let i = eqb-true b 0x10 q in same (execute-open (state_of n y) b s i) (effect-open (state_of n y) b s i) (ending-command refl (open-law (get_or s 0 0)))
    at false e false q false r =
        same (execute-bad (state_of n y) b s (eqb-false b 0x00 e) (eqb-false b 0x10 q) r) (effect-bad (state_of n y) b s r) (ending-command refl (plain y (S.says (state_of n y) (refused_line 14)) refl))
    at false e false q true r =
        same (execute-good (state_of n y) b s (eqb-false b 0x00 e) (eqb-false b 0x10 q) r) (effect-good (state_of n y) b s r)
        (record { on = λ z. performed y n b s f r; last = λ z. absurd (let k : ◌≡◌ {A = ℕ} 0 1 = ap (λ (b : Bool). cond b 1 0) (sym z ∙ perform-goes (state_of n y) b s) in omega arith) })

-- ---- one turn

-- what a turn does to what is still to be printed, with the bytes f to come behind s
pub record After (st : State) (y : Memory) (s f : List ℕ) (t : Turned) : Type 0 where
  pub on : t.next ≡ Goes → Fine t.state.axes t.memory t.state.listing × (rest st y (s ++ f) ≡ t.text ++ rest t.state t.memory (drop t.used s ++ f))
  pub waits : t.next ≡ Reads → t ≡ quiet st y Reads
  pub last : t.next ≡ Ends → rest st y (s ++ f) ≡ t.text

after_same : {st : State} {y : Memory} {s f : List ℕ} {t t' : Turned} → t ≡ t' → After st y s f t → After st y s f t'
after_same {st} {y} {s} {f} q a = subst (λ (t : Turned). After st y s f t) q a

pub never : {X : Type 0} → ◌≡◌ {A = ℕ} 0 1 → X
never z = absurd (omega arith)

-- a turn that goes on
going : {st : State} {y : Memory} {s f : List ℕ} (t : Turned) → t.next ≡ Goes → Fine t.state.axes t.memory t.state.listing
    → rest st y (s ++ f) ≡ t.text ++ rest t.state t.memory (drop t.used s ++ f) → After st y s f t
going t g i e = record { on = λ z. (i, e); waits = λ z. never (let n : ◌≡◌ {A = Next} Goes Reads = sym g ∙ z in let q : ◌≡◌ {A = ℕ} 0 1 = cc in q); last = λ z. never (let n : ◌≡◌ {A = Next} Goes Ends = sym g ∙ z in let q : ◌≡◌ {A = ℕ} 0 1 = cc in q) }

ended_by : {st : State} {y : Memory} {s f : List ℕ} (t : Turned) → t.next ≡ Ends → rest st y (s ++ f) ≡ t.text → After st y s f t
ended_by t g e = record { on = λ z. never (let n : ◌≡◌ {A = Next} Ends Goes = sym g ∙ z in let q : ◌≡◌ {A = ℕ} 0 1 = cc in q); waits = λ z. never (let n : ◌≡◌ {A = Next} Ends Reads = sym g ∙ z in let q : ◌≡◌ {A = ℕ} 0 1 = cc in q); last = λ z. e }

waiting : {st : State} {y : Memory} {s f : List ℕ} → After st y s f (quiet st y Reads)
waiting = record { on = λ z. never (let q : ◌≡◌ {A = ℕ} 0 1 = cc in q); waits = λ z. refl; last = λ z. never (let q : ◌≡◌ {A = ℕ} 0 1 = cc in q) }

-- a line of a listing
module _ (st : State) (y : Memory) (s f : List ℕ) (c : Cursor) (q : st.listing ≡ Some c) (d : Stands st.axes (table_at y.tables y.lengths c.set) c) where
  bytes : List ℕ
  bytes = table_at y.tables y.lengths c.set

  tail : List ℕ
  tail = run (suc (length (s ++ f))) (state_of st.axes y) (s ++ f)

  start : rest st y (s ++ f) ≡ lines_left st.axes c (built (drop c.place bytes)) ++ tail
  unfolding bytes tail
  start = ap (λ (l : Option Cursor). pending st.axes y l ++ run (suc (length (s ++ f))) (state_of st.axes y) (s ++ f)) q

  pub line_after : After st y s f (line_turn st.axes y c (drop c.place (table_at y.tables y.lengths c.set)))
  unfolding bytes tail
  line_after = by (ltb c.place (length bytes)) refl
    where
      by : (x : Bool) → ltb c.place (length bytes) ≡ x → After st y s f (line_turn st.axes y c (drop c.place bytes))
      by true e =
          let h = ltb-true c.place (length bytes) e in
          let w : ℕ = width_of (get_or bytes c.place 0) in
          let hd = head st.axes bytes c.place d.k w d.here h refl in
          let a = hd.wide in let b = hd.there.inside in
          let n = listing-next st.axes bytes c d h in
          after_same (sym (line-there st.axes y c bytes c.place h w refl (λ z. omega arith) (omega arith)))
          (going _ refl n.stands
          (start ∙ ap (λ (l : List ℕ). l ++ tail) n.text ∙ append_assoc (line_of st.axes c (get_or bytes c.place 0) (drop (c.place + 1) bytes)) (lines_left st.axes (past c (get_or bytes c.place 0)) (built (drop (past c (get_or bytes c.place 0)).place bytes))) tail))
      by false e =
          let h = ltb-false c.place (length bytes) e in
          after_same (sym (over-end st.axes y c bytes c.place h)) (going _ refl tt (start ∙ ap (λ (l : List ℕ). l ++ tail) (listing-end st.axes bytes c h)))

-- 2 and 15 stay whatever follows
later : (n : ℕ) (s f : List ℕ) (k : ℕ) → ending n s ≡ suc k → eqb (suc k) 3 ≡ false → ending n (s ++ f) ≡ suc k
unfolding ending
later n [] f k h p = let a = eqb-false (suc k) 3 p in absurd (a (sym h))
later n (b ∷ t) f k h p = ending-first n b t (t ++ f) (λ z. never (let j : suc k ≡ 0 = sym h ∙ z in omega arith)) (λ z. eqb-false (suc k) 3 p (sym h ∙ z)) ∙ h

-- a command at the front
module _ (st : State) (y : Memory) (e : Bool) (s f : List ℕ) (q : st.listing ≡ None) (i : Fitted y.tables y.lengths) (g : e ≡ true → f ≡ []) where
  n : ℕ
  n = st.axes

  only : rest st y (s ++ f) ≡ run (suc (length (s ++ f))) (state_of st.axes y) (s ++ f)
  only = ap (λ (l : Option Cursor). pending st.axes y l ++ run (suc (length (s ++ f))) (state_of st.axes y) (s ++ f)) q

  stops : (k : ℕ) → ending st.axes (s ++ f) ≡ suc k → After st y s f (front_turn st y s (refused (suc k)))
  stops k z = ended_by _ refl (only ∙ run-stop (state_of st.axes y) (s ++ f) k z)

  pub front-after : After st y s f (front_turn st y s (front_of st.axes e s))
  unfolding front_of
  front-after = by (ending st.axes s) refl
    where
      cut : (k : ℕ) → ending st.axes s ≡ suc k → (x : Bool) → eqb (suc k) 3 ≡ x → (z : Bool) → e ≡ z
          → After st y s f (front_turn st y s (cond (x && not z) (gives None) (refused (suc k))))
      cut k h true p false r = waiting
      cut k h true p true r = stops k (ap (λ (l : List ℕ). ending st.axes (s ++ l)) (g r) ∙ ap (ending st.axes) (append-nil s) ∙ h)
      cut k h false p z r = stops k (later st.axes s f k h p)

      by : (k : ℕ) → ending st.axes s ≡ k → After st y s f (front_turn st y s (elim k [ zero ↦ gives (Some (command_width s)) | suc k ↦ cond (eqb (suc k) 3 && not e) (gives None) (refused (suc k)) ]))
      by (suc k) h = cut k h (eqb (suc k) 3) refl e refl
      by zero h = command (execute st0 c).goes refl
        where
          st0 : S.State
          st0 = state_of st.axes y

          c : List ℕ
          c = take (command_width s) s

          command : (x : Bool) → (execute (state_of st.axes y) (take (command_width s) s)).goes ≡ x → After st y s f (command_turn st y (take (command_width s) s))
          command x z =
              let o = followed st.axes s f h in
              let w = whole st.axes s h in
              let l : length (take (command_width s) s) ≡ command_width s = length-take-le (command_width s) s w.there in
              let k = commanded y st.axes (take (command_width s) s) i in
              let r : rest st y (s ++ f) ≡ onward (state_of st.axes y) (take (command_width s) s) (drop (command_width s) s ++ f) = only ∙ run-whole (state_of st.axes y) (s ++ f) o.end ∙ ap₂ (onward (state_of st.axes y)) o.bytes o.rest in
              turns x z l k r
            where
              d : Done
              d = execute (state_of st.axes y) (take (command_width s) s)

              turns : (x : Bool) → (execute (state_of st.axes y) (take (command_width s) s)).goes ≡ x → length (take (command_width s) s) ≡ command_width s
                  → Commanded y (execute (state_of st.axes y) (take (command_width s) s)) (effect_of (state_of st.axes y) (take (command_width s) s))
                  → rest st y (s ++ f) ≡ onward (state_of st.axes y) (take (command_width s) s) (drop (command_width s) s ++ f) → After st y s f (command_turn st y (take (command_width s) s))
              turns false z l k r =
                  ended_by _ (ap goes_on z)
                  (r ∙ ap (λ (x : Bool). (execute (state_of st.axes y) (take (command_width s) s)).text ++ elim x [ false ↦ [] | true ↦ run (suc (length (drop (command_width s) s ++ f))) (execute (state_of st.axes y) (take (command_width s) s)).state (drop (command_width s) s ++ f) ]) z
                  ∙ append-nil (execute (state_of st.axes y) (take (command_width s) s)).text ∙ sym (k.last z))
              turns true z l k r =
                  let j = k.on z in
                  let t : List ℕ = drop (command_width s) s ++ f in
                  let dd : Done = execute (state_of st.axes y) (take (command_width s) s) in
                  let ee : Effect = effect_of (state_of st.axes y) (take (command_width s) s) in
                  going _ (ap goes_on z) j.fine
                  (r ∙ ap (λ (x : Bool). dd.text ++ elim x [ false ↦ [] | true ↦ run (suc (length t)) dd.state t ]) z
                  ∙ ap₂ (λ (x : List ℕ) (u : S.State). x ++ run (suc (length t)) u t) j.text (sym j.state)
                  ∙ append_assoc (shown dd.text ee) (pending dd.state.axes (memory_of y ee) (listing_of ee)) (run (suc (length t)) (state_of dd.state.axes (memory_of y ee)) t)
                  ∙ ap (λ (x : ℕ). shown dd.text ee ++ rest (state_at dd.state.axes (listing_of ee)) (memory_of y ee) (drop x s ++ f)) (sym l))

-- ---- the whole

abbrev pub joined : List (List ℕ) → List ℕ
joined [] = []
joined (p ∷ ps) = p ++ joined ps

used-well : (st : State) (y : Memory) (w : ℕ) (e : Bool) (s : List ℕ) → ¬ ((turn_of st y w e s).next ≡ Misused) → usable st y w ≡ true
used-well st y w e s n = at (usable st y w) refl
  where
    at : (x : Bool) → usable st y w ≡ x → usable st y w ≡ true
    at true q = q
    at false q = absurd (n (ap (λ (t : Turned). t.next) (turn-misused st y w e s q)))

pub turned : (st : State) (y : Memory) (w : ℕ) (e : Bool) (s f : List ℕ) → usable st y w ≡ true → Fine st.axes y st.listing → (e ≡ true → f ≡ []) → After st y s f (turn_of st y w e s)
turned st y w e s f u i g = at st.listing refl i
  where
    fit : Fitted y.tables y.lengths
    fit = lent-fitted st y w u

    at : (l : Option Cursor) → st.listing ≡ l → Fine st.axes y l → After st y s f (turn_of st y w e s)
    at None q i = after_same (sym (turn_in_lem st y w e s u None q)) (front-after st y e s f q (lent-fitted st y w u) g)
    at (Some c) q i = after_same (sym (turn_in_lem st y w e s u (Some c) q)) (line_after st y s f c q i)

other : {x z : Next} → x ≡ z → ¬ (z ≡ Misused) → ¬ (x ≡ Misused)
other p n q = n (sym p ∙ q)

-- whatever the reads, what a session prints is what is left to print
pub session-prints : (w : ℕ) (st : State) (y : Memory) (e : Bool) (s : List ℕ) (ps : List (List ℕ)) (l : List ℕ) → Session w st y e s ps l → Fine st.axes y st.listing → (e ≡ true → joined ps ≡ []) → l ≡ rest st y (s ++ joined ps)
session-prints w st y e s ps _ (goes g t) i h =
    let a = (turned st y w e s (joined ps) (used-well st y w e s (other g (λ z. never (let q : ◌≡◌ {A = ℕ} 0 1 = cc in q)))) i h).on g in
    ap (λ (x : List ℕ). (turn_of st y w e s).text ++ x) (session-prints w _ _ e _ ps _ t a.0 h) ∙ sym a.1
session-prints w st y e s (p ∷ ps) _ (reads g t) i h =
    let u = used-well st y w false s (other g (λ z. never (let q : ◌≡◌ {A = ℕ} 0 1 = cc in q))) in
    let a = (turned st y w false s (p ++ joined ps) u i (λ z. never (let q : ◌≡◌ {A = ℕ} 0 1 = ap (λ (b : Bool). cond b 1 0) z in q))).waits g in
    let k = session-prints w _ _ false _ ps _ t (subst (λ (t : Turned). Fine t.state.axes t.memory t.state.listing) (sym a) i) (λ z. never (let q : ◌≡◌ {A = ℕ} 0 1 = ap (λ (b : Bool). cond b 1 0) z in q)) in
    ap (λ (x : List ℕ). (turn_of st y w false s).text ++ x) k
    ∙ ap (λ (t : Turned). t.text ++ rest t.state t.memory ((drop t.used s ++ p) ++ joined ps)) a
    ∙ ap (rest st y) (append_assoc s p (joined ps))
session-prints w st y e s [] _ (closes g t) i h =
    let u = used-well st y w false s (other g (λ z. never (let q : ◌≡◌ {A = ℕ} 0 1 = cc in q))) in
    let a = (turned st y w false s [] u i (λ z. refl)).waits g in
    let k = session-prints w _ _ true _ [] _ t (subst (λ (t : Turned). Fine t.state.axes t.memory t.state.listing) (sym a) i) (λ z. refl) in
    ap (λ (x : List ℕ). (turn_of st y w false s).text ++ x) k ∙ ap (λ (t : Turned). t.text ++ rest t.state t.memory (drop t.used s ++ [])) a
session-prints w st y e s ps _ (ends g) i h = sym ((turned st y w e s (joined ps) (used-well st y w e s (other g (λ z. never (let q : ◌≡◌ {A = ℕ} 0 1 = cc in q)))) i h).last g)

-- From four empty sets: however the input is split into reads, the turns' texts, one after the other, are what the script prints.
pub session-script : (w : ℕ) (y : Memory) (ps : List (List ℕ)) (l : List ℕ) → y.lengths ≡ 0 ∷ 0 ∷ 0 ∷ 0 ∷ [] → Session w (state_at 0 None) y false [] ps l → l ≡ script (joined ps)
unfolding script
session-script w y ps l e t =
    session-prints w (state_at 0 None) y false [] ps l t tt (λ z. never (let q : ◌≡◌ {A = ℕ} 0 1 = ap (λ (b : Bool). cond b 1 0) z in q))
    ∙ ap (λ (x : List ℕ). run (suc (length (joined ps))) (state_in 0 y.tables x) (joined ps)) e
