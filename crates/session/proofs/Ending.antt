-- Every input comes to an end: however it is split into reads there is a session, and it prints the script.
use mathlib.Core.Path.{◌≡◌, refl, ap, ap₂, sym, subst, ◌∙◌}
use mathlib.Core.Bool.{Bool, true, false, not, ◌&&◌, cond}
use mathlib.Core.List.{List, [], ◌∷◌, ◌++◌}
use Prim.Native.Nat.{ℕ, zero, suc, ◌+◌, ◌-◌, ◌*◌, ◌≤◌, ◌<◌}
use native.Mathlib.Omega.{arith}
use borrow.Author.Tests.{le-leb, eq-eqb, eqb-true, eqb-false, ltb-true, ltb-false, leb-true}
use lib.Dec.{leb, ltb, eqb}
use lib.ListN.{length, get_or, set, take, drop, length-append, length-drop, length-take, length-set, length-replicate}
use lib.Seq.{length-take-le, get_or-set_same, get_or-set_other}
use lib.IntN.{pos}
use Rattle.model.specs.Lists.{all}
use Rattle.model.specs.Sets.{Set}
use Rattle.std.proofs.Common.{Option, Some, None}
use Rattle.codec.specs.Bytes.{Answer, refused, gives, decode, axes_fit, width_of}
use Rattle.codec.proofs.Walking.{head}
use Rattle.algebra.specs.Result.{table_of}
use Rattle.listing.specs.Text.{line}
use Rattle.listing.proofs.Writing.{wrote-length}
use Rattle.session.specs.Script as S
use Rattle.session.specs.Script.{room, set_numbers, command_width, ending, Done, execute, script}
use Rattle.session.specs.Turns.{Memory, state_of, table_at, keeps, Effect, none, listed, is_assignment, answer_of, effect_of, performs, listing_of, memory_of, Turned, quiet, state_at, line_turn, command_turn, front_turn, front_of, turn_of, cursor_fits, usable, Fitted}
use Rattle.session.specs.Session.{Session, goes, reads, closes, ends, Fresh}
use Rattle.session.specs.declared.Cursor.{Cursor}
use Rattle.session.specs.declared.State.{State}
use Rattle.session.specs.declared.Next.{Next}
use Rattle.session.specs.declared.Next.TheVariants.{Goes, Reads, Ends, Misused}
use Rattle.session.proofs.Steps.{whole}
use Rattle.session.proofs.Turning.{turn_in_lem, turn-next, line-there, over-end, and_right}
use Rattle.session.proofs.Commands.{no, number-good, numbers-one, performs-assign, performs-list, performs-none, perform-axes, execute-end, execute-open, execute-bad, execute-good, effect-end, effect-open, effect-bad, effect-good}
use Rattle.session.proofs.Listings.{Stands}
use Rattle.session.proofs.Assigned.{table-long, within, Bounded, answer-bounded}
use Rattle.session.proofs.Sessions.{Fine, turned, joined, never, session-script}

-- ---- what turns leave

abbrev pub Named : Option Cursor → Type 0
Named None = Unit {0}
Named (Some c) = c.set ≤ 3

-- the memory, n and the listing, but for where its cursor stands
pub record Kept (n : ℕ) (y : Memory) (l : Option Cursor) : Type 0 where
  pub fitted : Fitted y.tables y.lengths
  pub result_long : length y.result ≡ room
  pub axes : n ≤ 8
  pub named : Named l

all-fits : (l : List ℕ) → ((m : ℕ) → get_or l m 0 ≤ room) → all (λ (x : ℕ). leb x room) l ≡ true
all-fits [] h = refl
all-fits (x ∷ l) h = ap₂ ◌&&◌ (le-leb x room (h 0)) (all-fits l (λ m. h (suc m)))

cursor-fits : (n : ℕ) (y : Memory) (l : Option Cursor) → Named l → Fine n y l → cursor_fits y.lengths l ≡ true
cursor-fits n y None m f = refl
cursor-fits n y (Some c) m f =
    let i = f.here.inside in let b = f.basics in let d = f.divisions in let p = f.most in let q = f.few in
    ap₂ ◌&&◌ (le-leb c.set 3 m)
    (ap₂ ◌&&◌ (le-leb c.place (get_or y.lengths c.set 0) (omega (arith, length-take (get_or y.lengths c.set 0) (drop (room * c.set) y.tables))))
    (ap₂ ◌&&◌ (le-leb c.basics room (omega arith)) (le-leb c.divisions 8 (omega arith))))

pub usable-kept : (w : ℕ) (st : State) (y : Memory) → 512 ≤ w → Kept st.axes y st.listing → Fine st.axes y st.listing → usable st y w ≡ true
unfolding usable
usable-kept w st y h k f =
    ap₂ ◌&&◌ (eq-eqb (length y.tables) 32000 k.fitted.tables_long)
    (ap₂ ◌&&◌ (eq-eqb (length y.lengths) 4 k.fitted.lengths_long)
    (ap₂ ◌&&◌ (all-fits y.lengths k.fitted.fit)
    (ap₂ ◌&&◌ (eq-eqb (length y.result) room k.result_long) (ap₂ ◌&&◌ (le-leb 512 w h) (ap₂ ◌&&◌ (le-leb st.axes 8 k.axes) (cursor-fits st.axes y st.listing k.named f))))))

-- ---- a command keeps them

kept-assigned : (n : ℕ) (y : Memory) (m : ℕ) (a : Answer (List ℕ)) → m ≤ 3 → Bounded a → Fitted y.tables y.lengths → n ≤ 8 → Kept n (keeps y m a) None
kept-assigned n y m (refused k) h b f x = record { fitted = f; result_long = length-replicate {A = ℕ} room 0; axes = x; named = tt }
kept-assigned n y m (gives l) h b f x =
    let g = b.within_room l refl in
    record {
      fitted =
          record {
            tables_long = wrote-length {l = table_of room (gives l)} (record { end_is = refl; room = within y.tables y.lengths l f g m h; bytes = refl }) ∙ f.tables_long;
            lengths_long = length-set y.lengths m (length l) ∙ f.lengths_long;
            fit = λ j. at g j (eqb j m) refl;
          };
      result_long = table-long y.tables y.lengths l f g m h;
      axes = x;
      named = tt;
    }
  where
    at : length l ≤ room → (j : ℕ) (z : Bool) → eqb j m ≡ z → get_or (set y.lengths m (length l)) j 0 ≤ room
    at g j true q =
        let e = eqb-true j m q in let n = f.lengths_long in
        subst (λ (i : ℕ). i ≤ room) (sym (ap (λ (i : ℕ). get_or (set y.lengths m (length l)) i 0) e ∙ get_or-set_same y.lengths m (length l) 0 (omega arith))) g
    at g j false q = subst (λ (i : ℕ). i ≤ room) (sym (get_or-set_other y.lengths m j (length l) 0 (eqb-false j m q))) (f.fit j)

-- what a command does with them
abbrev Keeps : Memory → ℕ → Effect → Type 0
Keeps y n e = Kept n (memory_of y e) (listing_of e)

keeps_same : (y : Memory) {n n' : ℕ} {e e' : Effect} → n ≡ n' → e ≡ e' → Keeps y n e → Keeps y n' e'
keeps_same y {n} {n'} {e} {e'} p q k = subst (λ (i : ℕ). Keeps y i e') p (subst (λ (x : Effect). Keeps y n x) q k)

module _ (y : Memory) (n : ℕ) (k : Kept n y None) where
  keeps-listed : (m : ℕ) (a : Answer Set) → m ≤ 3 → Keeps y n (listed m a)
  keeps-listed m (refused j) h = k
  keeps-listed m (gives t) h = record { fitted = k.fitted; result_long = k.result_long; axes = k.axes; named = h }

  keeps-performed : (b : ℕ) (s : List ℕ) → get_or s 0 0 ≤ 3 → Keeps y (S.perform (state_of n y) b s).state.axes (performs (state_of n y) b s)
  keeps-performed b s h = at (is_assignment b) refl (eqb b 0x45) refl
    where
      same : {e : Effect} → performs (state_of n y) b s ≡ e → Keeps y n e → Keeps y (S.perform (state_of n y) b s).state.axes (performs (state_of n y) b s)
      same q = keeps_same y (sym (perform-axes (state_of n y) b s)) (sym q)

      at : (x : Bool) → is_assignment b ≡ x → (z : Bool) → eqb b 0x45 ≡ z → Keeps y (S.perform (state_of n y) b s).state.axes (performs (state_of n y) b s)
      at true e z q = same (performs-assign (state_of n y) b s e) (kept-assigned n y (get_or s 0 0) (answer_of (state_of n y) b s) h (answer-bounded (state_of n y) b s) k.fitted k.axes)
      at false e true q = same (performs-list (state_of n y) b s (eqb-true b 0x45 q)) (keeps-listed (get_or s 0 0) (decode n (S.set_at (state_of n y) (get_or s 0 0))) h)
      at false e false q = same (performs-none (state_of n y) b s (eqb-false b 0x45 q) e) k

  keeps-opened : (m : ℕ) → Keeps y (S.opened (state_of n y) m).state.axes none
  keeps-opened m = at (axes_fit m) refl
    where
      at : (x : Bool) → axes_fit m ≡ x → Kept (cond x (S.says (record { axes = m; sets = (state_of n y).sets }) (line "axes" (pos m ∷ []))) (S.ends (state_of n y) (S.refused_line 1))).state.axes y None
      at true e = record { fitted = k.fitted; result_long = k.result_long; axes = leb-true m 8 (and_right (ltb 0 m) (leb m 8) e); named = tt }
      at false e = k

  keeps-command : (c : List ℕ) → Keeps y (execute (state_of n y) c).state.axes (effect_of (state_of n y) c)
  unfolding execute effect_of
  keeps-command [] = k
  keeps-command (b ∷ s) = at (eqb b 0x00) refl (eqb b 0x10) refl (all (λ (m : ℕ). leb m 3) (take (set_numbers b) s)) refl
    where
      same : {d : Done} {e : Effect} → execute (state_of n y) (b ∷ s) ≡ d → effect_of (state_of n y) (b ∷ s) ≡ e → Keeps y d.state.axes e → Keeps y (execute (state_of n y) (b ∷ s)).state.axes (effect_of (state_of n y) (b ∷ s))
      same p q = keeps_same y (ap (λ (x : Done). x.state.axes) (sym p)) (sym q)

      at : (x : Bool) → eqb b 0x00 ≡ x → (z : Bool) → eqb b 0x10 ≡ z → (g : Bool) → all (λ (m : ℕ). leb m 3) (take (set_numbers b) s) ≡ g → Keeps y (execute (state_of n y) (b ∷ s)).state.axes (effect_of (state_of n y) (b ∷ s))
      at true e z q g r = let i = eqb-true b 0x00 e in same (execute-end (state_of n y) b s i) (effect-end (state_of n y) b s i) k
      at false e true q g r = let i = eqb-true b 0x10 q in same (execute-open (state_of n y) b s i) (effect-open (state_of n y) b s i) (keeps-opened (get_or s 0 0))
      at false e false q false r = same (execute-bad (state_of n y) b s (eqb-false b 0x00 e) (eqb-false b 0x10 q) r) (effect-bad (state_of n y) b s r) k
      at false e false q true r =
          same (execute-good (state_of n y) b s (eqb-false b 0x00 e) (eqb-false b 0x10 q) r) (effect-good (state_of n y) b s r)
          (keeps-performed b s (number-good (set_numbers b) 0 s r (numbers-one b)))

-- ---- a turn keeps them, and brings the end nearer

-- the bytes of a listing that are left
abbrev left : Memory → Option Cursor → ℕ
left y None = 0
left y (Some c) = suc (length (table_at y.tables y.lengths c.set) - c.place)

left-most : (y : Memory) (l : Option Cursor) → Fitted y.tables y.lengths → left y l ≤ 8001
left-most y None f = omega arith
left-most y (Some c) f = let b = f.fit c.set in omega (arith, length-take (get_or y.lengths c.set 0) (drop (room * c.set) y.tables))

-- a listing is shorter than a byte of input
abbrev size : Memory → Option Cursor → List ℕ → ℕ
size y l s = length s * 8002 + left y l

pub record Onward (st : State) (y : Memory) (s : List ℕ) (t : Turned) : Type 0 where
  pub kept : t.next ≡ Goes → Kept t.state.axes t.memory t.state.listing
  less : t.next ≡ Goes → size t.memory t.state.listing (drop t.used s) < size y st.listing s

onward-same : {st : State} {y : Memory} {s : List ℕ} {t t' : Turned} → t ≡ t' → Onward st y s t → Onward st y s t'
onward-same {st} {y} {s} q a = subst (λ (t : Turned). Onward st y s t) q a

line-onward : (st : State) (y : Memory) (s : List ℕ) (c : Cursor) → st.listing ≡ Some c → Kept st.axes y (Some c) → Stands st.axes (table_at y.tables y.lengths c.set) c
    → Onward st y s (line_turn st.axes y c (drop c.place (table_at y.tables y.lengths c.set)))
line-onward st y s c q k d = by (ltb c.place (length bytes)) refl
  where
    bytes : List ℕ
    bytes = table_at y.tables y.lengths c.set

    by : (x : Bool) → ltb c.place (length (table_at y.tables y.lengths c.set)) ≡ x → Onward st y s (line_turn st.axes y c (drop c.place (table_at y.tables y.lengths c.set)))
    by true e =
        let s₀ : List ℕ = table_at y.tables y.lengths c.set in
        let h = ltb-true c.place (length s₀) e in
        let w : ℕ = width_of (get_or s₀ c.place 0) in
        let hd = head st.axes s₀ c.place d.k w d.here h refl in
        let a = hd.wide in let b = hd.there.inside in
        let u : suc (length s₀ - (c.place + w)) < suc (length s₀ - c.place) = omega arith in
        onward-same (sym (line-there st.axes y c s₀ c.place h w refl (λ z. omega arith) (omega arith)))
        (record {
          kept = λ z. record { fitted = k.fitted; result_long = k.result_long; axes = k.axes; named = k.named };
          less = λ z. subst (λ (l : Option Cursor). length s * 8002 + suc (length s₀ - (c.place + w)) < size y l s) (sym q) (omega arith);
        })
    by false e =
        onward-same (sym (over-end st.axes y c (table_at y.tables y.lengths c.set) c.place (ltb-false c.place (length (table_at y.tables y.lengths c.set)) e)))
        (record {
          kept = λ z. record { fitted = k.fitted; result_long = k.result_long; axes = k.axes; named = tt };
          less = λ z. subst (λ (l : Option Cursor). length s * 8002 + 0 < size y l s) (sym q) (omega arith);
        })

command-onward : (st : State) (y : Memory) (s : List ℕ) → st.listing ≡ None → Kept st.axes y None → ending st.axes s ≡ 0 → Onward st y s (command_turn st y (take (command_width s) s))
command-onward st y s q k e =
    let w = whole st.axes s e in let a = w.known in let b = w.there in
    let u : length (take (command_width s) s) ≡ command_width s = length-take-le (command_width s) s b in
    let v : length (drop (length (take (command_width s) s)) s) < length s = omega (arith, length-drop (length (take (command_width s) s)) s) in
    let g = keeps-command y st.axes k (take (command_width s) s) in
    let m = left-most (memory_of y (effect_of (state_of st.axes y) (take (command_width s) s))) (listing_of (effect_of (state_of st.axes y) (take (command_width s) s))) g.fitted in
    record {
      kept = λ z. g;
      less =
          λ z. subst (λ (l : Option Cursor). length (drop (length (take (command_width s) s)) s) * 8002 + left (memory_of y (effect_of (state_of st.axes y) (take (command_width s) s))) (listing_of (effect_of (state_of st.axes y) (take (command_width s) s))) < size y l s) (sym q)
          (omega arith);
    }

front-onward : (st : State) (y : Memory) (e : Bool) (s : List ℕ) → st.listing ≡ None → Kept st.axes y None → Onward st y s (front_turn st y s (front_of st.axes e s))
unfolding front_of
front-onward st y e s q k = by (ending st.axes s) refl
  where
    stops : (x : Bool) (k : ℕ) → Onward st y s (front_turn st y s (cond x (gives None) (refused k)))
    stops true k = record { kept = λ z. never (let n : ◌≡◌ {A = ℕ} 0 1 = cc in n); less = λ z. never (let n : ◌≡◌ {A = ℕ} 0 1 = cc in n) }
    stops false k = record { kept = λ z. never (let n : ◌≡◌ {A = ℕ} 0 1 = cc in n); less = λ z. never (let n : ◌≡◌ {A = ℕ} 0 1 = cc in n) }

    by : (m : ℕ) → ending st.axes s ≡ m → Onward st y s (front_turn st y s (elim m [ zero ↦ gives (Some (command_width s)) | suc k ↦ cond (eqb (suc k) 3 && not e) (gives None) (refused (suc k)) ]))
    by zero h = command-onward st y s q k h
    by (suc m) h = stops (eqb (suc m) 3 && not e) (suc m)

pub onward : (w : ℕ) (st : State) (y : Memory) (e : Bool) (s : List ℕ) → usable st y w ≡ true → Kept st.axes y st.listing → Fine st.axes y st.listing → Onward st y s (turn_of st y w e s)
onward w st y e s u k f = at st.listing refl k f
  where
    at : (l : Option Cursor) → st.listing ≡ l → Kept st.axes y l → Fine st.axes y l → Onward st y s (turn_of st y w e s)
    at None q k f = onward-same (sym (turn_in_lem st y w e s u None q)) (front-onward st y e s q k)
    at (Some c) q k f = onward-same (sym (turn_in_lem st y w e s u (Some c) q)) (line-onward st y s c q k f)

-- ---- the whole

-- with the reads to come, and that they are at an end
abbrev whole_size : State → Memory → Bool → List ℕ → List (List ℕ) → ℕ
whole_size st y e s ps = size y st.listing s + length (joined ps) * 8002 + length ps + cond e 0 1

abbrev Prints : ℕ → State → Memory → Bool → List ℕ → List (List ℕ) → Type 0
Prints w st y e s ps = (l : List ℕ) × Session w st y e s ps l

-- a session from every nearer place
abbrev Again : ℕ → ℕ → Type 0
Again w m =
    (st : State) (y : Memory) (e : Bool) (s : List ℕ) (ps : List (List ℕ)) → whole_size st y e s ps < m → Kept st.axes y st.listing → Fine st.axes y st.listing → (e ≡ true → ps ≡ []) → Prints w st y e s ps

reads_on : (w : ℕ) (st : State) (y : Memory) (s : List ℕ) (ps : List (List ℕ)) (e : Bool) → (turn_of st y w e s).next ≡ Reads → ¬ (e ≡ true) → turn_of st y w e s ≡ quiet st y Reads
    → Kept st.axes y st.listing → Fine st.axes y st.listing → Again w (whole_size st y e s ps) → Prints w st y e s ps
reads_on w st y s ps true q n a k i again = absurd (n refl)
reads_on w st y s [] false q n a k i again =
    let r = subst (λ (t : Turned). Prints w t.state t.memory true (drop t.used s) []) (sym a) (again st y true s [] (omega arith) k i (λ z. refl)) in
    ((turn_of st y w false s).text ++ r.0, closes q r.1)
reads_on w st y s (p ∷ ps) false q n a k i again =
    let r = subst (λ (t : Turned). Prints w t.state t.memory false (drop t.used s ++ p) ps) (sym a) (again st y false (s ++ p) ps (omega (arith, length-append s p, length-append p (joined ps))) k i (λ z. no z)) in
    ((turn_of st y w false s).text ++ r.0, reads q r.1)

one-turn : (w : ℕ) → 512 ≤ w → (st : State) (y : Memory) (e : Bool) (s : List ℕ) (ps : List (List ℕ)) → Kept st.axes y st.listing → Fine st.axes y st.listing → (e ≡ true → ps ≡ []) → Again w (whole_size st y e s ps)
    → Prints w st y e s ps
one-turn w h st y e s ps k i g again = by (turn_of st y w e s).next refl
  where
    by : (n : Next) → (turn_of st y w e s).next ≡ n → Prints w st y e s ps
    by Ends q = ((turn_of st y w e s).text, ends q)
    by Misused q = absurd ((turn-next st y w e s (usable-kept w st y h k i)).0 q)
    by Reads q =
        let u = usable-kept w st y h k i in
        let a = turned st y w e s (joined ps) u i (λ d. ap joined (g d)) in
        reads_on w st y s ps e q (λ d. (turn-next st y w e s u).1 d q) (a.waits q) k i again
    by Goes q =
        let u = usable-kept w st y h k i in
        let a = turned st y w e s (joined ps) u i (λ d. ap joined (g d)) in
        let o = onward w st y e s u k i in
        let l = o.less q in
        let r = again (turn_of st y w e s).state (turn_of st y w e s).memory e (drop (turn_of st y w e s).used s) ps (omega arith) (o.kept q) (a.on q).0 g in
        ((turn_of st y w e s).text ++ r.0, goes q r.1)

session-ends : (f w : ℕ) → 512 ≤ w → (st : State) (y : Memory) (e : Bool) (s : List ℕ) (ps : List (List ℕ)) → whole_size st y e s ps ≤ f → Kept st.axes y st.listing → Fine st.axes y st.listing → (e ≡ true → ps ≡ [])
    → Prints w st y e s ps
session-ends zero w h st y e s ps z k i g = one-turn w h st y e s ps k i g (λ st' y' e' s' ps' l. absurd (omega arith))
session-ends (suc f) w h st y e s ps z k i g = one-turn w h st y e s ps k i g (λ st' y' e' s' ps' l. session-ends f w h st' y' e' s' ps' (omega arith))

empty-fit : (m : ℕ) → get_or (0 ∷ 0 ∷ 0 ∷ 0 ∷ []) m 0 ≤ room
empty-fit zero = omega arith
empty-fit (suc zero) = omega arith
empty-fit (suc (suc zero)) = omega arith
empty-fit (suc (suc (suc zero))) = omega arith
empty-fit (suc (suc (suc (suc m)))) = omega arith

pub fresh_kept : (y : Memory) → Fresh y → Kept 0 y None
fresh_kept y f =
    record {
      fitted = record { tables_long = f.tables; lengths_long = ap length f.empty; fit = λ m. subst (λ (l : List ℕ). get_or l m 0 ≤ room) (sym f.empty) (empty-fit m) };
      result_long = f.result;
      axes = omega arith;
      named = tt;
    }

-- From fresh memory: however the input is split into reads there is a session, and it prints the script.
pub session-total : (w : ℕ) (y : Memory) (ps : List (List ℕ)) → 512 ≤ w → Fresh y → Session w (state_at 0 None) y false [] ps (script (joined ps))
session-total w y ps h f =
    let r = session-ends (whole_size (state_at 0 None) y false [] ps) w h (state_at 0 None) y false [] ps (omega arith) (fresh_kept y f) tt (λ z. no z) in
    subst (λ (l : List ℕ). Session w (state_at 0 None) y false [] ps l) (session-script w y ps r.0 f.empty r.1) r.1
