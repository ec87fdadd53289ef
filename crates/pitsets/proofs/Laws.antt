-- What a turn tells the program: how much text it wrote, how much input it used, how little there was where it asks for
-- more; and the run so far, carried over the turn and the read behind it.
use mathlib.Core.Path.{◌≡◌, refl, ap, sym, subst, ◌∙◌}
use mathlib.Core.Bool.{Bool, true, false}
use mathlib.Core.List.{List, [], ◌++◌}
use Prim.Native.Nat.{ℕ, ◌+◌, ◌-◌, ◌≤◌, ◌<◌}
use native.Mathlib.Omega.{arith}
use borrow.Author.Tests.{ltb-true, ltb-false}
use lib.Dec.{ltb}
use lib.ListN.{length, get_or, take, drop, length-drop, get_or-eq_default}
use lib.Seq.{length-take-le, get_or-take, get_or-drop, take-add, drop_at, drop-drop}
use Rattle.session.specs.Turns.{Memory, memory, turn_of}
use Rattle.session.specs.Session.{Reached, goes, reads, Left}
use Rattle.session.specs.declared.State.{State}
use Rattle.session.specs.declared.Next.{Next}
use Rattle.session.specs.declared.Next.TheVariants.{Goes, Reads, Ends, Misused}
use Rattle.session.proofs.Turning.{turn-used, turn-short}
use Rattle.session.proofs.Running.{never-misused}
use Rattle.script.specs.Promises.{TurnIs}
use Rattle.script.specs.declared.turns.Turn.{Turn}
use Rattle.pitsets.specs.Moving.{unused, Refilled}
use Rattle.pitsets.specs.declared.Filled.{Filled}

-- the bytes that are read and not used are in the table, and all of it consists of bytes
pub record Window (l : List ℕ) (from have : ℕ) : Type 0 where
  pub long : length l ≡ 69632
  pub order : from ≤ have
  pub within : have ≤ 69632
  pub bytes : (i : ℕ) → get_or l i 0 < 256

drop-front : (n k : ℕ) (l : List ℕ) → n + k ≤ length l → drop n (take (n + k) l) ≡ take k (drop n l)
drop-front n k l h = ap (drop n) (take-add n k l) ∙ drop_at (take n l) (take k (drop n l)) n (length-take-le n l (omega arith))

module _ (l : List ℕ) (from have : ℕ) (w : Window l from have) where
  unused-long : length (unused l from have) ≡ have - from
  unused-long = let m = w.long in let n = w.within in length-take-le (have - from) (drop from l) (omega (arith, length-drop from l))

  unused-bytes : (j : ℕ) → get_or (unused l from have) j 0 < 256
  unused-bytes j = by (ltb j (have - from)) refl
    where
      by : (x : Bool) → ltb j (have - from) ≡ x → get_or (unused l from have) j 0 < 256
      by true q = let e = get_or-take (have - from) (drop from l) j 0 (ltb-true j (have - from) q) in let f = get_or-drop from l j 0 in let h = w.bytes (from + j) in omega arith
      by false q = let m = unused-long in let n = ltb-false j (have - from) q in let e : get_or (unused l from have) j 0 ≡ 0 = get_or-eq_default (unused l from have) 0 (omega arith) in omega arith

  -- u of them used
  unused-later : (u : ℕ) → from + u ≤ have → drop u (unused l from have) ≡ unused l (from + u) have
  unused-later u h =
      let m = w.long in let n = w.within in let e : have - from ≡ u + (have - (from + u)) = omega arith in
      ap (λ (k : ℕ). drop u (take k (drop from l))) e
      ∙ drop-front u (have - (from + u)) (drop from l) (omega (arith, length-drop from l))
      ∙ ap (take (have - (from + u))) (drop-drop u from l)

  module _ (st : State) (y : Memory) (e : Bool) {r : Turn} {o o' t k u : List ℕ} (i : TurnIs (turn_of st y (length o) e (unused l from have)) r o o' t k u) where
    pub text_in : r.text ≤ length o
    text_in = i.says.text.room

    pub used-in : from + r.used ≤ have
    used-in =
        let m = unused-long in let z = w.order in
        let h : r.used ≤ length (unused l from have) = subst (λ (n : ℕ). n ≤ length (unused l from have)) (sym i.says.used) (turn-used st y (length o) e (unused l from have)) in
        omega arith

    -- with room for a byte more
    pub short-in : r.next ≡ Reads → have - from < 65539
    short-in q = let m = unused-long in let h = turn-short st y (length o) e (unused l from have) unused-bytes (sym i.says.next ∙ q) in omega arith

-- ---- a read

module _ {l l' : List ℕ} {from have turns : ℕ} {r : Filled} (f : Refilled l l' from have turns r) where
  -- the bytes that came
  abbrev came : List ℕ
  came = unused l' (have - from) r.have

  came-behind : unused l from have ++ came ≡ unused l' 0 r.have
  came-behind =
      let m = f.more in let k : ℕ = have - from in let e : k + (r.have - k) ≡ r.have - 0 = omega arith in
      ap (λ (x : List ℕ). x ++ came) (sym f.kept) ∙ sym (take-add k (r.have - k) l') ∙ ap (λ (n : ℕ). take n l') e

  came-none : r.ended ≡ true → came ≡ []
  came-none q = let h = f.end q in let e : r.have - (have - from) ≡ 0 = omega arith in ap (λ (n : ℕ). take n (drop (have - from) l')) e

-- ---- the run so far

-- turns and reads have brought it there, whatever it has read and printed
abbrev pub SoFar : ℕ → State → Memory → Bool → List ℕ → Type 0
SoFar w st y e s = (i : List ℕ) × (o : List ℕ) × Reached w st y e s i o

-- with turns left it stands where turns and reads have brought it, after the last one its memory is what that turn left
pub record Running (w turns : ℕ) (st : State) (y : Memory) (e : Bool) (s : List ℕ) : Type 0 where
  pub on : 0 < turns → SoFar w st y e s
  pub off : turns ≡ 0 → Left w y

only-goes : (n : Next) → ¬ (n ≡ Misused) → ¬ (n ≡ Ends) → ¬ (n ≡ Reads) → n ≡ Goes
only-goes Goes m d q = refl
only-goes Reads m d q = absurd (q refl)
only-goes Ends m d q = absurd (d refl)
only-goes Misused m d q = absurd (m refl)

module _ {w from have : ℕ} {l : List ℕ} (v : Window l from have) (h : 512 ≤ w) {st : State} {y : Memory} {e : Bool} {i o : List ℕ} (g : Reached w st y e (unused l from have) i o)
    {r : Turn} {x x' t k u : List ℕ} (lw : length x ≡ w) (z : TurnIs (turn_of st y (length x) e (unused l from have)) r x x' t k u) where
  told : TurnIs (turn_of st y w e (unused l from have)) r x x' t k u
  told = subst (λ (n : ℕ). TurnIs (turn_of st y n e (unused l from have)) r x x' t k u) lw z

  memory-after : memory t k u ≡ (turn_of st y w e (unused l from have)).memory
  memory-after =
      let m : Memory = (turn_of st y w e (unused l from have)).memory in
      ap (λ (a : List ℕ). memory a k u) told.holds.tables_are
      ∙ ap (λ (a : List ℕ). memory m.tables a u) told.holds.lengths_are
      ∙ ap (λ (a : List ℕ). memory m.tables m.lengths a) told.holds.result_is

  used-after : drop (turn_of st y w e (unused l from have)).used (unused l from have) ≡ unused l (from + r.used) have
  used-after = ap (λ (n : ℕ). drop n (unused l from have)) (sym told.says.used) ∙ unused-later l from have v r.used (used-in l from have v st y e z)

  pub leaves : Left w (memory t k u)
  leaves = record { st = st; y = y; e = e; s = unused l from have; read = i; printed = o; reached = g; memory = memory-after }

  moved : {e' : Bool} {s s' i' o' : List ℕ} → s ≡ s' → Reached w (turn_of st y w e (unused l from have)).state (turn_of st y w e (unused l from have)).memory e' s i' o' → Reached w r.state (memory t k u) e' s' i' o'
  moved {e'} {s} {s'} {i'} {o'} q j =
      subst (λ (a : State). Reached w a (memory t k u) e' s' i' o') (sym told.says.state)
      (subst (λ (a : Memory). Reached w (turn_of st y w e (unused l from have)).state a e' s' i' o') (sym memory-after)
      (subst (λ (a : List ℕ). Reached w (turn_of st y w e (unused l from have)).state (turn_of st y w e (unused l from have)).memory e' a i' o') q j))

  -- a turn with another behind it
  pub runs_on : (n : ℕ) → (0 < n → ¬ (r.next ≡ Ends)) → ¬ (r.next ≡ Reads) → Running w n r.state (memory t k u) e (unused l (from + r.used) have)
  runs_on n d q =
      record {
        on = λ p. (i, o ++ (turn_of st y w e (unused l from have)).text, moved used-after (goes g (only-goes (turn_of st y w e (unused l from have)).next (never-misused h g) (λ c. d p (told.says.next ∙ c)) (λ c. q (told.says.next ∙ c)))));
        off = λ p. leaves;
      }

  -- a turn with a read behind it
  pub reads_on : {l' : List ℕ} {turns : ℕ} {f : Filled} → r.next ≡ Reads → Refilled l l' (from + r.used) have turns f → Running w f.turns r.state (memory t k u) f.ended (unused l' 0 f.have)
  reads_on {l'} {turns} {f} q c =
      record {
        on = λ p. (i ++ came c, o ++ (turn_of st y w e (unused l from have)).text, moved (ap (λ (a : List ℕ). a ++ came c) used-after ∙ came-behind c) (reads g (sym told.says.next ∙ q) (came c) f.ended (came-none c)));
        off = λ p. leaves;
      }
