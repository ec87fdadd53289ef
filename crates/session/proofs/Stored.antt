-- The sets that a script keeps always decode for its n: so a listing is never refused, and an operation only by 10 or 11.
use mathlib.Core.Path.{◌≡◌, refl, sym, subst}
use mathlib.Core.Bool.{Bool, true, false, not, cond}
use mathlib.Core.List.{List, [], ◌∷◌}
use Prim.Native.Nat.{ℕ, zero, suc}
use lib.Dec.{T, leb, ltb, eqb, eqb→eq, eqb-suc-zero}
use lib.IntN.{pos}
use lib.ListN.{length, take, drop, get_or, set, replicate}
use Rattle.integers.specs.LittleEndian.{bytes_drop}
use Rattle.model.specs.Lists.{all}
use Rattle.model.specs.Sets.{Set}
use Rattle.codec.specs.Bytes.{Answer, refused, gives, value_of, first_failing, axes_fit, decode}
use Rattle.codec.proofs.Decoded.{Bytes, no_way}
use Rattle.model.proofs.Count.{from-T, to-T, no-suc}
use Rattle.algebra.specs.Operations.{union_bytes, intersection_bytes, difference_bytes, complement_bytes}
use Rattle.algebra.proofs.Again.{union-within, intersection-within, difference-within, complement-within}
use Rattle.query.specs.Member.{member_bytes}
use Rattle.enumeration.specs.Search.{search_bytes}
use Rattle.listing.specs.Text.{line, listing}
use Rattle.session.specs.Script.{State, empty, set_at, room, fixed_width, command_width, in_place, ending, coordinates, set_numbers, Done, says, ends, refused_line, opened, stored, fitting, load_bytes, told, member_line, search_line, perform, execute}

pub record Decodes (n : ℕ) (l : List ℕ) : Type 0 where
  pub bytes : Bytes l
  pub s : Set
  pub decoded : decode n l ≡ gives s

-- before `10`, and after it
pub data Sound : State → Type 0 where
  fresh : {st : State} → st.axes ≡ 0 → ((m : ℕ) → set_at st m ≡ []) → Sound st
  running : {st : State} → T (axes_fit st.axes) → ((m : ℕ) → Decodes st.axes (set_at st m)) → Sound st

no-sets : (k m : ℕ) → get_or {A = List ℕ} (replicate k []) m [] ≡ []
no-sets zero m = refl
no-sets (suc k) zero = refl
no-sets (suc k) (suc m) = no-sets k m

pub empty-sound : Sound empty
empty-sound = fresh refl (no-sets 4)

-- the state that a command leaves
pub record Leaves (d : Done) : Type 0 where
  pub sound : Sound d.state

-- ---- what is stored

kept : (P : List ℕ → Type 0) (l : List ℕ) → P l → (xs : List (List ℕ)) (m : ℕ) → ((k : ℕ) → P (get_or xs k [])) → (k : ℕ) → P (get_or (set xs m l) k [])
kept P l p [] m h k = h k
kept P l p (x ∷ xs) zero h zero = p
kept P l p (x ∷ xs) zero h (suc k) = h (suc k)
kept P l p (x ∷ xs) (suc m) h zero = h 0
kept P l p (x ∷ xs) (suc m) h (suc k) = kept P l p xs m (λ j. h (suc j)) k

empty-decodes : (n : ℕ) → T (axes_fit n) → Decodes n []
unfolding decode Rattle.codec.specs.Bytes.parse
empty-decodes n t = record { bytes = tt; s = []; decoded = rw (from-T (axes_fit n) t) }

pick : (c : Bool) {x y : Done} → Leaves x → Leaves y → Leaves (cond c x y)
pick true p q = p
pick false p q = q

module _ (st : State) (fit : T (axes_fit st.axes)) (good : (m : ℕ) → Decodes st.axes (set_at st m)) where
  stored-sound : (m : ℕ) (r : Answer (List ℕ)) → ((l : List ℕ) → r ≡ gives l → Decodes st.axes l) → Leaves (stored st m r)
  stored-sound m (refused k) h = record { sound = running fit good }
  stored-sound m (gives l) h = record { sound = running fit (kept (Decodes st.axes) l (h l refl) st.sets m good) }

  told-sound : {A : Type 0} (f : A → List ℕ) (r : Answer A) → Leaves (told st f r)
  told-sound f (refused k) = record { sound = running fit good }
  told-sound f (gives a) = record { sound = running fit good }

  load-decodes : (l l' : List ℕ) → Bytes l → load_bytes st.axes l ≡ gives l' → Decodes st.axes l'
  unfolding load_bytes
  load-decodes l l' p e = by (decode st.axes l) refl e
    where
      on : (s : Set) → decode st.axes l ≡ gives s → (c : Bool) → ◌≡◌ {A = Answer (List ℕ)} (cond c (gives l) (refused 11)) (gives l') → Decodes st.axes l'
      on s d true e = let z : l ≡ l' = cc in subst (Decodes st.axes) z (record { bytes = p; s = s; decoded = d })
      on s d false e = let z : ◌≡◌ {A = ℕ} 0 1 = cc in no_way z

      by : (a : Answer Set) → decode st.axes l ≡ a → fitting l a ≡ gives l' → Decodes st.axes l'
      by (refused k) d e = let z : ◌≡◌ {A = ℕ} 0 1 = cc in no_way z
      by (gives s) d e = on s d (leb (length l) room) e

  perform-sound : (b : ℕ) (s : List ℕ) → Bytes s → Leaves (perform st b s)
  unfolding perform
  perform-sound b s p =
      let n : ℕ = st.axes in
      let m : ℕ = get_or s 0 0 in
      let first : List ℕ = set_at st (get_or s 1 0) in
      let second : List ℕ = set_at st (get_or s 2 0) in
      let p1 : Bytes first = (good (get_or s 1 0)).bytes in
      let p2 : Bytes second = (good (get_or s 2 0)).bytes in
      pick (eqb b 0x40) (stored-sound m (load_bytes n (drop 3 s)) (λ l e. load-decodes (drop 3 s) l (bytes_drop 3 s p) e))
      (pick (eqb b 0x41) (stored-sound m (union_bytes n room first second) (λ l e. let w = union-within n room first second l p1 p2 e in record { bytes = w.1.bytes; s = w.0; decoded = w.1.decoded }))
      (pick (eqb b 0x42) (stored-sound m (intersection_bytes n room first second) (λ l e. let w = intersection-within n room first second l p1 p2 e in record { bytes = w.1.bytes; s = w.0; decoded = w.1.decoded }))
      (pick (eqb b 0x43) (stored-sound m (difference_bytes n room first second) (λ l e. let w = difference-within n room first second l p1 p2 e in record { bytes = w.1.bytes; s = w.0; decoded = w.1.decoded }))
      (pick (eqb b 0x44) (stored-sound m (complement_bytes n room first) (λ l e. let w = complement-within n room first l p1 e in record { bytes = w.1.bytes; s = w.0; decoded = w.1.decoded }))
      (pick (eqb b 0x45) (told-sound (listing n m) (decode n (set_at st m)))
      (pick (eqb b 0x46) (told-sound member_line (member_bytes n (set_at st m) (coordinates 8 (drop 1 s))))
      (told-sound search_line (search_bytes n (set_at st m) (coordinates 8 (drop 5 s)) (coordinates 8 (drop 37 s)) (value_of (take 4 (drop 1 s)))))))))))

-- "A refusal prints a line, .. and leaves the target set": the state is as it was, and the script goes on
pub refusal-leaves : (st : State) (m k : ℕ) → ((stored st m (refused k)).state ≡ st) × ((stored st m (refused k)).goes ≡ true)
refusal-leaves st m k = (refl, refl)

-- a load over 8,000 bytes: the set's own refusal, else 11
pub load-refused : (n : ℕ) (l : List ℕ) (k : ℕ) → decode n l ≡ refused k → load_bytes n l ≡ refused k
unfolding load_bytes
load-refused n l k e = rw e

pub load-long : (n : ℕ) (l : List ℕ) (s : Set) → decode n l ≡ gives s → leb (length l) room ≡ false → load_bytes n l ≡ refused 11
unfolding load_bytes
load-long n l s e f = rw (e, f)

-- ---- one step

placed : (axes b : ℕ) (s : List ℕ) → ending axes (b ∷ s) ≡ 0 → T (in_place axes b)
unfolding ending
placed axes b s e = by (ltb 0 (fixed_width b)) (in_place axes b) (leb (command_width (b ∷ s)) (suc (length s))) e
  where
    by : (p q c : Bool) → first_failing ((p, 2) ∷ (q, 15) ∷ (c, 3) ∷ []) ≡ 0 → T q
    by true true c e = tt
    by true false c e = no-suc e
    by false q c e = no-suc e

opened-sound : (st : State) → st.axes ≡ 0 → ((m : ℕ) → set_at st m ≡ []) → (n : ℕ) → Leaves (opened st n)
opened-sound st z none n = by (axes_fit n) refl
  where
    by : (c : Bool) → axes_fit n ≡ c → Leaves (cond c (says (record { axes = n; sets = st.sets }) (line "axes" (pos n ∷ []))) (ends st (refused_line 1)))
    by true e =
        let t : T (axes_fit n) = to-T (axes_fit n) e in
        record { sound = running t (λ m. subst (Decodes n) (sym (none m)) (empty-decodes n t)) }
    by false e = record { sound = fresh z none }

-- a command that does not end the script by 2, 15 or 3 keeps its sets decodable
pub execute-sound : (st : State) (c : List ℕ) → Sound st → Bytes c → ending st.axes c ≡ 0 → Sound (execute st c).state
unfolding execute
execute-sound st [] w p e = w
execute-sound st (b ∷ s) w p e = by w (placed st.axes b s e)
  where
    first : (b : ℕ) → b ≡ 0x10 → st.axes ≡ 0 → ((m : ℕ) → set_at st m ≡ []) → Sound (execute st (b ∷ s)).state
    first b q z none = subst (λ (c : ℕ). Sound (execute st (c ∷ s)).state) (sym q) (opened-sound st z none (get_or s 0 0)).sound

    later : T (axes_fit st.axes) → ((m : ℕ) → Decodes st.axes (set_at st m)) → (c : Bool) → T (not c)
        → Leaves (cond (eqb b 0x00) (ends st (line "end" [])) (cond c (opened st (get_or s 0 0)) (cond (all (λ (m : ℕ). leb m 3) (take (set_numbers b) s)) (perform st b s) (says st (refused_line 14)))))
    later fit good true t = absurd t
    later fit good false t =
        pick (eqb b 0x00) (record { sound = running fit good })
        (pick (all (λ (m : ℕ). leb m 3) (take (set_numbers b) s)) (perform-sound st fit good b s p.1) (record { sound = running fit good }))

    not_first : (n : ℕ) → T (axes_fit n) → T (in_place n b) → T (not (eqb b 0x10))
    not_first zero fit t = absurd fit
    not_first (suc n) fit t = t' (eqb (suc n) 0) (eqb-suc-zero n) t
      where
        t' : (c : Bool) → c ≡ false → T (cond c (eqb b 0x10) (not (eqb b 0x10))) → T (not (eqb b 0x10))
        t' true q t = absurd (subst T q tt)
        t' false q t = t

    by : Sound st → T (in_place st.axes b) → Sound (execute st (b ∷ s)).state
    by (fresh z none) t = first b (eqb→eq b 0x10 (subst (λ (a : ℕ). T (in_place a b)) z t)) z none
    by (running fit good) t = (later fit good (eqb b 0x10) (not_first st.axes fit t)).sound
