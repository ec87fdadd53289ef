-- When an operation on bytes is refused, what it answers otherwise, and the table that it leaves: each refusal in its case only.
use mathlib.Core.Path.{◌≡◌, refl, sym, ap, ap₂, ◌∙◌, subst}
use mathlib.Core.Bool.{Bool, true, false, not, ◌&&◌, cond}
use mathlib.Core.List.{List, [], ◌∷◌}
use Prim.Native.Nat.{ℕ, ◌+◌, ◌-◌, ◌≤◌, ◌<◌}
use native.Mathlib.Omega.{arith}
use lib.Dec.{T, leb, leb→le, nleb→lt}
use lib.ListN.{length, take, drop, replicate, length-append, length-replicate}
use lib.Seq.{take_at, drop_at}
use Rattle.model.specs.Lists.{all, any, concat_map}
use Rattle.model.specs.Sets.{BasicSet, Set}
use Rattle.codec.specs.Bytes.{Answer, refused, gives, encode, decode}
use Rattle.codec.proofs.Decoded.{no_way}
use Rattle.model.proofs.Count.{and-true, to-T}
use Rattle.algebra.specs.Tighten.{void, tightened, solvable}
use Rattle.algebra.specs.Cut.{keeps, cut_tight, cut, cut_tight_fits, cut_fits, join_fits, union, union_fits, intersection, intersection_fits, difference, difference_fits, complement, complement_fits}
use Rattle.algebra.specs.Operations.{result, on_one, on_two, union_bytes, intersection_bytes, difference_bytes, complement_bytes}
use Rattle.algebra.specs.Result.{table_of, length_of}

-- ---- 10, else 11, else the bytes

pub data Answered (fits : Bool) (room : ℕ) (s : Set) : Answer (List ℕ) → Type 0 where
  over : fits ≡ false → Answered fits room s (refused 10)
  long : T fits → room < length (encode s) → Answered fits room s (refused 11)
  given : T fits → length (encode s) ≤ room → Answered fits room s (gives (encode s))

pub answered : (fits : Bool) (room : ℕ) (s : Set) → Answered fits room s (result fits room s)
answered false room s = over refl
answered true room s = by (leb (length (encode s)) room) refl
  where
    by : (c : Bool) → leb (length (encode s)) room ≡ c → Answered true room s (cond c (gives (encode s)) (refused 11))
    by true e = given tt (leb→le (length (encode s)) room (to-T (leb (length (encode s)) room) e))
    by false e = long tt (nleb→lt (length (encode s)) room (subst (λ (b : Bool). T (not b)) (sym e) tt))

-- ---- the operations on two sets that decode, and on one

module _ (n room : ℕ) (a b : List ℕ) (s t : Set) (p : decode n a ≡ gives s) (q : decode n b ≡ gives t) where
  pub union-answered : Answered (union_fits keeps s t) room (union s t) (union_bytes n room a b)
  unfolding union_bytes
  union-answered = rw (p, q) (answered (union_fits keeps s t) room (union s t))

  pub intersection-answered : Answered (intersection_fits keeps s t) room (intersection keeps s t) (intersection_bytes n room a b)
  unfolding intersection_bytes
  intersection-answered = rw (p, q) (answered (intersection_fits keeps s t) room (intersection keeps s t))

  pub difference-answered : Answered (difference_fits keeps s t) room (difference keeps s t) (difference_bytes n room a b)
  unfolding difference_bytes
  difference-answered = rw (p, q) (answered (difference_fits keeps s t) room (difference keeps s t))

pub complement-answered : (n room : ℕ) (a : List ℕ) (s : Set) → decode n a ≡ gives s → Answered (complement_fits keeps s) room (complement keeps s) (complement_bytes n room a)
unfolding complement_bytes
complement-answered n room a s p = rw p (answered (complement_fits keeps s) room (complement keeps s))

-- ---- the refusals of the sets come first, the first set's before the second's

module _ (n : ℕ) (f : Set → Set → Answer (List ℕ)) (a b : List ℕ) (m : ℕ) where
  pub first-refused : decode n a ≡ refused m → on_two f (decode n a) (decode n b) ≡ refused m
  first-refused p = rw p

  pub second-refused : (s : Set) → decode n a ≡ gives s → decode n b ≡ refused m → on_two f (decode n a) (decode n b) ≡ refused m
  second-refused s p q = rw (p, q)

-- ---- the table

-- a result that is given fits the table
given-room : {fits : Bool} {room : ℕ} {s : Set} {r : Answer (List ℕ)} (l : List ℕ) → Answered fits room s r → r ≡ gives l → length l ≤ room
given-room l (over h) e = let z : ◌≡◌ {A = ℕ} 0 1 = cc in no_way z
given-room l (long h k) e = let z : ◌≡◌ {A = ℕ} 0 1 = cc in no_way z
given-room {room} {s} l (given h k) e = let z : encode s ≡ l = cc in subst (λ (v : List ℕ). length v ≤ room) z k

module _ (room : ℕ) (l : List ℕ) where
  room-one : (fits : Set → Bool) (op : Set → Set) (x : Answer Set) → on_one (λ s. result (fits s) room (op s)) x ≡ gives l → length l ≤ room
  room-one fits op (refused m) e = let z : ◌≡◌ {A = ℕ} 0 1 = cc in no_way z
  room-one fits op (gives s) e = given-room l (answered (fits s) room (op s)) e

  room-two : (fits : Set → Set → Bool) (op : Set → Set → Set) (x y : Answer Set) → on_two (λ s t. result (fits s t) room (op s t)) x y ≡ gives l → length l ≤ room
  room-two fits op (refused m) y e = let z : ◌≡◌ {A = ℕ} 0 1 = cc in no_way z
  room-two fits op (gives s) (refused m) e = let z : ◌≡◌ {A = ℕ} 0 1 = cc in no_way z
  room-two fits op (gives s) (gives t) e = given-room l (answered (fits s t) room (op s t)) e

  pub union-room : (n : ℕ) (a b : List ℕ) → union_bytes n room a b ≡ gives l → length l ≤ room
  unfolding union_bytes
  union-room n a b = room-two (union_fits keeps) union (decode n a) (decode n b)

  pub intersection-room : (n : ℕ) (a b : List ℕ) → intersection_bytes n room a b ≡ gives l → length l ≤ room
  unfolding intersection_bytes
  intersection-room n a b = room-two (intersection_fits keeps) (intersection keeps) (decode n a) (decode n b)

  pub difference-room : (n : ℕ) (a b : List ℕ) → difference_bytes n room a b ≡ gives l → length l ≤ room
  unfolding difference_bytes
  difference-room n a b = room-two (difference_fits keeps) (difference keeps) (decode n a) (decode n b)

  pub complement-room : (n : ℕ) (a : List ℕ) → complement_bytes n room a ≡ gives l → length l ≤ room
  unfolding complement_bytes
  complement-room n a = room-one (complement_fits keeps) (complement keeps) (decode n a)

-- the table keeps its length, begins with the result, and is 0 past it
pub record Table (room : ℕ) (l t : List ℕ) : Type 0 where
  pub size : length t ≡ room
  pub result : take (length l) t ≡ l
  pub zeros : drop (length l) t ≡ replicate (room - length l) 0

pub table-given : (room : ℕ) (l : List ℕ) → length l ≤ room → Table room l (table_of room (gives l))
table-given room l h =
    record {
      size = length-append l (replicate (room - length l) 0) ∙ ap (λ (k : ℕ). length l + k) (length-replicate (room - length l) 0) ∙ sum (length l) room h;
      result = take_at l (replicate (room - length l) 0) (length l) refl;
      zeros = drop_at l (replicate (room - length l) 0) (length l) refl;
    }
  where
    sum : (a b : ℕ) → a ≤ b → a + (b - a) ≡ b
    sum a b h = omega arith

-- a refused answer carries its number, and the table is all 0
pub table-refused : (room m : ℕ) → (length_of (refused m) ≡ refused m) × (table_of room (refused m) ≡ replicate room 0)
table-refused room m = (refl, refl)

-- ---- a cutter without constraints leaves no piece, whatever its divisions (their bounds hold for every point), and only its join is limited

module _ (keep : BasicSet → Bool) (a c : BasicSet) (none : c.constraints ≡ []) where
  pub ruleless-cutter : cut keep a c ≡ []
  unfolding cut cut_tight
  ruleless-cutter = rw none (at (any void a.constraints))
    where
      at : (v : Bool) → concat_map {A = BasicSet} {B = BasicSet} (λ (p : BasicSet). []) (cond v [] (tightened a ∷ [])) ≡ []
      at true = refl
      at false = refl

  pub ruleless-fits : cut_fits keep a c ≡ all (λ (p : BasicSet). join_fits keep p c) (solvable a)
  ruleless-fits = each (solvable a)
    where
      each : (l : List BasicSet) → all (λ (p : BasicSet). cut_tight_fits keep p c) l ≡ all (λ (p : BasicSet). join_fits keep p c) l
      each [] = refl
      each (p ∷ l) = let e : cut_tight_fits keep p c ≡ join_fits keep p c = rw none (and-true (join_fits keep p c)) in ap₂ ◌&&◌ e (each l)
