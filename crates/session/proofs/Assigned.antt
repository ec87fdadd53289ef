-- An assigned table, and that an answer which is given fits one.
use mathlib.Core.Path.{◌≡◌, refl, ap, ap₂, sym, subst, ◌∙◌}
use mathlib.Core.Bool.{Bool, true, false, cond}
use mathlib.Core.List.{List, ◌++◌, append_assoc}
use Prim.Native.Nat.{ℕ, ◌+◌, ◌-◌, ◌*◌, ◌≤◌, ◌<◌}
use native.Mathlib.Omega.{arith}
use borrow.Author.Tests.{leb-true, ltb-true, ltb-false}
use lib.Dec.{leb, ltb, eqb}
use lib.ListN.{length, get_or, set, take, drop, replicate, length-append, length-drop, length-replicate, take-append-drop}
use lib.Seq.{length-take-le, get_or-set_same, get_or-set_other, take-append-le, drop-append-le, drop-append-add, drop-drop, drop_at, take-append_seam}
use Rattle.model.specs.Sets.{Set}
use Rattle.codec.specs.Bytes.{Answer, refused, gives, decode, encode}
use Rattle.algebra.specs.Result.{table_of}
use Rattle.algebra.specs.Operations.{result, on_one, on_two, union_bytes, intersection_bytes, difference_bytes, complement_bytes}
use Rattle.algebra.specs.Cut.{keeps as kept-by-test, union, union_fits, intersection, intersection_fits, difference, difference_fits, complement, complement_fits}
use Rattle.session.specs.Script as S
use Rattle.session.specs.Script.{room, set_at, fitting, load_bytes}
use Rattle.listing.specs.Written.{put}
use Rattle.session.specs.Turns.{table_at, answer_of, Fitted}

-- ---- an assigned table

front : (p k : ℕ) (x y z : List ℕ) → p + k ≤ length x → take k (drop p (x ++ y)) ≡ take k (drop p (x ++ z))
front p k x y z h =
    let a : p ≤ length x = omega arith in
    let b : k ≤ length (drop p x) = omega (arith, length-drop p x) in
    ap (take k) (drop-append-le p x y a) ∙ take-append-le k (drop p x) y b ∙ sym (take-append-le k (drop p x) z b) ∙ ap (take k) (sym (drop-append-le p x z a))

module _ (at : ℕ) (l o : List ℕ) (h : at + length l ≤ length o) where
  long : length (take at o) ≡ at
  long = length-take-le at o (omega arith)

  put-at : drop at (put at l o) ≡ l ++ drop (at + length l) o
  unfolding put
  put-at = drop_at (take at o) (l ++ drop (at + length l) o) at long

  put-before : (p k : ℕ) → p + k ≤ at → take k (drop p (put at l o)) ≡ take k (drop p o)
  unfolding put
  put-before p k q = let i = long in front p k (take at o) (l ++ drop (at + length l) o) (drop at o) (omega arith) ∙ ap (λ (x : List ℕ). take k (drop p x)) (take-append-drop at o)

  put-after : (p : ℕ) → at + length l ≤ p → drop p (put at l o) ≡ drop p o
  unfolding put
  put-after p q =
      let i = long in
      let n : length (take at o ++ l) ≡ at + length l = length-append (take at o) l ∙ ap (λ (j : ℕ). j + length l) i in
      let r : length (take at o ++ l) + (p - (at + length l)) ≡ p = omega arith in
      ap (drop p) (sym (append_assoc (take at o) l (drop (at + length l) o)))
      ∙ ap (λ (j : ℕ). drop j ((take at o ++ l) ++ drop (at + length l) o)) (sym r)
      ∙ drop-append-add (take at o ++ l) (drop (at + length l) o) (p - (at + length l))
      ∙ drop-drop (p - (at + length l)) (at + length l) o
      ∙ ap (λ (j : ℕ). drop j o) (let s : at + length l + (p - (at + length l)) ≡ p = omega arith in s)

module _ (tables lengths l : List ℕ) (f : Fitted tables lengths) (g : length l ≤ room) (m : ℕ) (h : m ≤ 3) where
  table : List ℕ
  table = table_of room (gives l)

  pub table-long : length (table_of room (gives l)) ≡ room
  unfolding table
  table-long = length-append l (replicate (room - length l) 0) ∙ ap (λ (j : ℕ). length l + j) (length-replicate (room - length l) 0) ∙ (let o : length l + (room - length l) ≡ room = omega arith in o)

  pub within : room * m + length (table_of room (gives l)) ≤ length tables
  within = let a = table-long in let b = f.tables_long in omega arith

  pub kept_same : table_at (put (room * m) (table_of room (gives l)) tables) (set lengths m (length l)) m ≡ l
  unfolding table
  kept_same =
      let n = f.lengths_long in
      ap₂ take (get_or-set_same lengths m (length l) 0 (omega arith)) (put-at (room * m) table tables within ∙ append_assoc l (replicate (room - length l) 0) (drop (room * m + length table) tables))
      ∙ take-append_seam l (replicate (room - length l) 0 ++ drop (room * m + length table) tables)

  pub kept-other : (j : ℕ) → ¬ (j ≡ m) → table_at (put (room * m) (table_of room (gives l)) tables) (set lengths m (length l)) j ≡ table_at tables lengths j
  unfolding table
  kept-other j n =
      ap (λ (k : ℕ). take k (drop (room * j) (put (room * m) table tables))) (get_or-set_other lengths m j (length l) 0 n) ∙ side (ltb j m) refl
    where
      side : (x : Bool) → ltb j m ≡ x → take (get_or lengths j 0) (drop (room * j) (put (room * m) table tables)) ≡ take (get_or lengths j 0) (drop (room * j) tables)
      side true e = let a = ltb-true j m e in let b = f.fit j in put-before (room * m) table tables within (room * j) (get_or lengths j 0) (omega arith)
      side false e = let a = ltb-false j m e in let t = table-long in ap (take (get_or lengths j 0)) (put-after (room * m) table tables within (room * j) (let o : ¬ (j ≡ m) = n in beyond j m a o t))
        where
          beyond : (j m : ℕ) → m ≤ j → ¬ (j ≡ m) → length table ≡ room → room * m + length table ≤ room * j
          beyond j m a o t = let u : m < j = strict (ltb m j) refl in omega arith
            where
              strict : (x : Bool) → ltb m j ≡ x → m < j
              strict true e = ltb-true m j e
              strict false e = absurd (o (let b = ltb-false m j e in omega arith))

-- ---- an answer that is given fits a table

pub record Bounded (a : Answer (List ℕ)) : Type 0 where
  pub within_room : (l : List ℕ) → a ≡ gives l → length l ≤ room

bounded-no : (k : ℕ) → Bounded (refused k)
bounded-no k = record { within_room = λ l e. let z : ◌≡◌ {A = ℕ} 0 1 = cc in absurd (omega arith) }

pick : (x : Bool) {a b : Answer (List ℕ)} → Bounded a → Bounded b → Bounded (cond x a b)
pick true p q = p
pick false p q = q

fits : (l : List ℕ) → Bounded (cond (leb (length l) room) (gives l) (refused 11))
fits l = at (leb (length l) room) refl
  where
    at : (x : Bool) → leb (length l) room ≡ x → Bounded (cond x (gives l) (refused 11))
    at true e = record { within_room = λ k q. let r : l ≡ k = cc in subst (λ (i : List ℕ). length i ≤ room) r (leb-true (length l) room e) }
    at false e = bounded-no 11

one : (f : Set → Answer (List ℕ)) → ((s : Set) → Bounded (f s)) → (a : Answer Set) → Bounded (on_one f a)
one f p (refused k) = bounded-no k
one f p (gives s) = p s

two : (f : Set → Set → Answer (List ℕ)) → ((s t : Set) → Bounded (f s t)) → (a b : Answer Set) → Bounded (on_two f a b)
two f p (refused k) b = bounded-no k
two f p (gives s) (refused k) = bounded-no k
two f p (gives s) (gives t) = p s t

loaded : (l : List ℕ) (a : Answer Set) → Bounded (fitting l a)
loaded l (refused k) = bounded-no k
loaded l (gives s) = fits l

pub answer-bounded : (st : S.State) (b : ℕ) (s : List ℕ) → Bounded (answer_of st b s)
unfolding answer_of load_bytes union_bytes intersection_bytes difference_bytes complement_bytes
answer-bounded st b s =
    let n : ℕ = st.axes in
    let x : List ℕ = set_at st (get_or s 1 0) in
    let y : List ℕ = set_at st (get_or s 2 0) in
    pick (eqb b 0x40) (loaded (drop 3 s) (decode n (drop 3 s)))
    (pick (eqb b 0x41) (two (λ s t. result (union_fits kept-by-test s t) room (union s t)) (λ s t. pick (union_fits kept-by-test s t) (fits (encode (union s t))) (bounded-no 10)) (decode n x) (decode n y))
    (pick (eqb b 0x42) (two (λ s t. result (intersection_fits kept-by-test s t) room (intersection kept-by-test s t)) (λ s t. pick (intersection_fits kept-by-test s t) (fits (encode (intersection kept-by-test s t))) (bounded-no 10)) (decode n x) (decode n y))
    (pick (eqb b 0x43) (two (λ s t. result (difference_fits kept-by-test s t) room (difference kept-by-test s t)) (λ s t. pick (difference_fits kept-by-test s t) (fits (encode (difference kept-by-test s t))) (bounded-no 10)) (decode n x) (decode n y))
    (one (λ s. result (complement_fits kept-by-test s) room (complement kept-by-test s)) (λ s. pick (complement_fits kept-by-test s) (fits (encode (complement kept-by-test s))) (bounded-no 10)) (decode n x)))))
