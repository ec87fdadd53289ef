-- From the number and the table that the board's host gets to the points (demand 3), with FPL's meaning of a set (model,
-- specs/Existential): a number from 0 on is a length, and so many first bytes of the table are a set with the points that it
-- should have; a number below 0 is minus the refusal's, and the table is all 0. Of member: 1 exactly when the point is in the
-- set, 0 exactly when it is not.
use mathlib.Core.Path.{◌≡◌, refl, sym, ap, ◌∙◌, subst}
use mathlib.Core.Bool.{Bool, true, false, not, ◌&&◌, ◌||◌, cond}
use mathlib.Core.Logic.{◌↔◌, ◌⊎◌, inl, inr}
use mathlib.Core.List.{List}
use Prim.Native.Nat.{ℕ, zero, suc, ◌≤◌, ◌<◌}
use native.Mathlib.Nat.{zero-lt-suc}
use native.Mathlib.Omega.{arith}
use lib.Dec.{T, leb}
use lib.IntN.{ℤ, pos, negsuc, neg_ℤ}
use lib.ListN.{length, take, replicate}
use Rattle.model.specs.Sets.{Set, in_set}
use Rattle.model.specs.Existential.{ExistsIn}
use Rattle.model.proofs.Count.{to-T}
use Rattle.codec.specs.Bytes.{Answer, refused, gives, encode, build, axes_fit, decode}
use Rattle.codec.specs.Places.{commands_of}
use Rattle.codec.proofs.Decoded.{Bytes, no_way}
use Rattle.codec.proofs.Parsing.{start}
use Rattle.codec.proofs.Split.{refusal_of, unless, decode', decode-split}
use Rattle.algebra.specs.Cut.{keeps, union, union_fits, intersection, intersection_fits, difference, difference_fits, complement, complement_fits}
use Rattle.algebra.specs.Operations.{result, on_one, on_two, union_bytes, intersection_bytes, difference_bytes, complement_bytes}
use Rattle.algebra.specs.Result.{Result}
use Rattle.algebra.proofs.Contracts.{Operation, Complement}
use Rattle.operations.proofs.Meanings.{union-means, intersection-means, difference-means, complement-means}
use Rattle.query.specs.Member.{point_fits, member_bytes}
use Rattle.query.proofs.Means.{Asked, asked, decoded-means}
use Rattle.answers.specs.Numbers.{member_number, Hosted}

-- ---- no refusal has the number 0, so that a number from 0 on is no refusal

abbrev pub FromOne : {A : Type 0} → Answer A → Type 0
FromOne (refused k) = 0 < k
FromOne (gives a) = Unit {0}

pub decode-from-one : (n : ℕ) (s : List ℕ) → FromOne (decode n s)
unfolding decode'
decode-from-one n s = subst FromOne (sym (decode-split n s)) (at (build (commands_of (length s) s)).rest (axes_fit n) (refusal_of n (length s) start s))
  where
    at : (u : Set) (c : Bool) (m : ℕ) → FromOne (cond c (unless m u) (refused 1))
    at u true zero = tt
    at u true (suc m) = zero-lt-suc m
    at u false m = zero-lt-suc 0

result-from-one : (fits : Bool) (room : ℕ) (s : Set) → FromOne (result fits room s)
result-from-one fits room s = at fits (leb (length (encode s)) room)
  where
    at : (p q : Bool) → FromOne (cond p (cond q (gives (encode s)) (refused 11)) (refused 10))
    at true true = tt
    at true false = zero-lt-suc 10
    at false q = zero-lt-suc 9

two-from-one : (fits : Set → Set → Bool) (op : Set → Set → Set) (n room : ℕ) (a b : List ℕ) → FromOne (on_two (λ s t. result (fits s t) room (op s t)) (decode n a) (decode n b))
two-from-one fits op n room a b = at (decode n a) (decode n b) (decode-from-one n a) (decode-from-one n b)
  where
    at : (x y : Answer Set) → FromOne x → FromOne y → FromOne (on_two (λ s t. result (fits s t) room (op s t)) x y)
    at (refused m) y p q = p
    at (gives s) (refused m) p q = q
    at (gives s) (gives t) p q = result-from-one (fits s t) room (op s t)

complement-from-one : (n room : ℕ) (a : List ℕ) → FromOne (complement_bytes n room a)
unfolding complement_bytes
complement-from-one n room a = at (decode n a) (decode-from-one n a)
  where
    at : (x : Answer Set) → FromOne x → FromOne (on_one (λ s. result (complement_fits keeps s) room (complement keeps s)) x)
    at (refused m) p = p
    at (gives s) p = result-from-one (complement_fits keeps s) room (complement keeps s)

pub not-minus : {X : Type 0} (l k : ℕ) → pos l ≡ neg_ℤ (pos k) → 0 < k → X
not-minus l zero e h = absurd (omega arith)
not-minus l (suc k) e h = let z : ◌≡◌ {A = ℕ} 0 1 = cc in no_way z

pub same-pos : {i j : ℕ} → pos i ≡ pos j → i ≡ j
same-pos e = cc

-- a number from 0 on is the length of the call's result
given-hosted : {room l : ℕ} {table : List ℕ} (a : Answer (List ℕ)) → FromOne a → Hosted room a (pos l) table → Result room a (gives l) table
given-hosted {l = l} (refused k) p h = not-minus l k h.number p
given-hosted (gives bs) p h = record { answer = ap gives (same-pos h.number); bytes = h.bytes }

-- a number below 0 is minus the refusal's, and the table is all 0
pub refused-hosted : {room : ℕ} {table : List ℕ} (k : ℕ) (a : Answer (List ℕ)) → Hosted room a (negsuc k) table
    → (a ≡ refused (suc k)) × (table ≡ replicate room 0)
refused-hosted k (refused zero) h = let e = h.number in let z : ◌≡◌ {A = ℕ} 0 1 = cc in no_way z
refused-hosted k (refused (suc m)) h = let e : negsuc k ≡ negsuc m = h.number in let q : k ≡ m = cc in (ap (λ (i : ℕ). refused (suc i)) (sym q), h.bytes)
refused-hosted k (gives bs) h = let e = h.number in let z : ◌≡◌ {A = ℕ} 0 1 = cc in no_way z

-- ---- the operations

-- the first bytes of the table are the defined set, and `holds` says when a point is in it
pub record Meant (op : Set → Set → Set) (f : Bool → Bool → Bool) (holds : Type 0 → Type 0 → Type 0)
    (n : ℕ) (a b bs : List ℕ) : Type 0 where
  pub sets : Operation op f n a b bs
  pub points : (x : List ℤ) → length x ≤ 8
      → ExistsIn x (op sets.s sets.t) ↔ holds (ExistsIn x sets.s) (ExistsIn x sets.t)

module _ (op : Set → Set → Set) (f : Bool → Bool → Bool) (holds : Type 0 → Type 0 → Type 0) (agree : (p q : Bool) → T (f p q) ↔ holds (T p) (T q))
    (both : (P Q R S : Type 0) → P ↔ R → Q ↔ S → holds P Q → holds R S) where
  meant : (n : ℕ) (a b bs : List ℕ) → Operation op f n a b bs → Meant op f holds n a b bs
  meant n a b bs o = record { sets = o; points = at }
    where
      back : {P Q : Type 0} → P ↔ Q → Q ↔ P
      back e = (e.1, e.0)

      at : (x : List ℤ) → length x ≤ 8 → ExistsIn x (op o.s o.t) ↔ holds (ExistsIn x o.s) (ExistsIn x o.t)
      at x h =
          let first = decoded-means n a o.s o.first x in
          let second = decoded-means n b o.t o.second x in
          let result = decoded-means n bs (op o.s o.t) o.result x in
          let e : in_set x (op o.s o.t) ≡ f (in_set x o.s) (in_set x o.t) = o.points x h in
          let agrees = agree (in_set x o.s) (in_set x o.t) in (
            λ w. both (T (in_set x o.s)) (T (in_set x o.t)) (ExistsIn x o.s) (ExistsIn x o.t) first second (agrees.0 (subst T e (result.1 w))),
            λ w. result.0 (subst T (sym e) (agrees.1 (both (ExistsIn x o.s) (ExistsIn x o.t) (T (in_set x o.s)) (T (in_set x o.t)) (back first) (back second) w))),
          )

pub record ComplementMeant (n : ℕ) (a bs : List ℕ) : Type 0 where
  pub set : Complement n a bs
  pub points : (x : List ℤ) → length x ≤ 8 → ExistsIn x (complement keeps set.s) ↔ (¬ ExistsIn x set.s)

module _ (n room l : ℕ) (a table : List ℕ) (pa : Bytes a) where
  module _ (b : List ℕ) (pb : Bytes b) where
    -- in one of the two
    pub union-hosted : Hosted room (union_bytes n room a b) (pos l) table
        → Meant union ◌||◌ (λ P Q. P ⊎ Q) n a b (take l table)
    unfolding union_bytes
    union-hosted h =
        meant union ◌||◌ (λ P Q. P ⊎ Q) agree both n a b (take l table) (union-means n room l a table pa b pb (given-hosted (union_bytes n room a b) (two-from-one (union_fits keeps) union n room a b) h))
      where
        agree : (p q : Bool) → T (p || q) ↔ (T p ⊎ T q)
        agree true q = (λ t. inl tt, λ t. tt)
        agree false q = (λ t. inr t, right)
          where
            right : ⊥ ⊎ T q → T q
            right (inl e) = absurd e
            right (inr t) = t

        both : (P Q R S : Type 0) → P ↔ R → Q ↔ S → P ⊎ Q → R ⊎ S
        both P Q R S e g (inl p) = inl (e.0 p)
        both P Q R S e g (inr q) = inr (g.0 q)

    -- in both
    pub intersection-hosted : Hosted room (intersection_bytes n room a b) (pos l) table
        → Meant (intersection keeps) ◌&&◌ (λ P Q. P × Q) n a b (take l table)
    unfolding intersection_bytes
    intersection-hosted h =
        meant (intersection keeps) ◌&&◌ (λ P Q. P × Q) agree (λ P Q R S e g w. (e.0 w.0, g.0 w.1)) n a b (take l table)
        (intersection-means n room l a table pa b pb (given-hosted (intersection_bytes n room a b) (two-from-one (intersection_fits keeps) (intersection keeps) n room a b) h))
      where
        agree : (p q : Bool) → T (p && q) ↔ (T p × T q)
        agree true q = (λ t. (tt, t), λ w. w.1)
        agree false q = (λ t. absurd t, λ w. w.0)

    -- in the first and not in the second
    pub difference-hosted : Hosted room (difference_bytes n room a b) (pos l) table
        → Meant (difference keeps) (λ p q. p && not q) (λ P Q. P × (¬ Q)) n a b (take l table)
    unfolding difference_bytes
    difference-hosted h =
        meant (difference keeps) (λ p q. p && not q) (λ P Q. P × (¬ Q)) agree (λ P Q R S e g w. (e.0 w.0, λ s. w.1 (g.1 s))) n a b (take l table)
        (difference-means n room l a table pa b pb (given-hosted (difference_bytes n room a b) (two-from-one (difference_fits keeps) (difference keeps) n room a b) h))
      where
        agree : (p q : Bool) → T (p && not q) ↔ (T p × (¬ T q))
        agree true true = (λ t. absurd t, λ w. w.1 tt)
        agree true false = (λ t. (tt, λ e. e), λ w. tt)
        agree false q = (λ t. absurd t, λ w. w.0)

  -- not in the set
  pub complement-hosted : Hosted room (complement_bytes n room a) (pos l) table → ComplementMeant n a (take l table)
  complement-hosted h = record { set = o; points = at }
    where
      o : Complement n a (take l table)
      o = complement-means n room l a table pa (given-hosted (complement_bytes n room a) (complement-from-one n room a) h)

      agree : (p : Bool) → T (not p) ↔ (¬ T p)
      agree true = (λ t. absurd t, λ f. f tt)
      agree false = (λ t e. e, λ f. tt)

      at : (x : List ℤ) → length x ≤ 8 → ExistsIn x (complement keeps o.s) ↔ (¬ ExistsIn x o.s)
      at x h =
          let first = decoded-means n a o.s o.first x in
          let result = decoded-means n (take l table) (complement keeps o.s) o.result x in (
            λ w e. (agree (in_set x o.s)).0 (subst T (o.points x h) (result.1 w)) (first.1 e),
            λ f. result.0 (subst T (sym (o.points x h)) ((agree (in_set x o.s)).1 (λ t. f (first.0 t)))),
          )

-- ---- member

-- the set decodes, the coordinates are in range, and the number v says whether the point is in the set
pub record Told (n : ℕ) (a : List ℕ) (x : List ℤ) (v : ℕ) : Type 0 where
  pub s : Set
  pub decoded : decode n a ≡ gives s
  pub point : T (point_fits n x)
  pub one : (v ≡ 1) ↔ ExistsIn (take n x) s
  pub none : (v ≡ 0) ↔ (¬ ExistsIn (take n x) s)

member-from-one : (n : ℕ) (a : List ℕ) (x : List ℤ) → FromOne (member_bytes n a x)
unfolding member_bytes
member-from-one n a x = by (decode n a) refl (decode-from-one n a)
  where
    at : (s : Set) (c : Bool) → FromOne (cond c (gives (in_set (take n x) s)) (refused 12))
    at s true = tt
    at s false = zero-lt-suc 11

    by : (y : Answer Set) → decode n a ≡ y → FromOne y → FromOne (member_bytes n a x)
    by (refused m) d p = rw (d, member_bytes) p
    by (gives s) d p = rw (d, member_bytes) (at s (point_fits n x))

-- a number from 0 on: 1 exactly when the point is in the set, 0 exactly when it is not
pub member-hosted : (n : ℕ) (a : List ℕ) (x : List ℤ) (v : ℕ) → member_number (member_bytes n a x) ≡ pos v → Told n a x v
member-hosted n a x v e = by (member_bytes n a x) refl (member-from-one n a x) e
  where
    yes : (q : Asked n a x true) → v ≡ 1 → Told n a x v
    yes q h =
        let w : ExistsIn (take n x) q.s = (decoded-means n a q.s q.decoded (take n x)).0 (to-T (in_set (take n x) q.s) q.answer) in
        record { s = q.s; decoded = q.decoded; point = q.point; one = (λ z. w, λ z. h); none = (λ z. no_way (sym z ∙ h), λ f. absurd (f w)) }

    no : (q : Asked n a x false) → v ≡ 0 → Told n a x v
    no q h =
        let f : ¬ ExistsIn (take n x) q.s = λ w. subst T q.answer ((decoded-means n a q.s q.decoded (take n x)).1 w) in
        record { s = q.s; decoded = q.decoded; point = q.point; one = (λ z. no_way (sym h ∙ z), λ w. absurd (f w)); none = (λ z. f, λ z. h) }

    by : (y : Answer Bool) → member_bytes n a x ≡ y → FromOne y → member_number y ≡ pos v → Told n a x v
    by (refused k) m p e = not-minus v k (sym e) p
    by (gives true) m p e = yes (asked n a x true m) (same-pos (sym e))
    by (gives false) m p e = no (asked n a x false m) (same-pos (sym e))
