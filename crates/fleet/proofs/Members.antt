-- What the answer to a fleet says of its points, from bytes: each bit is what member says of that point, and FPL's meaning (model,
-- specs/Existential); the bits past the last point are 0; the count is how many of the points member says are in the set.
use mathlib.Core.Path.{◌≡◌, refl, sym, ap, ap₂, ◌∙◌, subst}
use mathlib.Core.Bool.{Bool, true, false, ◌&&◌, cond}
use mathlib.Core.Logic.{◌↔◌}
use mathlib.Core.List.{List, []}
use Prim.Native.Nat.{ℕ, zero, suc, ◌-◌, ◌*◌, ◌/◌, ◌%◌, ◌^◌, ◌≤◌, ◌<◌}
use native.Mathlib.Nat.{div-eq_of_lt, mod-eq_of_lt, mul-suc}
use native.Mathlib.Omega.{arith}
use lib.Count.{ones}
use lib.Dec.{T, eqb, leb}
use lib.IntN.{ℤ, pos}
use lib.ListN.{length, take, drop, replicate, length-drop, take-append-drop}
use lib.Seq.{take_at, drop_at, length-take-le}
use borrow.Author.Tests.{eqb-true, leb-true}
use Rattle.model.specs.Lists.{all, filter, cons_if}
use Rattle.model.specs.Sets.{Set, in_set, is_zero}
use Rattle.model.specs.Existential.{ExistsIn}
use Rattle.model.proofs.Count.{and_left, and_right, and-make, from-T, to-T, all_append}
use Rattle.codec.specs.Bytes.{Answer, refused, gives, decode, number}
use Rattle.codec.proofs.Decoded.{no_way}
use Rattle.query.specs.Member.{coordinate, padded, point_fits, member_bytes}
use Rattle.query.proofs.Answers.{axes-most, axes-some}
use Rattle.query.proofs.Means.{decoded-means}
use Rattle.fleet.specs.Fleet.{bit, points_of, list_fits, mask_of, Fleet, holding, fleet_of, fleet_bytes}
use Rattle.fleet.specs.Looking.{Points, point_at}
use Rattle.fleet.proofs.Masks.{mask-bit, mask-past, ones-mask}
use Rattle.fleet.proofs.Passing.{points-length, point_at_lem, points-inside}
use Rattle.fleet.proofs.Fleets.{list-points}

-- ---- the bytes are a set, the list at most 64 whole points in range, and the answer is their mask with its ones
pub record Answered (n : ℕ) (a : List ℕ) (xs : List ℤ) (r : Fleet) : Type 0 where
  pub s : Set
  pub decoded : decode n a ≡ gives s
  pub points : Points n (length xs / n) xs
  pub coordinates : T (all coordinate xs)
  pub answer : fleet_of s (points_of n (length xs / n) xs) ≡ r

pub answered : (n : ℕ) (a : List ℕ) (xs : List ℤ) (r : Fleet) → fleet_bytes n a xs ≡ gives r → Answered n a xs r
unfolding fleet_bytes
answered n a xs r e = by (decode n a) refl
  where
    whole : (s : Set) → decode n a ≡ gives s → T (list_fits n xs) → all coordinate xs ≡ true → Points n (length xs / n) xs
    whole s d f g =
        let none = eqb (length xs % n) 0 in let few = leb (length xs / n) 64 in
        list-points n xs (axes-most n a (ap number d)) (eqb-true (length xs % n) 0 (from-T none (and_left none few f)))
        (leb-true (length xs / n) 64 (from-T few (and_right none few f))) g

    on : (s : Set) → decode n a ≡ gives s → (b c : Bool) → list_fits n xs ≡ b → all coordinate xs ≡ c
        → ◌≡◌ {A = Answer Fleet} (cond b (cond c (gives (fleet_of s (points_of n (length xs / n) xs))) (refused 12)) (refused 16)) (gives r) → Answered n a xs r
    on s d true true f g q =
        record { s = s; decoded = d; points = whole s d (to-T (list_fits n xs) f) g; coordinates = to-T (all coordinate xs) g; answer = cc }
    on s d true false f g q = let z : ◌≡◌ {A = ℕ} 0 1 = cc in no_way z
    on s d false c f g q = let z : ◌≡◌ {A = ℕ} 0 1 = cc in no_way z

    by : (y : Answer Set) → decode n a ≡ y → Answered n a xs r
    by (refused m) d = let g : refused m ≡ gives r = rw (d, fleet_bytes) at e in let z : ◌≡◌ {A = ℕ} 0 1 = cc in no_way z
    by (gives s) d = on s d (list_fits n xs) (all coordinate xs) refl refl (rw (d, fleet_bytes) at e)

-- ---- a point of the list as member takes it
all-parts : (f : ℤ → Bool) (m : ℕ) (l : List ℤ) → T (all f l) → T (all f (take m l)) × T (all f (drop m l))
all-parts f m l t =
    let u = subst T (ap (all f) (sym (take-append-drop m l)) ∙ all_append f (take m l) (drop m l)) t in
    (and_left (all f (take m l)) (all f (drop m l)) u, and_right (all f (take m l)) (all f (drop m l)) u)

all-zeros : (f : ℤ → Bool) → T (f (pos 0)) → (m : ℕ) → T (all f (replicate m (pos 0)))
all-zeros f t zero = tt
all-zeros f t (suc m) = and-make (f (pos 0)) (all f (replicate m (pos 0))) t (all-zeros f t m)

padded-fits : (n : ℕ) (x : List ℤ) → length x ≡ n → T (all coordinate x) → point_fits n (padded x) ≡ true
padded-fits n x l t =
    let zs = replicate (8 - length x) (pos 0) in
    ap₂ ◌&&◌
    (all_append coordinate x zs ∙ ap₂ ◌&&◌ (from-T (all coordinate x) t) (from-T (all coordinate zs) (all-zeros coordinate tt (8 - length x))))
    (ap (all is_zero) (drop_at x zs n l) ∙ from-T (all is_zero zs) (all-zeros is_zero tt (8 - length x)))

member-says : (n : ℕ) (a : List ℕ) (s : Set) → decode n a ≡ gives s → (x : List ℤ) → length x ≡ n → T (all coordinate x)
    → member_bytes n a (padded x) ≡ gives (holding s x)
unfolding member_bytes
member-says n a s d x l t =
    rw (d, member_bytes)
    (ap₂ (λ (b : Bool) (y : List ℤ). cond b (gives (in_set y s)) (refused 12)) (padded-fits n x l t) (take_at x (replicate (8 - length x) (pos 0)) n l))

-- whether member says of a point that it is in the set
abbrev pub said_in : Answer Bool → Bool
said_in (refused m) = false
said_in (gives b) = b

abbrev pub member_in : ℕ → List ℕ → List ℤ → Bool
member_in n a x = said_in (member_bytes n a (padded x))

-- the same points are in by member and by the set
members-are : (n : ℕ) (a : List ℕ) (s : Set) → decode n a ≡ gives s → (k : ℕ) (xs : List ℤ) → length xs ≡ n * k → T (all coordinate xs)
    → filter (member_in n a) (points_of n k xs) ≡ filter (holding s) (points_of n k xs)
members-are n a s d zero xs l t = refl
members-are n a s d (suc k) xs l t =
    let m = mul-suc n k in
    let x : length (take n xs) ≡ n = length-take-le n xs (omega arith) in
    let rest : length (drop n xs) ≡ n * k = omega (arith, length-drop n xs) in
    ap₂ (λ (b : Bool) (l : List (List ℤ)). cons_if b (take n xs) l) (ap said_in (member-says n a s d (take n xs) x (all-parts coordinate n xs t).0))
    (members-are n a s d k (drop n xs) rest (all-parts coordinate n xs t).1)

-- ---- the answer
bit_is : (b : Bool) → eqb (bit b) 1 ≡ b
bit_is true = refl
bit_is false = refl

module _ (n : ℕ) (a : List ℕ) (xs : List ℤ) (r : Fleet) (e : fleet_bytes n a xs ≡ gives r) where
  g : Answered n a xs r
  g = answered n a xs r e

  abbrev points : List (List ℤ)
  points = points_of n (length xs / n) xs

  bit_at : (i : ℕ) → i < length xs / n → r.mask / 2 ^ i % 2 ≡ bit (holding g.s (point_at n xs i))
  bit_at i h =
      let l = points-length n (length xs / n) xs in
      ap (λ (f : Fleet). f.mask / 2 ^ i % 2) (sym g.answer) ∙ mask-bit (holding g.s) points i [] (omega arith)
      ∙ ap (λ (x : List ℤ). bit (holding g.s x)) (point_at_lem n (length xs / n) xs i h)

  -- "Each bit equals what member says of that point"
  pub bit-member : (i : ℕ) → i < length xs / n → member_bytes n a (padded (point_at n xs i)) ≡ gives (eqb (r.mask / 2 ^ i % 2) 1)
  bit-member i h =
      let p = points-inside g.points i (n * i) refl h in
      let l : length (point_at n xs i) ≡ n = length-take-le n (drop (n * i) xs) (omega (arith, length-drop (n * i) xs)) in
      member-says n a g.s g.decoded (point_at n xs i) l (all-parts coordinate n (drop (n * i) xs) (all-parts coordinate (n * i) xs g.coordinates).1).0
      ∙ ap gives (sym (ap (λ (m : ℕ). eqb m 1) (bit_at i h) ∙ bit_is (holding g.s (point_at n xs i))))

  pub bits-past : (i : ℕ) → length xs / n ≤ i → r.mask / 2 ^ i % 2 ≡ 0
  bits-past i h =
      let l = points-length n (length xs / n) xs in
      ap (λ (f : Fleet). f.mask / 2 ^ i % 2) (sym g.answer) ∙ mask-past (holding g.s) points i (omega arith)

  -- "how many of them may run"
  pub count-members : r.count ≡ length (filter (member_in n a) points)
  count-members =
      ap (λ (f : Fleet). f.count) (sym g.answer) ∙ ones-mask (holding g.s) points
      ∙ ap length (sym (members-are n a g.s g.decoded (length xs / n) xs g.points.size g.coordinates))

  -- "which is the count of one-bits"
  pub count_ones : r.count ≡ ones r.mask
  count_ones = ap (λ (f : Fleet). f.count) (sym g.answer) ∙ ap (λ (f : Fleet). ones f.mask) g.answer

  -- FPL's meaning: a bit is 1 exactly when there are whole numbers for the divisions of some basic set with which its constraints hold
  pub bit-means : (s : Set) → decode n a ≡ gives s → (i : ℕ) → i < length xs / n → (r.mask / 2 ^ i % 2 ≡ 1) ↔ ExistsIn (point_at n xs i) s
  bit-means s d i h =
      let same : g.s ≡ s = given (sym g.decoded ∙ d) in
      let m = decoded-means n a s d (point_at n xs i) in
      let b : r.mask / 2 ^ i % 2 ≡ bit (in_set (point_at n xs i) s) = bit_at i h ∙ ap (λ (u : Set). bit (in_set (point_at n xs i) u)) same in
      (λ o. m.0 (one (in_set (point_at n xs i) s) (sym b ∙ o)), λ w. b ∙ ap bit (from-T (in_set (point_at n xs i) s) (m.1 w)))
    where
      given : {u v : Set} → ◌≡◌ {A = Answer Set} (gives u) (gives v) → u ≡ v
      given e = cc

      one : (b : Bool) → bit b ≡ 1 → T b
      one true o = tt
      one false o = no_way o

-- "No points give mask 0"
pub fleet-none : (n : ℕ) (a : List ℕ) (s : Set) → decode n a ≡ gives s → fleet_bytes n a [] ≡ gives (record { mask = 0; count = 0 })
unfolding fleet_bytes mask_of ones
fleet-none n a s d =
    let p = axes-some n a (ap number d) in
    rw (d, fleet_bytes)
    (ap₂ (λ (b : Bool) (k : ℕ). cond b (gives (fleet_of s (points_of n k []))) (refused 16))
    (ap₂ (λ (i j : ℕ). eqb i 0 && leb j 64) (mod-eq_of_lt p) (div-eq_of_lt p)) (div-eq_of_lt p))
