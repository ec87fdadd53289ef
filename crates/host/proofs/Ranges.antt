-- From the numbers and the table that the board's host gets of a range (document 02, 5) to the points: a number from 1 on is that of a reading,
-- and what the reading says of the box is boxes, proofs/Truth; a number below 0 is minus the refusal's, and all else is 0.
use mathlib.Core.Path.{◌≡◌, refl, sym, ap, ◌∙◌}
use mathlib.Core.Bool.{Bool, true, false, ◌&&◌, cond}
use mathlib.Core.List.{List, []}
use Prim.Native.Nat.{ℕ, zero, suc, ◌-◌}
use native.Mathlib.Nat.{zero-lt-suc}
use lib.Dec.{leb}
use lib.IntN.{ℤ, pos, negsuc}
use lib.ListN.{length, take, replicate}
use lib.Seq.{take_at}
use Rattle.model.specs.Sets.{Set}
use Rattle.codec.specs.Bytes.{Answer, refused, gives, encode, decode}
use Rattle.codec.proofs.Decoded.{no_way}
use Rattle.query.specs.Member.{padded}
use Rattle.enumeration.specs.Search.{box_fits, limit_fits}
use Rattle.boxes.specs.Box.{outside, outside_fits}
use Rattle.boxes.specs.Range.{Range, sure, never, depends, spent_inside, spent_outside, range_in, Reading, read, range_bytes}
use Rattle.boxes.proofs.Truth.{Asked, asked}
use Rattle.answers.specs.Numbers.{RangeHosted}
use Rattle.host.proofs.Meanings.{FromOne, decode-from-one, not-minus, same-pos}

-- ---- no refusal has the number 0
range-from-one : (n room : ℕ) (s : List ℕ) (ls hs : List ℤ) (i j : ℕ) → FromOne (range_bytes n room s ls hs i j)
unfolding range_bytes
range-from-one n room s ls hs i j = by (decode n s) refl (decode-from-one n s)
  where
    fitted : (u : Set) (p q f l : Bool) → FromOne (cond p (cond q (read (range_in n u ls hs i j) (cond f (cond l (gives (encode (outside n ls hs u))) (refused 11)) (refused 10))) (refused 13)) (refused 12))
    fitted u true true true true = tt
    fitted u true true true false = zero-lt-suc 10
    fitted u true true false l = zero-lt-suc 9
    fitted u true false f l = zero-lt-suc 12
    fitted u false q f l = zero-lt-suc 11

    by : (x : Answer Set) → decode n s ≡ x → FromOne x → FromOne (range_bytes n room s ls hs i j)
    by (refused m) d h = rw (d, range_bytes) h
    by (gives u) d h = rw (d, range_bytes) (fitted u (box_fits n ls hs) (limit_fits i && limit_fits j) (outside_fits n ls hs u) (leb (length (encode (outside n ls hs u))) room))

-- ---- the numbers of the ranges
abbrev pub number_of : Range → ℕ
number_of sure = 1
number_of never = 2
number_of (depends p q) = 3
number_of spent_inside = 4
number_of spent_outside = 5

-- a range of number k; `size` bytes of the table are the difference of the box and the set
pub record Ranged (n room : ℕ) (s : List ℕ) (ls hs : List ℤ) (i j k : ℕ) (table : List ℕ) (size : ℕ) (inside outside : List ℤ) : Type 0 where
  pub reading : Reading
  pub asked : Asked n room s ls hs i j reading
  pub number : k ≡ number_of reading.range
  pub bytes : take size table ≡ reading.bytes
  pub points : (p q : List ℤ) → reading.range ≡ depends p q → (inside ≡ padded p) × (outside ≡ padded q)

module _ (n room : ℕ) (s : List ℕ) (ls hs : List ℤ) (i j : ℕ) {table : List ℕ} {size : ℕ} {inside outside : List ℤ} where
  pub range-told : (k : ℕ) → RangeHosted room (range_bytes n room s ls hs i j) (pos k) table size inside outside → Ranged n room s ls hs i j k table size inside outside
  range-told k h = by (range_bytes n room s ls hs i j) refl (range-from-one n room s ls hs i j) h
    where
      told : (x : Range) (bs : List ℕ) → RangeHosted room (gives (record { range = x; bytes = bs })) (pos k) table size inside outside
          → (k ≡ number_of x) × (size ≡ length bs) × ((p q : List ℤ) → x ≡ depends p q → (inside ≡ padded p) × (outside ≡ padded q))
      told sure bs h = (same-pos h.number, h.length, λ p q e. let z : ◌≡◌ {A = ℕ} 0 1 = cc in no_way z)
      told never bs h = (same-pos h.number, h.length, λ p q e. let z : ◌≡◌ {A = ℕ} 0 1 = cc in no_way z)
      told (depends v w) bs h = (
        same-pos h.number,
        h.length,
        λ p q e. let y : v ≡ p = cc in let z : w ≡ q = cc in (h.first_inside ∙ ap padded y, h.first_outside ∙ ap padded z),
      )
      told spent_inside bs h = (same-pos h.number, h.length, λ p q e. let z : ◌≡◌ {A = ℕ} 0 1 = cc in no_way z)
      told spent_outside bs h = (same-pos h.number, h.length, λ p q e. let z : ◌≡◌ {A = ℕ} 0 1 = cc in no_way z)

      by : (a : Answer Reading) → range_bytes n room s ls hs i j ≡ a → FromOne a → RangeHosted room a (pos k) table size inside outside → Ranged n room s ls hs i j k table size inside outside
      by (refused m) e p h = not-minus k m h.number p
      by (gives x) e p h =
          let t = told x.range x.bytes h in
          record {
            reading = x;
            asked = asked n room s ls hs i j x e;
            number = t.0;
            bytes = ap (take size) h.bytes ∙ take_at x.bytes (replicate (room - length x.bytes) 0) size (sym t.1);
            points = t.2;
          }

  pub range-refused : (k : ℕ) → RangeHosted room (range_bytes n room s ls hs i j) (negsuc k) table size inside outside
      → (range_bytes n room s ls hs i j ≡ refused (suc k)) × (table ≡ replicate room 0) × (size ≡ 0) × (inside ≡ padded []) × (outside ≡ padded [])
  range-refused k h = by (range_bytes n room s ls hs i j) h
    where
      no : (x : Range) (bs : List ℕ) {X : Type 0} → RangeHosted room (gives (record { range = x; bytes = bs })) (negsuc k) table size inside outside → X
      no sure bs h = let e = h.number in let z : ◌≡◌ {A = ℕ} 0 1 = cc in no_way z
      no never bs h = let e = h.number in let z : ◌≡◌ {A = ℕ} 0 1 = cc in no_way z
      no (depends p q) bs h = let e = h.number in let z : ◌≡◌ {A = ℕ} 0 1 = cc in no_way z
      no spent_inside bs h = let e = h.number in let z : ◌≡◌ {A = ℕ} 0 1 = cc in no_way z
      no spent_outside bs h = let e = h.number in let z : ◌≡◌ {A = ℕ} 0 1 = cc in no_way z

      by : (a : Answer Reading) → RangeHosted room a (negsuc k) table size inside outside → (a ≡ refused (suc k)) × (table ≡ replicate room 0) × (size ≡ 0) × (inside ≡ padded []) × (outside ≡ padded [])
      by (refused zero) h = let e = h.number in let z : ◌≡◌ {A = ℕ} 0 1 = cc in no_way z
      by (refused (suc m)) h =
          let e : negsuc k ≡ negsuc m = h.number in let q : k ≡ m = cc in (ap (λ (i : ℕ). refused (suc i)) (sym q), h.bytes, h.length, h.first_inside, h.first_outside)
      by (gives x) h = no x.range x.bytes h
