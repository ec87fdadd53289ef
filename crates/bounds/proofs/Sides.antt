-- The box of a row: its sides as lists, and the ends where one of them moves.
use mathlib.Core.Path.{◌≡◌, refl, sym, ap, ap₂, ◌∙◌, subst}
use mathlib.Core.Bool.{Bool}
use mathlib.Core.List.{List, [], ◌∷◌}
use Prim.Native.Nat.{ℕ, zero, suc, ◌+◌, ◌*◌, ◌≤◌, ◌<◌}
use native.Mathlib.Nat.{mul-le-mul, le_refl}
use native.Mathlib.Omega.{arith}
use lib.Dec.{ltb, eqb}
use lib.IntN.{ℤ, pos, ◌+ℤ◌, ◌-ℤ◌}
use lib.ListN.{length, take, drop, get_or, set, replicate, length-set, length-take, length-drop, get_or-eq_default}
use lib.Seq.{get_or-take, get_or-drop, get_or-set_same, get_or-set_other, ext_get_or}
use borrow.Author.Tests.{eqb-true, eqb-false, ltb-true, ltb-false}
use Rattle.integers.specs.Z.{Within}
use Rattle.integers.specs.Lin.{lin, lia-eq}
use Rattle.integers.specs.Size.{within-mono}
use Rattle.codec.specs.Places.{Opened}
use Rattle.bounds.specs.Ends.{AllWithin, best, gain, Ends}
use Rattle.bounds.specs.Rows.{start_of, row_forms, lows_of, highs_of, Loose, Row, Settled}
use Rattle.bounds.proofs.Reading.{by}
use Rattle.bounds.proofs.Moves.{best-zero, best-within, best-move}
use Rattle.bounds.proofs.Forms.{small-forms}

-- ---- n sides from place p on
pub side-at : (n p : ℕ) (r : List ℤ) (i : ℕ) → i < n → get_or (take n (drop p r)) i (pos 0) ≡ get_or r (p + i) (pos 0)
side-at n p r i h = get_or-take n (drop p r) i (pos 0) h ∙ get_or-drop p r i (pos 0)

side-out : (n p : ℕ) (r : List ℤ) (i : ℕ) → n ≤ i → get_or (take n (drop p r)) i (pos 0) ≡ pos 0
side-out n p r i h = get_or-eq_default (take n (drop p r)) (pos 0) (let l : length (take n (drop p r)) ≤ i = omega (arith, length-take n (drop p r)) in l)

-- what holds of each of them, and of 0, holds of all
side-all : (P : ℤ → Type 0) (n p : ℕ) (r : List ℤ) → ((i : ℕ) → i < n → P (get_or r (p + i) (pos 0))) → P (pos 0) → (i : ℕ) → P (get_or (take n (drop p r)) i (pos 0))
side-all P n p r h z i =
    by (λ (b : Bool). P (get_or (take n (drop p r)) i (pos 0))) (ltb i n) (λ e. subst P (sym (side-at n p r i (ltb-true i n e))) (h i (ltb-true i n e))) (λ e. subst P (sym (side-out n p r i (ltb-false i n e))) z)

pub side-within : (n p : ℕ) (r : List ℤ) → n ≤ 8 → ((j : ℕ) → j < 8 → Within 1048576 (get_or r (p + j) (pos 0))) → AllWithin 1048576 (take n (drop p r))
side-within n p r l h = record { at = side-all (Within 1048576) n p r (λ i k. h i (omega arith)) (record { size = omega arith }) }

pub side-length : (n p : ℕ) (r : List ℤ) → p + n ≤ length r → length (take n (drop p r)) ≡ n
side-length n p r h = omega (arith, length-take n (drop p r), length-drop p r)

-- ---- x has the sides of r but for axis k
pub sides-moved : (n p : ℕ) (r x : List ℤ) (k : ℕ) → p + n ≤ length r → length x ≡ n → k < n → ((i : ℕ) → i < n → (i ≡ k → ⊥) → get_or r (p + i) (pos 0) ≡ get_or x i (pos 0))
    → set (take n (drop p r)) k (get_or (take n (drop p r)) k (pos 0) +ℤ (get_or x k (pos 0) -ℤ get_or r (p + k) (pos 0))) ≡ x
sides-moved n p r x k l e h f =
    let z = side-length n p r l in
    ext_get_or (pos 0) (set s k v) x (length-set s k v ∙ z ∙ sym e)
    (λ i o. let o' : i < n = omega (arith, length-set s k v) in by (λ (b : Bool). get_or (set s k v) i (pos 0) ≡ get_or x i (pos 0)) (eqb i k) (λ q. same i (eqb-true i k q)) (λ q. other i o' (eqb-false i k q)))
  where
    s : List ℤ
    s = take n (drop p r)

    v : ℤ
    v = get_or (take n (drop p r)) k (pos 0) +ℤ (get_or x k (pos 0) -ℤ get_or r (p + k) (pos 0))

    value : v ≡ get_or x k (pos 0)
    value = ap (λ (y : ℤ). y +ℤ (get_or x k (pos 0) -ℤ get_or r (p + k) (pos 0))) (side-at n p r k h) ∙ lia-eq (get_or x k (pos 0) ∷ get_or r (p + k) (pos 0) ∷ []) [] (search lin depth 30) (omega arith)

    same : (i : ℕ) → i ≡ k → get_or (set s k v) i (pos 0) ≡ get_or x i (pos 0)
    same i q = ap (λ (j : ℕ). get_or (set s k v) j (pos 0)) q ∙ get_or-set_same s k v (pos 0) (let y = side-length n p r l in omega arith) ∙ value ∙ ap (λ (j : ℕ). get_or x j (pos 0)) (sym q)

    other : (i : ℕ) → i < n → (i ≡ k → ⊥) → get_or (set s k v) i (pos 0) ≡ get_or x i (pos 0)
    other i o q = get_or-set_other s k i v (pos 0) q ∙ side-at n p r i o ∙ f i o q

-- the sum over x and y, by that over the sides of r
pub best-moved : (n p q : ℕ) (r x y : List ℤ) (k : ℕ) (cs : List ℤ) → p + n ≤ length r → q + n ≤ length r → length x ≡ n → length y ≡ n → k < n
    → ((i : ℕ) → i < n → (i ≡ k → ⊥) → get_or r (p + i) (pos 0) ≡ get_or x i (pos 0)) → ((i : ℕ) → i < n → (i ≡ k → ⊥) → get_or r (q + i) (pos 0) ≡ get_or y i (pos 0))
    → best cs (take n (drop p r)) (take n (drop q r)) +ℤ gain k (get_or x k (pos 0) -ℤ get_or r (p + k) (pos 0)) (get_or y k (pos 0) -ℤ get_or r (q + k) (pos 0)) cs ≡ best cs x y
best-moved n p q r x y k cs lp lq ex ey h f g =
    sym (best-move k cs (take n (drop p r)) (take n (drop q r)) (get_or x k (pos 0) -ℤ get_or r (p + k) (pos 0)) (get_or y k (pos 0) -ℤ get_or r (q + k) (pos 0)) (let a = side-length n p r lp in omega arith) (let a = side-length n q r lq in omega arith))
    ∙ ap₂ (best cs) (sides-moved n p r x k lp ex h f) (sides-moved n q r y k lq ey h g)

-- ---- a row with all its sides at 0
zero-at : (m i : ℕ) → get_or (replicate m (pos 0)) i (pos 0) ≡ pos 0
zero-at zero zero = refl
zero-at zero (suc i) = refl
zero-at (suc m) zero = refl
zero-at (suc m) (suc i) = zero-at m i

module _ (s : List ℕ) (start n : ℕ) (o : Opened s start) (l : n ≤ 8) where
  abbrev row : List ℤ
  row = set (replicate 129 (pos 0)) 128 (pos start)

  blank : (i : ℕ) → (i ≡ 128 → ⊥) → get_or row i (pos 0) ≡ pos 0
  blank i h = get_or-set_other (replicate 129 (pos 0)) 128 i (pos start) (pos 0) h ∙ zero-at 129 i

  blank-sides : (p : ℕ) → p + 8 ≤ 128 → (i : ℕ) → get_or (take n (drop p row)) i (pos 0) ≡ pos 0
  blank-sides p h = side-all (λ (z : ℤ). z ≡ pos 0) n p row (λ i k. blank (p + i) (λ e. omega arith)) refl

  small : (z : ℤ) → z ≡ pos 0 → Within 1048576 z
  small z e = subst (Within 1048576) (sym e) (record { size = omega arith })

  pub fresh-row : Row s n row
  fresh-row = record {
    places = refl;
    place = refl;
    opened = o;
    lows = λ j h. small (get_or row (56 + j) (pos 0)) (blank (56 + j) (λ e. omega arith));
    highs = λ j h. small (get_or row (120 + j) (pos 0)) (blank (120 + j) (λ e. omega arith));
    least = λ i h. blank i (λ e. omega arith) ∙ sym (best-zero (get_or (row_forms s row) i []) (lows_of n row) (highs_of n row) (blank-sides 56 (omega arith)) (blank-sides 120 (omega arith)));
    greatest = λ i h. blank (64 + i) (λ e. omega arith) ∙ sym (best-zero (get_or (row_forms s row) i []) (highs_of n row) (lows_of n row) (blank-sides 120 (omega arith)) (blank-sides 56 (omega arith)));
  }

-- ---- sizes
module _ (s : List ℕ) (n : ℕ) (r : List ℤ) (l : n ≤ 8) (g : Row s n r) where
  sized : (i p q : ℕ) → AllWithin 1048576 (take n (drop p r)) → AllWithin 1048576 (take n (drop q r)) → Within 274877906944 (best (get_or (row_forms s r) i []) (take n (drop p r)) (take n (drop q r)))
  sized i p q h k =
      let w = best-within 1048576 (get_or (row_forms s r) i []) (take n (drop p r)) (take n (drop q r)) (small-forms s (start_of r) g.opened i) h k in
      let a : length (take n (drop p r)) ≤ 8 = omega (arith, length-take n (drop p r)) in
      within-mono (mul-le-mul a (le_refl (32768 * 1048576))) w

  pub row_loose : Loose s r
  row_loose =
      let u = side-within n 56 r l g.lows in let v = side-within n 120 r l g.highs in
      record {
        places = g.places;
        place = g.place;
        opened = g.opened;
        least = λ i h. subst (Within 274877906944) (sym (g.least i h)) (sized i 56 120 u v);
        greatest = λ i h. subst (Within 274877906944) (sym (g.greatest i h)) (sized i 120 56 v u);
      }

-- ---- the ends over the box that a row is settled to
module _ (s : List ℕ) (k : ℕ) (low high r : List ℤ) (g : Settled s k low high r) (e : Ends low high 1048576) where
  abbrev pub from : ℤ
  from = get_or low k (pos 0) -ℤ get_or r (56 + k) (pos 0)

  abbrev pub to : ℤ
  to = get_or high k (pos 0) -ℤ get_or r (120 + k) (pos 0)

  room : (p : ℕ) → p + 8 ≤ 129 → p + length low ≤ length r
  room p h = let a = g.row.places in let b = e.few in omega arith

  pub settled-least : (i : ℕ) → i < 56 → get_or r i (pos 0) +ℤ gain k from to (get_or (row_forms s r) i []) ≡ best (get_or (row_forms s r) i []) low high
  settled-least i h =
      ap (λ (z : ℤ). z +ℤ gain k from to (get_or (row_forms s r) i [])) (g.row.least i h)
      ∙ best-moved (length low) 56 120 r low high k (get_or (row_forms s r) i []) (room 56 (omega arith)) (room 120 (omega arith)) refl e.same g.axis g.lows g.highs

  pub settled-greatest : (i : ℕ) → i < 56 → get_or r (64 + i) (pos 0) +ℤ gain k to from (get_or (row_forms s r) i []) ≡ best (get_or (row_forms s r) i []) high low
  settled-greatest i h =
      ap (λ (z : ℤ). z +ℤ gain k to from (get_or (row_forms s r) i [])) (g.row.greatest i h)
      ∙ best-moved (length low) 120 56 r high low k (get_or (row_forms s r) i []) (room 120 (omega arith)) (room 56 (omega arith)) e.same refl g.axis g.highs g.lows
