-- Rows as lists of 18 numbers: loops over them, the common divisor, what a combination and a solved row keep. Assumes nothing.
use mathlib.Core.Path.{◌≡◌, refl, sym, ap, ap₂, ◌∙◌, subst}
use mathlib.Core.List.{List, [], ◌∷◌, ◌++◌, map}
use mathlib.Core.Bool.{Bool, true, false, not, cond}
use Prim.Native.Nat.{ℕ, zero, suc, ◌+◌, ◌-◌, ◌/◌, ◌^◌, ◌≤◌, ◌<◌, zero-le, suc-le-suc}
use native.Mathlib.Nat.{le_of_suc-le-suc, le_refl, le_trans, not-suc-le-zero, mod-one, div-le_self, le-div_iff_mul-le, le_of_dvd, pos_of_dvd_of_pos}
use native.Mathlib.Omega.{arith}
use native.Mathlib.Numerals.{add-one}
use lib.Dec.{T, ltb→lt, lt→ltb}
use lib.ListN.{length, get_or, set, take, drop, replicate, length-set, length-map, drop_of_length-le, get_or-map}
use lib.Seq.{drop-cons, get_or-drop, get_or-set_other, get_or-set_same}
use lib.IntN.{ℤ, pos, negsuc, neg_ℤ, nat_abs, ◌+ℤ◌, ◌-ℤ◌, ◌*ℤ◌, +ℤ_idl, +ℤ_idr, *ℤ-zero}
use lib.Signed.{mag, quot_z, lt_z, ◌<ℤ◌}
use mir.Syntax.{w64}
use mir.Val.{SFits, to_z, of_z}
use mir.Facts.{to_z-of_z, to_z_pos}
use Rattle.integers.specs.Z.{Within}
use Rattle.integers.specs.Gcd.{gcd, gcd-is, gcd-zero, gcd-step, gcd-comm}
use Rattle.integers.specs.Order.{mul-pos-pos}
use Rattle.integers.specs.Ring.{quote, ring}
use Rattle.integers.specs.Size.{within-neg, within-mono, within-fits, within-add, within-sub}
use Rattle.integers.proofs.BoundedProducts.{products}
use Rattle.model.specs.Sets.{is_zero}
use Rattle.model.proofs.Values.{is_zero-no}
use Rattle.model.specs.Lists.{filter, cons_if}
unfoldable pub use Rattle.model.proofs.Lists.{up_to, each, but}
pub use Rattle.model.proofs.Lists.{up_to-none, up_to-length, up_to-next, up_to-more, up_to-rest, each_at, up_to-each, but-own, but-other, up_to-but}
use Rattle.integers.specs.Size.{bound}
use Rattle.tableau.specs.Rows.{divisor_from, divide_row, reduce_row, turn_row, turn_by, solve_row, combine_rows, minus_row, replace_row, rebuild_row, exchange_rows, exchange_by, DivisorAt, rebuilt, touched, den, entry, Small, Line}

-- ---- numbers of 64 bits
abbrev pub top : ℕ
top = 9223372036854775807

pub fits : {z : ℤ} → Within top z → SFits w64 z
fits h = within-fits (omega arith) h

pub back : {z : ℤ} → Within top z → to_z w64 (of_z w64 z) ≡ z
back h = to_z-of_z (fits h)

pub wider : {z : ℤ} → Within (bound 64) z → Within top z
wider h = within-mono (omega arith) h

-- 0 - x
pub minus_is : (x : ℤ) → pos 0 -ℤ x ≡ neg_ℤ x
minus_is x = +ℤ_idl (neg_ℤ x)

pub within-minus : {n : ℕ} {x : ℤ} → Within n x → Within n (pos 0 -ℤ x)
within-minus {n} {x} h = subst (Within n) (sym (minus_is x)) (within-neg h)

-- read back from the bits of 0 - x
pub minus-back : (x : ℤ) → Within (bound 64) x → to_z w64 (of_z w64 (pos 0 -ℤ to_z w64 (of_z w64 x))) ≡ pos 0 -ℤ x
minus-back x h = ap (λ z. to_z w64 (of_z w64 (pos 0 -ℤ z))) (back (wider h)) ∙ back (within-minus (wider h))

-- ---- the greatest common divisor

-- gcd a 1 is 1
pub gcd-one : (a : ℕ) → gcd a 1 ≡ 1
gcd-one a = gcd-step a 1 ∙ ap (gcd 1) (mod-one a) ∙ gcd-zero 1

pub divisor-one : (l : List ℤ) → divisor_from 1 l ≡ 1
unfolding divisor_from
divisor-one [] = refl
divisor-one (x ∷ l) = ap (λ g. divisor_from g l) (gcd-one (nat_abs x)) ∙ divisor-one l

-- one number of the list taken in
pub divisor-step : (l : List ℤ) (i g : ℕ) → i < length l → divisor_from (gcd (nat_abs (get_or l i (pos 0))) g) (drop (i + 1) l) ≡ divisor_from g (drop i l)
unfolding divisor_from
divisor-step l i g h = rw (add-one, drop-cons l i (pos 0))

zeros-divisor : (l : List ℤ) (g : ℕ) → ((k : ℕ) → get_or l k (pos 0) ≡ pos 0) → divisor_from g l ≡ g
unfolding divisor_from
zeros-divisor [] g h = refl
zeros-divisor (x ∷ l) g h =
    ap (λ e. divisor_from e l) (ap (λ z. gcd (nat_abs z) g) (h 0) ∙ gcd-comm 0 g ∙ gcd-zero g)
    ∙ zeros-divisor l g (λ k. h (suc k))

-- the numbers past the n-th are 0
pub divisor-end : (n i g : ℕ) (l : List ℤ) → Line n l → n ≤ i → divisor_from g (drop i l) ≡ g
divisor-end n i g l h k = zeros-divisor (drop i l) g (λ j. get_or-drop i l j (pos 0) ∙ h.blank (i + j) (omega arith))

pub map-front : (g : ℤ → ℤ) (n : ℕ) (l : List ℤ) → g (pos 0) ≡ pos 0 → ((k : ℕ) → n ≤ k → get_or l k (pos 0) ≡ pos 0) → map g (take n l) ++ drop n l ≡ map g l
map-front g zero [] e h = refl
map-front g zero (x ∷ l) e h = ap₂ ◌∷◌ (h 0 zero-le ∙ sym (ap g (h 0 zero-le) ∙ e)) (map-front g zero l e (λ k a. h (suc k) zero-le))
map-front g (suc n) [] e h = refl
map-front g (suc n) (x ∷ l) e h = ap (λ t. g x ∷ t) (map-front g n l e (λ k a. h (suc k) (suc-le-suc a)))

-- what a loop over the first n numbers has not come to is as it was
pub front-next : (f : ℕ → ℤ → ℤ) (n i : ℕ) (l r : List ℤ) → i < length (take n l) → r ≡ up_to f i (take n l) → get_or r i (pos 0) ≡ get_or l i (pos 0)
front-next f n i l r h e = ap (λ t. get_or t i (pos 0)) e ∙ up_to-next f i (take n l) (pos 0) ∙ taken n i l h
  where
    taken : (n i : ℕ) (l : List ℤ) → i < length (take n l) → get_or (take n l) i (pos 0) ≡ get_or l i (pos 0)
    taken zero i l h = absurd (not-suc-le-zero h)
    taken (suc n) i [] h = refl
    taken (suc n) zero (x ∷ l) h = refl
    taken (suc n) (suc i) (x ∷ l) h = taken n i l (le_of_suc-le-suc h)

-- a loop over the first n numbers that writes g of each, of a function that keeps 0
pub front-mapped : (g : ℤ → ℤ) (n i : ℕ) (l r : List ℤ) → g (pos 0) ≡ pos 0 → Line n l → length (take n l) ≤ i → r ≡ up_to (each g) i (take n l) → r ++ drop n l ≡ map g l
front-mapped g n i l r e h k f = ap (λ t. t ++ drop n l) (f ∙ up_to-each g i (take n l) k) ∙ map-front g n l e h.blank

-- ---- a loop that changes a row from the front

-- over a row's first n numbers, of a function that keeps 0
pub up_to-line : (g : ℤ → ℤ) (n i : ℕ) (l : List ℤ) → g (pos 0) ≡ pos 0 → Line n l → n ≤ i → i ≤ 18 → up_to (each g) i l ≡ map g l
unfolding each
up_to-line g n i l e h k m =
    let len = h.long in
    up_to-rest (each g) i 18 l (pos 0) m (λ j a. ap g (h.blank j (omega arith)) ∙ e ∙ sym (h.blank j (omega arith))) ∙ up_to-each g 18 l (omega arith)

-- the step of a combination
unfoldable pub mul_sub : ℤ → ℤ → List ℤ → ℕ → ℤ → ℤ
mul_sub m b q i x = x *ℤ m -ℤ b *ℤ get_or q i (pos 0)

mul_sub-none : (m b : ℤ) → pos 0 *ℤ m -ℤ b *ℤ pos 0 ≡ pos 0
mul_sub-none m b = ap₂ ◌-ℤ◌ (lib.IntN.zero-*ℤ m) (*ℤ-zero b)

combine-all : (m b : ℤ) (n : ℕ) (l q : List ℤ) → length l ≤ n → length l ≤ length q → up_to (mul_sub m b q) n l ≡ combine_rows m b l q
unfolding up_to combine_rows mul_sub
combine-all m b zero [] q h k = refl
combine-all m b zero (x ∷ l) q h k = absurd (not-suc-le-zero h)
combine-all m b (suc n) [] q h k = refl
combine-all m b (suc n) (x ∷ l) [] h k = absurd (not-suc-le-zero k)
combine-all m b (suc n) (x ∷ l) (y ∷ q) h k = ap (λ t. (x *ℤ m -ℤ b *ℤ y) ∷ t) (combine-all m b n l q (le_of_suc-le-suc h) (le_of_suc-le-suc k))

pub up_to-combine : (m b : ℤ) (n i : ℕ) (l q : List ℤ) → Line n l → Line n q → n ≤ i → i ≤ 18 → up_to (mul_sub m b q) i l ≡ combine_rows m b l q
unfolding mul_sub
up_to-combine m b n i l q h g k c =
    let len = h.long in
    let leq = g.long in
    up_to-rest (mul_sub m b q) i 18 l (pos 0) c
    (λ j a. ap₂ (λ x y. x *ℤ m -ℤ b *ℤ y) (h.blank j (omega arith)) (g.blank j (omega arith)) ∙ mul_sub-none m b ∙ sym (h.blank j (omega arith)))
    ∙ combine-all m b 18 l q (omega arith) (omega arith)

-- ---- the divisor of a row with a positive denominator is positive and at most the denominator
gcd-le : (a b : ℕ) → 0 < b → (0 < gcd a b) × (gcd a b ≤ b)
gcd-le a b p = let d = (gcd-is a b).right in (pos_of_dvd_of_pos d p, le_of_dvd p d)

divisor-le : (l : List ℤ) (g : ℕ) → 0 < g → (0 < divisor_from g l) × (divisor_from g l ≤ g)
unfolding divisor_from
divisor-le [] g p = (p, le_refl g)
divisor-le (x ∷ l) g p =
    let h = gcd-le (nat_abs x) g p in
    let r = divisor-le l (gcd (nat_abs x) g) h.0 in
    (r.0, omega arith)

pub pos_nat_abs : (x : ℤ) → pos 0 <ℤ x → 0 < nat_abs x
pos_nat_abs (pos n) h = ltb→lt 0 n h.lt
pos_nat_abs (negsuc n) h = omega arith

pub row-divisor : (l : List ℤ) → pos 0 <ℤ get_or l 0 (pos 0) → (0 < divisor_from 0 l) × (divisor_from 0 l ≤ nat_abs (get_or l 0 (pos 0)))
unfolding divisor_from
row-divisor [] h = absurd h.lt
row-divisor (x ∷ l) h = rw gcd-zero (divisor-le l (nat_abs x) (pos_nat_abs x h))

-- ---- division
quot-one : (x : ℤ) → quot_z x (pos 1) ≡ x
quot-one (pos a) = ap pos (omega arith)
quot-one (negsuc a) = let e : suc a / 1 ≡ suc a = omega arith in ap (λ n. neg_ℤ (pos n)) e

pub map-quot-one : (l : List ℤ) → map (λ x. quot_z x (pos 1)) l ≡ l
map-quot-one [] = refl
map-quot-one (x ∷ l) = ap₂ ◌∷◌ (quot-one x) (map-quot-one l)

pub quot-zero : (d : ℤ) → pos 0 <ℤ d → quot_z (pos 0) d ≡ pos 0
quot-zero (pos n) h = let p = ltb→lt 0 n h.lt in ap pos (omega (arith, div-le_self 0 n))
quot-zero (negsuc n) h = absurd h.lt

pub positive : (n : ℕ) → 0 < n → pos 0 <ℤ pos n
positive n h = record { lt = lt→ltb 0 n h }

-- a count of 63 bits, as a signed number
pub signed_of : (n k : ℕ) → n ≡ k → k ≤ top → to_z w64 n ≡ pos k
signed_of n k e h = to_z_pos w64 {n = n} (omega arith) ∙ ap pos e

-- ---- what holds of a row before it is reduced
pub record Sound (n b : ℕ) (r : List ℤ) : Type 0 where
  pub line : Line n r
  pub small : Small b r
  pub den : pos 0 <ℤ get_or r 0 (pos 0)

-- ---- rows with denominator 1

-- the numbers from place 18 on are none
pub whole-line : {n : ℕ} {l : List ℤ} → Line n l → Line 18 l
whole-line {n} {l} f = record { fit = le_refl 18; long = f.long; blank = λ k a. f.blank k (le_trans f.fit a) }

-- they are in lowest terms
pub one-lowest : (r : List ℤ) → get_or r 0 (pos 0) ≡ pos 1 → reduce_row r ≡ r
unfolding reduce_row divide_row divisor_from
one-lowest [] e = absurd (subst T (ap is_zero e) tt)
one-lowest (x ∷ l) e =
    ap (λ n. map (λ z. quot_z z (pos n)) (x ∷ l)) (ap (λ g. divisor_from g l) (ap (λ z. gcd (nat_abs z) 0) e ∙ gcd-zero 1) ∙ divisor-one l)
    ∙ map-quot-one (x ∷ l)

-- sums and differences as steps of a combination
pub plus_step : (x y : ℤ) → x +ℤ y ≡ x *ℤ pos 1 -ℤ neg_ℤ (pos 1) *ℤ y
plus_step x y = ring (x ∷ y ∷ []) (search quote depth 30) tt

pub minus-step : (x y : ℤ) → x -ℤ y ≡ x *ℤ pos 1 -ℤ pos 1 *ℤ y
minus-step x y = ring (x ∷ y ∷ []) (search quote depth 30) tt

pub sum_fits : {x y : ℤ} → Within (bound 64) x → Within (bound 64) y → SFits w64 (x +ℤ y)
sum_fits h k = within-fits (omega arith) (within-add h k)

pub difference-fits : {x y : ℤ} → Within (bound 64) x → Within (bound 64) y → SFits w64 (x -ℤ y)
difference-fits h k = within-fits (omega arith) (within-sub h k)

-- ---- stores
pub set-small : (b : ℕ) (l : List ℤ) (i : ℕ) (v : ℤ) → Within b v → Small b l → Small b (set l i v)
set-small b [] i v hv hl k = hl k
set-small b (x ∷ l) zero v hv hl zero = hv
set-small b (x ∷ l) zero v hv hl (suc k) = hl (suc k)
set-small b (x ∷ l) (suc i) v hv hl zero = hl 0
set-small b (x ∷ l) (suc i) v hv hl (suc k) = set-small b l i v hv (λ k. hl (suc k)) k

-- the first number after a store further on
pub set-den : (l : List ℤ) (i : ℕ) (v : ℤ) → get_or (set l (i + 2) v) 0 (pos 0) ≡ get_or l 0 (pos 0)
set-den l i v = get_or-set_other l (i + 2) 0 v (pos 0) (omega arith)

pub set_line : (n : ℕ) (l : List ℤ) (i : ℕ) (v : ℤ) → i < n → Line n l → Line n (set l i v)
set_line n l i v h f =
    record { fit = f.fit; long = length-set l i v ∙ f.long; blank = λ k a. get_or-set_other l i k v (pos 0) (omega arith) ∙ f.blank k a }

zero-cleared : (l : List ℤ) (i k : ℕ) → get_or l k (pos 0) ≡ pos 0 → get_or (set l i (pos 0)) k (pos 0) ≡ pos 0
zero-cleared [] i k h = h
zero-cleared (x ∷ l) zero zero h = refl
zero-cleared (x ∷ l) zero (suc k) h = h
zero-cleared (x ∷ l) (suc i) zero h = h
zero-cleared (x ∷ l) (suc i) (suc k) h = zero-cleared l i k h

pub cleared_at : (l : List ℤ) (i : ℕ) → get_or (set l i (pos 0)) i (pos 0) ≡ pos 0
cleared_at [] i = refl
cleared_at (x ∷ l) zero = refl
cleared_at (x ∷ l) (suc i) = cleared_at l i

pub clear-line : (n : ℕ) (l : List ℤ) (i : ℕ) → Line n l → Line n (set l i (pos 0))
clear-line n l i f =
    record { fit = f.fit; long = length-set l i (pos 0) ∙ f.long; blank = λ k a. zero-cleared l i k (f.blank k a) }

-- ---- functions that keep 0
pub map-zero : (g : ℤ → ℤ) (l : List ℤ) (k : ℕ) → g (pos 0) ≡ pos 0 → get_or (map g l) k (pos 0) ≡ g (get_or l k (pos 0))
map-zero g [] k e = sym e
map-zero g (x ∷ l) zero e = refl
map-zero g (x ∷ l) (suc k) e = map-zero g l k e

map-line : (g : ℤ → ℤ) (n : ℕ) (l : List ℤ) → g (pos 0) ≡ pos 0 → Line n l → Line n (map g l)
map-line g n l e f =
    record { fit = f.fit; long = length-map l g ∙ f.long; blank = λ k a. map-zero g l k e ∙ ap g (f.blank k a) ∙ e }

pub minus-line : (n : ℕ) (l : List ℤ) → Line n l → Line n (minus_row l)
minus-line n l f = map-line (λ x. pos 0 -ℤ x) n l refl f

pub minus-small : (b : ℕ) (l : List ℤ) → Small b l → Small b (minus_row l)
minus-small b l h k = subst (Within b) (sym (map-zero (λ x. pos 0 -ℤ x) l k refl)) (within-minus (h k))

-- ---- what a combination keeps
pub combine-at : (m b : ℤ) (l q : List ℤ) (k : ℕ) → length l ≡ length q → get_or (combine_rows m b l q) k (pos 0) ≡ get_or l k (pos 0) *ℤ m -ℤ b *ℤ get_or q k (pos 0)
unfolding combine_rows
combine-at m b [] [] k e = sym (mul_sub-none m b)
combine-at m b [] (y ∷ q) k e = absurd (omega arith)
combine-at m b (x ∷ l) [] k e = absurd (omega arith)
combine-at m b (x ∷ l) (y ∷ q) zero e = refl
combine-at m b (x ∷ l) (y ∷ q) (suc k) e = combine-at m b l q k (omega arith)

pub combine-length : (m b : ℤ) (l q : List ℤ) → length l ≡ length q → length (combine_rows m b l q) ≡ length l
unfolding combine_rows
combine-length m b [] q h = refl
combine-length m b (x ∷ l) [] h = sym h
combine-length m b (x ∷ l) (y ∷ q) h = ap suc (combine-length m b l q (omega arith))

module _ (n : ℕ) (m b : ℤ) (l q : List ℤ) (hl : Line n l) (hq : Line n q) where
  same-long : length l ≡ length q
  same-long = hl.long ∙ sym hq.long

  pub combine-line : Line n (combine_rows m b l q)
  combine-line =
      record {
        fit = hl.fit;
        long = combine-length m b l q same-long ∙ hl.long;
        blank = λ k a. combine-at m b l q k same-long ∙ ap₂ (λ x y. x *ℤ m -ℤ b *ℤ y) (hl.blank k a) (hq.blank k a) ∙ mul_sub-none m b;
      }

  -- at W bits
  pub combine-small_at : (W : ℕ) → 2 ≤ W → Within (bound W) m → Within (bound W) b → Small (bound W) l → Small (bound W) q → Small (2 ^ (W - 1) - 1) (combine_rows m b l q)
  combine-small_at W w hm hb sl sq k =
      subst (Within (2 ^ (W - 1) - 1)) (sym (combine-at m b l q k same-long)) (products W w (sl k) hm hb (sq k)).difference

  pub combine-small : Within (bound 64) m → Within (bound 64) b → Small (bound 64) l → Small (bound 64) q → Small top (combine_rows m b l q)
  combine-small hm hb sl sq k = combine-small_at 64 (omega arith) hm hb sl sq k

  -- the divisor of a combination, with one number more, and with all
  pub divisor-more : (i g : ℕ) (z : ℤ) → i < n → z ≡ get_or l i (pos 0) *ℤ m -ℤ b *ℤ get_or q i (pos 0) → divisor_from (gcd (nat_abs z) g) (drop (i + 1) (combine_rows m b l q)) ≡ divisor_from g (drop i (combine_rows m b l q))
  divisor-more i g z h e =
      let f = combine-line.fit in
      let k = combine-line.long in
      ap (λ x. divisor_from (gcd (nat_abs x) g) (drop (i + 1) (combine_rows m b l q))) (e ∙ sym (combine-at m b l q i same-long)) ∙ divisor-step (combine_rows m b l q) i g (omega arith)

  pub divisor-all : (i g : ℕ) → n ≤ i → divisor_from g (drop i (combine_rows m b l q)) ≡ divisor_from 0 (combine_rows m b l q) → g ≡ divisor_from 0 (combine_rows m b l q)
  divisor-all i g h e = sym (divisor-end n i g (combine_rows m b l q) combine-line h) ∙ e

  pub combine-den : pos 0 <ℤ m → pos 0 <ℤ get_or l 0 (pos 0) → get_or q 0 (pos 0) ≡ pos 0 → pos 0 <ℤ get_or (combine_rows m b l q) 0 (pos 0)
  combine-den hm pl z =
      subst (λ x. pos 0 <ℤ x)
      (sym (combine-at m b l q 0 same-long ∙ ap (λ y. get_or l 0 (pos 0) *ℤ m -ℤ b *ℤ y) z ∙ ap (λ x. get_or l 0 (pos 0) *ℤ m -ℤ x) (*ℤ-zero b) ∙ +ℤ_idr (get_or l 0 (pos 0) *ℤ m)))
      (mul-pos-pos pl hm)

  -- of two rows with denominator 1
  pub combine-one : m ≡ pos 1 → get_or l 0 (pos 0) ≡ pos 1 → get_or q 0 (pos 0) ≡ pos 0 → get_or (combine_rows m b l q) 0 (pos 0) ≡ pos 1
  combine-one em el eq =
      combine-at m b l q 0 same-long
      ∙ ap (λ y. get_or l 0 (pos 0) *ℤ m -ℤ b *ℤ y) eq
      ∙ ap (λ x. get_or l 0 (pos 0) *ℤ m -ℤ x) (*ℤ-zero b)
      ∙ +ℤ_idr (get_or l 0 (pos 0) *ℤ m)
      ∙ ap₂ ◌*ℤ◌ el em

-- ---- rows in lowest terms
nat_abs-pos-neg : (n : ℕ) → nat_abs (neg_ℤ (pos n)) ≡ n
nat_abs-pos-neg zero = refl
nat_abs-pos-neg (suc n) = refl

nat_abs-quot : (x : ℤ) (n : ℕ) → nat_abs (quot_z x (pos n)) ≤ nat_abs x
nat_abs-quot (pos a) n = div-le_self a n
nat_abs-quot (negsuc a) n = subst (λ m. m ≤ suc a) (sym (nat_abs-pos-neg (suc a / n))) (div-le_self (suc a) n)

quot-positive : (x : ℤ) (n : ℕ) → pos 0 <ℤ x → 0 < n → n ≤ nat_abs x → pos 0 <ℤ quot_z x (pos n)
quot-positive (pos a) n h p k = positive (a / n) ((le-div_iff_mul-le p).1 (omega arith))
quot-positive (negsuc a) n h p k = absurd h.lt

pub reduce-over : (r : List ℤ) → pos 0 <ℤ get_or r 0 (pos 0) → pos 0 <ℤ get_or (reduce_row r) 0 (pos 0)
unfolding reduce_row divide_row
reduce-over r h =
    let d = row-divisor r h in
    let g = divisor_from 0 r in
    subst (λ x. pos 0 <ℤ x) (sym (map-zero (λ x. quot_z x (pos g)) r 0 (quot-zero (pos g) (positive g d.0)))) (quot-positive (get_or r 0 (pos 0)) g h d.0 d.1)

pub reduce-sound : (n b : ℕ) (r : List ℤ) → Sound n b r → Sound n b (reduce_row r)
unfolding reduce_row divide_row
reduce-sound n b r h =
    let d = row-divisor r h.den in
    let g = divisor_from 0 r in
    let q : ℤ → ℤ = λ x. quot_z x (pos g) in
    let z : q (pos 0) ≡ pos 0 = quot-zero (pos g) (positive g d.0) in
    record {
      line = map-line q n r z h.line;
      small = λ k. subst (Within b) (sym (map-zero q r k z)) (record { size = le_trans (nat_abs-quot (get_or r k (pos 0)) g) (h.small k).size });
      den = reduce-over r h.den;
    }

-- ---- rows solved
pub minus-positive : (x : ℤ) → lt_z x (pos 0) ≡ true → pos 0 <ℤ (pos 0 -ℤ x)
minus-positive x h = subst (λ z. pos 0 <ℤ z) (sym (minus_is x)) (go x h)
  where
    go : (x : ℤ) → lt_z x (pos 0) ≡ true → pos 0 <ℤ neg_ℤ x
    go (pos n) h = absurd (not-suc-le-zero (ltb→lt n 0 (subst T (sym h) tt)))
    go (negsuc n) h = positive (suc n) (omega arith)

pub nonzero-positive : (x : ℤ) → lt_z x (pos 0) ≡ false → (x ≡ pos 0 → ⊥) → pos 0 <ℤ x
nonzero-positive (pos zero) h f = absurd (f refl)
nonzero-positive (pos (suc n)) h f = positive (suc n) (omega arith)
nonzero-positive (negsuc n) h f = absurd (subst T h tt)

module _ (m n : ℕ) (r : List ℤ) (j : ℕ) (jn : j + 2 < n) (f : Line n r) (w : Small m r) (e : entry r j ≡ pos 0 → ⊥) where
  turn_by-sound : (b : Bool) → lt_z (entry r j) (pos 0) ≡ b → Sound n m (turn_by b r j)
  turn_by-sound true t =
      let a = get_or r (j + 2) (pos 0) in
      let d = get_or r 0 (pos 0) in
      let len = f.long in
      record {
        line = set_line n (set r 0 (pos 0 -ℤ a)) (j + 2) (pos 0 -ℤ d) jn (set_line n r 0 (pos 0 -ℤ a) (omega arith) f);
        small = set-small m (set r 0 (pos 0 -ℤ a)) (j + 2) (pos 0 -ℤ d) (within-minus (w 0)) (set-small m r 0 (pos 0 -ℤ a) (within-minus (w (j + 2))) w);
        den = rw (set-den (set r 0 (pos 0 -ℤ a)) j (pos 0 -ℤ d), get_or-set_same r 0 (pos 0 -ℤ a) (pos 0) (omega arith)) (minus-positive a t);
      }
  turn_by-sound false t =
      let a = get_or r (j + 2) (pos 0) in
      let d = get_or r 0 (pos 0) in
      let l = minus_row r in
      let g = minus-line n r f in
      let len = g.long in
      record {
        line = set_line n (set l 0 a) (j + 2) d jn (set_line n l 0 a (omega arith) g);
        small = set-small m (set l 0 a) (j + 2) d (w 0) (set-small m l 0 a (w (j + 2)) (minus-small m r w));
        den = rw (set-den (set l 0 a) j d, get_or-set_same l 0 a (pos 0) (omega arith)) (nonzero-positive a t e);
      }

  pub turn-sound_at : Sound n m (turn_row r j)
  unfolding turn_row
  turn-sound_at = turn_by-sound (lt_z (entry r j) (pos 0)) refl

  pub solve-sound_at : Sound n m (solve_row r j)
  unfolding solve_row
  solve-sound_at = reduce-sound n m (turn_row r j) turn-sound_at

module _ (n : ℕ) (r : List ℤ) (j : ℕ) (jn : j + 2 < n) (f : Line n r) (w : Small (bound 64) r) (e : entry r j ≡ pos 0 → ⊥) where
  pub turn-sound : Sound n (bound 64) (turn_row r j)
  turn-sound = turn-sound_at (bound 64) n r j jn f w e

  pub solve-sound : Sound n (bound 64) (solve_row r j)
  solve-sound = solve-sound_at (bound 64) n r j jn f w e

-- ---- the test for 0, on a number and on its bits
pub bits-zero : (z : ℤ) → mag z < 9223372036854775808 → of_z w64 z ≡ 0 → z ≡ pos 0
bits-zero z h e = sym (to_z-of_z {w = w64} (record { sfits = h })) ∙ ap (to_z w64) e

-- ---- the count of the rows with an entry
rebuilt-le : (b : Bool) → cond {A = ℕ} b 0 1 ≤ 1
rebuilt-le true = omega arith
rebuilt-le false = omega arith

pub touched-le : (j : ℕ) (t : List (List ℤ)) → touched j t ≤ length t
unfolding touched
touched-le j [] = zero-le
touched-le j (r ∷ t) = let h = touched-le j t in let k = rebuilt-le (is_zero (entry r j)) in omega arith

pub touched-step : (j k : ℕ) (t : List (List ℤ)) → k < length t → rebuilt j (get_or t k []) + touched j (drop (k + 1) t) ≡ touched j (drop k t)
unfolding touched
touched-step j k t h = rw (add-one, drop-cons t k [])

pub touched-end : (j k : ℕ) (t : List (List ℤ)) → length t ≤ k → touched j (drop k t) ≡ 0
unfolding touched
touched-end j k t h = ap (touched j) (drop_of_length-le t {i = k} h)

-- row i with an entry: one, with those of the other rows
pub touched-others : (j i : ℕ) (t : List (List ℤ)) → i < length t → (entry (get_or t i []) j ≡ pos 0 → ⊥) → touched j (set t i []) + 1 ≡ touched j t
unfolding touched
touched-others j i [] h f = absurd (not-suc-le-zero h)
touched-others j zero (r ∷ t) h f = rw (is_zero-no (entry r j) f) (omega arith)
touched-others j (suc i) (r ∷ t) h f = let k = touched-others j i t (le_of_suc-le-suc h) f in omega arith

-- the number of those rows
pub touched-count : (j : ℕ) (t : List (List ℤ)) → touched j t ≡ length (filter (λ (r : List ℤ). not (is_zero (entry r j))) t)
unfolding touched
touched-count j [] = refl
touched-count j (r ∷ t) = one (is_zero (entry r j)) (filter (λ (r : List ℤ). not (is_zero (entry r j))) t) (touched-count j t)
  where
    one : {n : ℕ} (b : Bool) (l : List (List ℤ)) → n ≡ length l → cond {A = ℕ} b 0 1 + n ≡ length (cons_if (not b) r l)
    one true l h = omega arith
    one false l h = omega arith

-- a row that is not row i and has no entry in column j is as it was
pub untouched : (t : List (List ℤ)) (i j k : ℕ) → (k ≡ i → ⊥) → entry (get_or t k []) j ≡ pos 0 → get_or (exchange_rows t i j) k [] ≡ get_or t k []
unfolding exchange_rows rebuild_row
untouched t i j k f e =
    let p = solve_row (get_or t i []) j in
    let q = set p 0 (pos 0) in
    get_or-set_other (map (rebuild_row j (den p) q) t) i k p [] f
    ∙ get_or-map (rebuild_row j (den p) q) t k []
    ∙ ap (λ z. cond (is_zero z) (get_or t k []) (replace_row (get_or t k []) j (den p) q)) e

-- row i solved, and the others rebuilt
pub exchanged-others : (t : List (List ℤ)) (i j : ℕ) (m : ℤ) (p q : List ℤ) → p ≡ solve_row (get_or t i []) j → m ≡ den p → q ≡ set p 0 (pos 0) → set (map (rebuild_row j m q) (set t i p)) i p ≡ exchange_rows t i j
unfolding exchange_rows
exchanged-others t i j m p q ep em eq = others t i ∙ ap₂ (λ m q. set (map (rebuild_row j m q) t) i p) em eq ∙ ap (λ p. exchange_by p t i j) ep
  where
    others : (t : List (List ℤ)) (i : ℕ) → set (map (rebuild_row j m q) (set t i p)) i p ≡ set (map (rebuild_row j m q) t) i p
    others [] i = refl
    others (r ∷ t) zero = refl
    others (r ∷ t) (suc i) = ap (λ u. rebuild_row j m q r ∷ u) (others t i)

-- ---- a row of zeros, and a solved row
abbrev pub zeros : List ℤ
zeros = replicate 18 (pos 0)

pub zeros-at : (n k : ℕ) → get_or (replicate n (pos 0)) k (pos 0) ≡ pos 0
zeros-at zero k = refl
zeros-at (suc n) zero = refl
zeros-at (suc n) (suc k) = zeros-at n k

-- a solved row, as it is put into the others
pub divisor-of : {m : ℕ} (n : ℕ) (p : List ℤ) → Sound n m p → DivisorAt m n (get_or p 0 (pos 0)) (set p 0 (pos 0))
divisor-of {m} n p h =
    let l = h.line.long in
    record {
      line = clear-line n p 0 h.line;
      small = set-small m p 0 (pos 0) (record { size = zero-le }) h.small;
      none = cleared_at p 0;
      near = h.small 0;
      over = h.den;
    }
