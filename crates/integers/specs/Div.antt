-- Division of integers: toward zero (`quot_z`, `rem_z`, as `/` and `%` compute it), rounded down (`floorZ`), and exact. Assumes nothing.
use Rattle.std.specs.Prelude.{◌≡◌, refl, [], ◌∷◌, ℕ, zero, suc, ◌/◌, ◌%◌, ◌≤◌, ◌<◌, ℤ, pos, negsuc, neg_ℤ, nat_abs, ◌+ℤ◌, ◌-ℤ◌, ◌*ℤ◌, ◌≤ℤ◌, ◌<ℤ◌}
use Rattle.std.proofs.Common.{sym, ap, ◌∙◌, subst, subst₂, arith, div-add-mod', mod-lt, div-le_self, le_trans, lt_of_le_of_lt, le_of_eq, ltb→lt, lt→ltb, SFits}
use Rattle.std.specs.Int.{◌∣◌, Width}
use Rattle.std.proofs.Math.Nat.{mod-eq-zero_of_dvd}
use Rattle.std.proofs.Math.IntN.{pred_ℤ, -ℤ_one}
use Rattle.std.specs.Int.Signed.{mag, quot_z, rem_z, mag_shr, mag_rem}
use Rattle.integers.specs.Z.{Within}
use Rattle.integers.specs.Ring.{ring, quote}
use Rattle.integers.specs.Lin.{le, lt, eq, abs, lin, lia-le, lia-lt, lia-eq}
use Rattle.integers.specs.Order.{≤ℤ-trans, ≤ℤ-antisymm, lt-of-mul-lt, <ℤ-≤ℤ, pos-nonneg, mul-cancel}
use Rattle.integers.specs.Size.{nat_abs-neg, nat_abs-zero}

-- ---- toward zero
nat-split : (a b : ℕ) → pos (a / b) *ℤ pos b +ℤ pos (a % b) ≡ pos a
nat-split a b = ap pos (div-add-mod' a b)

-- Int.tdiv_add_tmod
pub quot-rem : (n d : ℤ) → quot_z n d *ℤ d +ℤ rem_z n d ≡ n
quot-rem (pos a) (pos b) = nat-split a b
quot-rem (pos a) (negsuc b) = ring (pos (a / suc b) ∷ pos (suc b) ∷ pos (a % suc b) ∷ []) {a = neg_ℤ (pos (a / suc b)) *ℤ neg_ℤ (pos (suc b)) +ℤ pos (a % suc b)} {b = pos (a / suc b) *ℤ pos (suc b) +ℤ pos (a % suc b)} (search quote depth 30) tt ∙ nat-split a (suc b)
quot-rem (negsuc a) (pos b) = ring (pos (suc a / b) ∷ pos b ∷ pos (suc a % b) ∷ []) {a = neg_ℤ (pos (suc a / b)) *ℤ pos b +ℤ neg_ℤ (pos (suc a % b))} {b = neg_ℤ (pos (suc a / b) *ℤ pos b +ℤ pos (suc a % b))} (search quote depth 30) tt ∙ ap neg_ℤ (nat-split (suc a) b)
quot-rem (negsuc a) (negsuc b) = ring (pos (suc a / suc b) ∷ pos (suc b) ∷ pos (suc a % suc b) ∷ []) {a = pos (suc a / suc b) *ℤ neg_ℤ (pos (suc b)) +ℤ neg_ℤ (pos (suc a % suc b))} {b = neg_ℤ (pos (suc a / suc b) *ℤ pos (suc b) +ℤ pos (suc a % suc b))} (search quote depth 30) tt ∙ ap neg_ℤ (nat-split (suc a) (suc b))

pub rem-size : (n d : ℤ) → 0 < nat_abs d → nat_abs (rem_z n d) < nat_abs d
rem-size (pos a) d h = mod-lt a h
rem-size (negsuc a) d h = lt_of_le_of_lt (le_of_eq (nat_abs-neg (pos (suc a % nat_abs d)))) (mod-lt (suc a) h)

pub rem-abs : (n d : ℤ) → nat_abs (rem_z n d) ≡ nat_abs n % nat_abs d
rem-abs (pos a) d = refl
rem-abs (negsuc a) d = nat_abs-neg (pos (suc a % nat_abs d))

pub rem-nonneg : {n : ℤ} (d : ℤ) → pos 0 ≤ℤ n → pos 0 ≤ℤ rem_z n d
rem-nonneg {n = pos a} d h = pos-nonneg (a % nat_abs d)
rem-nonneg {n = negsuc a} d h = absurd h.le

-- ---- rounded down
-- q is n / d rounded down, for d > 0
pub record Floor (n d q : ℤ) : Type 0 where
  pub low : (q *ℤ d) ≤ℤ n
  pub high : n <ℤ ((q +ℤ pos 1) *ℤ d)

-- z / d rounded towards minus infinity (document 01, "Points, rules, sets"): −(a + 1) / d is −(a / d + 1)
abbrev pub floor_div : ℤ → ℕ → ℤ
floor_div (pos a) d = pos (a / d)
floor_div (negsuc a) d = negsuc (a / d)

-- the same with an integer for the divisor
abbrev pub floor_z : ℤ → ℤ → ℤ
floor_z n d = floor_div n (nat_abs d)

-- there is one
pub floor-unique : {n d q r : ℤ} → pos 0 <ℤ d → Floor n d q → Floor n d r → q ≡ r
floor-unique {n} {d} {q} {r} h f g = ≤ℤ-antisymm (one_way f g) (one_way g f)
  where
    one_way : {q r : ℤ} → Floor n d q → Floor n d r → q ≤ℤ r
    one_way {q} {r} f g =
        let l : q <ℤ (r +ℤ pos 1) = lt-of-mul-lt (<ℤ-≤ℤ h) (lia-lt (n ∷ d ∷ q ∷ r ∷ []) (le f.low ∷ lt g.high ∷ []) (search lin depth 30) (omega arith)) in
        lia-le (q ∷ r ∷ []) (lt l ∷ []) (search lin depth 30) (omega arith)

-- from the quotient toward zero: the test is of the remainder
pub floor-quot : {n d : ℤ} → pos 0 <ℤ d → pos 0 ≤ℤ rem_z n d → Floor n d (quot_z n d)
floor-quot {n} {d} h k =
    let q = quot_z n d in let r = rem_z n d in
    let s : r <ℤ d = rem_below n d h in
    record {
      low = lia-le (n ∷ d ∷ q ∷ r ∷ []) (eq (quot-rem n d) ∷ le k ∷ []) (search lin depth 30) (omega arith);
      high = lia-lt (n ∷ d ∷ q ∷ r ∷ []) (eq (quot-rem n d) ∷ lt s ∷ []) (search lin depth 30) (omega arith);
    }
  where
    rem_below : (n d : ℤ) → pos 0 <ℤ d → rem_z n d <ℤ d
    rem_below n (pos b) h = let z = rem-size n (pos b) (ltb→lt 0 b h.lt) in
        lia-lt (rem_z n (pos b) ∷ pos b ∷ pos (nat_abs (rem_z n (pos b))) ∷ []) (abs {a = rem_z n (pos b)} {n = nat_abs (rem_z n (pos b))} (record { size = omega arith }) ∷ []) (search lin depth 30) (omega arith)
    rem_below n (negsuc b) h = absurd h.lt

pub floor-quot-less : {n d : ℤ} → pos 0 <ℤ d → rem_z n d <ℤ pos 0 → Floor n d (quot_z n d -ℤ pos 1)
floor-quot-less {n} {d} h k =
    let q = quot_z n d in let r = rem_z n d in
    let s : neg_ℤ d <ℤ r = rem_above n d h in
    record {
      low = lia-le (n ∷ d ∷ q ∷ r ∷ []) (eq (quot-rem n d) ∷ lt s ∷ []) (search lin depth 30) (omega arith);
      high = lia-lt (n ∷ d ∷ q ∷ r ∷ []) (eq (quot-rem n d) ∷ lt k ∷ []) (search lin depth 30) (omega arith);
    }
  where
    rem_above : (n d : ℤ) → pos 0 <ℤ d → neg_ℤ d <ℤ rem_z n d
    rem_above n (pos b) h = let z = rem-size n (pos b) (ltb→lt 0 b h.lt) in
        lia-lt (rem_z n (pos b) ∷ pos b ∷ []) (abs {a = rem_z n (pos b)} {n = nat_abs (rem_z n (pos b))} (record { size = omega arith }) ∷ []) (search lin depth 30) (omega arith)
    rem_above n (negsuc b) h = absurd h.lt

-- `floorZ` is it
pub floor_z-is : (n : ℤ) {d : ℤ} → pos 0 <ℤ d → Floor n d (floor_z n d)
floor_z-is (pos a) {d = pos b} h =
    let e = nat-split a b in let m = mod-lt a (ltb→lt 0 b h.lt) in
    record {
      low = lia-le (pos (a / b) ∷ pos b ∷ pos (a % b) ∷ pos a ∷ []) (eq {a = pos (a / b) *ℤ pos b +ℤ pos (a % b)} e ∷ []) (search lin depth 30) (omega arith);
      high = lia-lt (pos (a / b) ∷ pos b ∷ pos (a % b) ∷ pos a ∷ []) (eq {a = pos (a / b) *ℤ pos b +ℤ pos (a % b)} e ∷ []) (search lin depth 30) (omega arith);
    }
floor_z-is (negsuc a) {d = pos b} h =
    let e = nat-split a b in let m = mod-lt a (ltb→lt 0 b h.lt) in
    let f : neg_ℤ (pos a) -ℤ pos 1 ≡ negsuc a = neg_suc a in let g : neg_ℤ (pos (a / b)) -ℤ pos 1 ≡ negsuc (a / b) = neg_suc (a / b) in
    subst₂ (λ (n q : ℤ). Floor n (pos b) q) f g
    (record {
      low = lia-le (pos (a / b) ∷ pos b ∷ pos (a % b) ∷ pos a ∷ []) (eq {a = pos (a / b) *ℤ pos b +ℤ pos (a % b)} e ∷ []) (search lin depth 30) (omega arith);
      high = lia-lt (pos (a / b) ∷ pos b ∷ pos (a % b) ∷ pos a ∷ []) (eq {a = pos (a / b) *ℤ pos b +ℤ pos (a % b)} e ∷ []) (search lin depth 30) (omega arith);
    })
  where
    neg_suc : (a : ℕ) → neg_ℤ (pos a) -ℤ pos 1 ≡ negsuc a
    neg_suc zero = refl
    neg_suc (suc a) = ap negsuc (omega arith)
floor_z-is n {d = negsuc b} h = absurd h.lt

-- ---- as code computes it
pub quot-is-floor : (n d : ℤ) → pos 0 <ℤ d → pos 0 ≤ℤ rem_z n d → quot_z n d ≡ floor_z n d
quot-is-floor n d h k = floor-unique h (floor-quot h k) (floor_z-is n h)

pub quot-less-is-floor : (n d : ℤ) → pos 0 <ℤ d → rem_z n d <ℤ pos 0 → quot_z n d -ℤ pos 1 ≡ floor_z n d
quot-less-is-floor n d h k = floor-unique h (floor-quot-less h k) (floor_z-is n h)

-- ---- exact
pub exact : (n d : ℤ) → rem_z n d ≡ pos 0 → quot_z n d *ℤ d ≡ n
exact n d e = lia-eq (quot_z n d ∷ d ∷ n ∷ rem_z n d ∷ []) (eq (quot-rem n d) ∷ eq e ∷ []) (search lin depth 30) (omega arith)

pub exact-unique : {n d q r : ℤ} → pos 0 <ℤ d → q *ℤ d ≡ n → r *ℤ d ≡ n → q ≡ r
exact-unique {n} {d} {q} {r} h e f = mul-cancel h (e ∙ sym f)

-- a divisor leaves nothing, and the quotient, rounded or not, is exact
pub divides-rem : (n d : ℤ) → nat_abs d ∣ nat_abs n → rem_z n d ≡ pos 0
divides-rem n d h = nat_abs-zero (rem_z n d) (rem-abs n d ∙ mod-eq-zero_of_dvd (nat_abs d) h)

pub divides-floor : (n d : ℤ) → pos 0 <ℤ d → nat_abs d ∣ nat_abs n → floor_z n d *ℤ d ≡ n
divides-floor n d h k = let e = divides-rem n d k in ap (λ (q : ℤ). q *ℤ d) (sym (quot-is-floor n d h (subst (λ (r : ℤ). pos 0 ≤ℤ r) (sym e) (pos-nonneg 0)))) ∙ exact n d e

-- ---- that it fits
mag-neg : (r a : ℕ) → r ≤ suc a → mag (neg_ℤ (pos r)) ≤ a
mag-neg zero a h = omega arith
mag-neg (suc r) a h = omega arith

pub quot-mag : (n : ℤ) {d : ℤ} → pos 0 <ℤ d → mag (quot_z n d) ≤ mag n
quot-mag (pos a) {d = pos b} h = div-le_self a b
quot-mag (negsuc a) {d = pos b} h = mag-neg (suc a / b) a (div-le_self (suc a) b)
quot-mag n {d = negsuc b} h = absurd h.lt

pub quot_fits : {w : Width} {n d : ℤ} → SFits w n → pos 0 <ℤ d → SFits w (quot_z n d)
quot_fits {w} {n} {d} f h = record { sfits = lt_of_le_of_lt (quot-mag n h) f.sfits }

pub floor-fits : {w : Width} {n : ℤ} (d : ℤ) → SFits w n → SFits w (floor_z n d)
floor-fits {w} {n} d f = record { sfits = lt_of_le_of_lt (mag_shr n (nat_abs d)) f.sfits }

pub rem-fits : {w : Width} {n : ℤ} (d : ℤ) → SFits w n → SFits w (rem_z n d)
rem-fits {w} {n} d f = record { sfits = lt_of_le_of_lt (mag_rem n d) f.sfits }

-- rounding down makes no number larger in size
pub floor-within : {m : ℕ} {n : ℤ} (d : ℕ) → Within m n → Within m (floor_div n d)
floor-within {n = pos a} d h = record { size = le_trans (div-le_self a d) h.size }
floor-within {n = negsuc a} d h = let u = h.size in let v = div-le_self a d in record { size = omega arith }

-- the other code for it, below 0: −((−n + d − 1) / d)
pub neg-ceil-is-floor : (n d : ℤ) → pos 0 <ℤ d → n <ℤ pos 0 → neg_ℤ (quot_z (neg_ℤ n +ℤ d -ℤ pos 1) d) ≡ floor_z n d
neg-ceil-is-floor n d h k =
    let m = neg_ℤ n +ℤ d -ℤ pos 1 in let q = quot_z m d in let r = rem_z m d in
    let hm : pos 0 ≤ℤ m = lia-le (n ∷ d ∷ []) (lt h ∷ lt k ∷ []) (search lin depth 30) (omega arith) in
    let f = floor-quot {n = m} h (rem-nonneg d hm) in
    floor-unique h
    (record {
      low = lia-le (n ∷ d ∷ q ∷ []) (lt f.high ∷ []) (search lin depth 30) (omega arith);
      high = lia-lt (n ∷ d ∷ q ∷ []) (le f.low ∷ []) (search lin depth 30) (omega arith);
    })
    (floor_z-is n h)

-- ---- a bound by a quotient is a bound by its floor: x·d ≤ n where and only where x ≤ ⌊n / d⌋
pub le-floor : {n d x : ℤ} → pos 0 <ℤ d → (x *ℤ d) ≤ℤ n → x ≤ℤ floor_z n d
le-floor {n} {d} {x} h k =
    let q = floor_z n d in let f = floor_z-is n h in
    let l : x <ℤ (q +ℤ pos 1) = lt-of-mul-lt (<ℤ-≤ℤ h) (lia-lt (n ∷ d ∷ x ∷ q ∷ []) (le k ∷ lt f.high ∷ []) (search lin depth 30) (omega arith)) in
    lia-le (x ∷ q ∷ []) (lt l ∷ []) (search lin depth 30) (omega arith)

pub floor-mono : {m n d : ℤ} → pos 0 <ℤ d → m ≤ℤ n → floor_z m d ≤ℤ floor_z n d
floor-mono {m} {n} {d} h k = le-floor h (≤ℤ-trans (floor_z-is m h).low k)

-- ---- a number's opposites, rounded: ⌊(−n − 1) / d⌋ is −⌊n / d⌋ − 1, for every d
pub floor-opposite : (n : ℤ) (d : ℕ) → floor_div (neg_ℤ n -ℤ pos 1) d ≡ neg_ℤ (floor_div n d) -ℤ pos 1
floor-opposite n d = ap (λ (z : ℤ). floor_div z d) (-ℤ_one (neg_ℤ n)) ∙ at n ∙ sym (-ℤ_one (neg_ℤ (floor_div n d)))
  where
    neg : (m : ℕ) → pred_ℤ (neg_ℤ (pos m)) ≡ negsuc m
    neg zero = refl
    neg (suc m) = refl

    at : (n : ℤ) → floor_div (pred_ℤ (neg_ℤ n)) d ≡ pred_ℤ (neg_ℤ (floor_div n d))
    at (pos m) = ap (λ (z : ℤ). floor_div z d) (neg m) ∙ sym (neg (m / d))
    at (negsuc m) = refl

-- where the division is exact the sign goes through it, and one less is one quotient less
module _ (n : ℤ) (d : ℕ) (h : 0 < d) (k : d ∣ nat_abs n) where
  whole : pos 0 <ℤ pos d
  whole = record { lt = lt→ltb 0 d h }

  pub floor-exact : floor_div n d *ℤ pos d ≡ n
  floor-exact = divides-floor n (pos d) whole k

  pub floor-neg : floor_div (neg_ℤ n) d ≡ neg_ℤ (floor_div n d)
  floor-neg =
      let q = floor_div n d in let e = floor-exact in
      exact-unique whole (divides-floor (neg_ℤ n) (pos d) whole (subst (λ (m : ℕ). d ∣ m) (sym (nat_abs-neg n)) k))
      (lia-eq (q ∷ n ∷ pos d ∷ []) (eq e ∷ []) (search lin depth 30) (omega arith))

  pub floor-less : floor_div (n -ℤ pos 1) d ≡ floor_div n d -ℤ pos 1
  floor-less =
      let q = floor_div n d in let e = floor-exact in
      floor-unique whole (floor_z-is (n -ℤ pos 1) whole)
      (record {
        low = lia-le (q ∷ n ∷ pos d ∷ []) (eq e ∷ lt whole ∷ []) (search lin depth 30) (omega arith);
        high = lia-lt (q ∷ n ∷ pos d ∷ []) (eq e ∷ []) (search lin depth 30) (omega arith);
      })
