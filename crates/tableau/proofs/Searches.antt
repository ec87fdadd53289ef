-- The searches and the number test: how they go on, what they tell; and that an exchange keeps the rows' shape. Assumes nothing.
use mathlib.Core.Path.{◌≡◌, refl, sym, ap, ◌∙◌, subst}
use mathlib.Core.List.{List, [], ◌∷◌, map}
use mathlib.Core.Bool.{Bool, true, false, cond, ◌&&◌}
use Prim.Native.Nat.{ℕ, zero, suc, ◌+◌, ◌-◌, ◌^◌, ◌≤◌, ◌<◌, zero-le, suc-le-suc}
use native.Mathlib.Nat.{not-suc-le-zero, le_of_suc-le-suc}
use native.Mathlib.Numerals.{add-one}
use native.Mathlib.Omega.{arith}
use borrow.Author.Tests.{ltb-true, ltb-false, le-leb, lt-leb, leb-true, leb-false}
use lib.Dec.{leb, ltb, eqb, T}
use lib.ListN.{length, get_or, set, drop, drop_of_length-le, length-set, length-map}
use lib.Seq.{drop-cons, get_or-drop}
use lib.IntN.{ℤ, pos, nat_abs, ◌-ℤ◌}
use lib.Signed.{lt_z, ◌<ℤ◌}
use lib.Bits.{bit_or, or_lt, or_add_and, and_le_l, and_le_r}
use Rattle.std.specs.List.{list_all}
use Rattle.integers.specs.Size.{bound}
use Rattle.model.specs.Sets.{is_zero}
use Rattle.tableau.specs.Rows.{entry, den, Small, Line, Whole, combine_rows, replace_row, rebuild_row, solve_row, exchange_rows, DivisorAt, ReadyAt, first, small_at, narrow_rows_at, narrow_row_at, violated_at, violated, helps_by, helps_at, helping}
use Rattle.model.proofs.Values.{is_zero-no}
use Rattle.tableau.proofs.Lines.{combine-line, combine-den, clear-line, reduce-sound, set-den, solve-sound_at, divisor-of, combine-small_at, set-small, within-minus}

-- ---- the first number of which p holds
first_more : (n v : ℕ) → v < n → n - v ≡ suc (n - (v + 1))
first_more n v h = omega arith

pub first-start : (p : ℕ → Bool) (n : ℕ) → first p (n - 0) 0 ≡ first p n 0
first-start p n = ap (λ k. first p k 0) (omega arith)

pub first-yes : (p : ℕ → Bool) (n v : ℕ) → v < n → p v ≡ true → v ≡ first p (n - v) v
unfolding first
first-yes p n v h e = rw (first_more n v h) (sym (ap (λ b. cond b v (first p (n - (v + 1)) (suc v))) e))

pub first-no : (p : ℕ → Bool) (n v : ℕ) → v < n → p v ≡ false → first p (n - (v + 1)) (v + 1) ≡ first p (n - v) v
unfolding first
first-no p n v h e = rw (first_more n v h) (ap (first p (n - (v + 1))) (add-one v) ∙ sym (ap (λ b. cond b v (first p (n - (v + 1)) (suc v))) e))

pub first-end : (p : ℕ → Bool) (n v : ℕ) → n ≤ v → v ≡ first p (n - v) v
unfolding first
first-end p n v h = let e : n - v ≡ 0 = omega arith in sym (ap (λ k. first p k v) e)

-- ---- the number test of two numbers at once, by their bits
or_left : (a b : ℕ) → a ≤ bit_or a b
or_left a b = omega (arith, or_add_and a b, and_le_r a b)

or_right : (a b : ℕ) → b ≤ bit_or a b
or_right a b = omega (arith, or_add_and a b, and_le_l a b)

pub or-small : (a b : ℕ) → leb (bit_or a b) (bound 64) ≡ cond (leb a (bound 64)) (leb b (bound 64)) false
or-small a b = both (leb a (bound 64)) (leb b (bound 64)) refl refl
  where
    both : (p q : Bool) → leb a (bound 64) ≡ p → leb b (bound 64) ≡ q → leb (bit_or a b) (bound 64) ≡ cond p q false
    both true true e f =
        let h = leb-true a (bound 64) e in let k = leb-true b (bound 64) f in
        let l : bit_or a b < 2 ^ 31 = or_lt 31 a b (omega arith) (omega arith) in le-leb (bit_or a b) (bound 64) (omega arith)
    both true false e f = let k = leb-false b (bound 64) f in lt-leb (bit_or a b) (bound 64) (omega (arith, or_right a b))
    both false q e f = let h = leb-false a (bound 64) e in lt-leb (bit_or a b) (bound 64) (omega (arith, or_left a b))

-- ---- of a row, and of the rows with an entry in a column
module _ (m : ℕ) where
  pub small-step : (l : List ℤ) (i : ℕ) (b : Bool) → i < length l → leb (nat_abs (get_or l i (pos 0))) m ≡ b → small_at m (drop i l) ≡ cond b (small_at m (drop (i + 1) l)) false
  unfolding small_at
  small-step l i b h e = rw (add-one, drop-cons l i (pos 0)) (ap (λ b. cond b (small_at m (drop (suc i) l)) false) e)

  pub narrow_step : (j : ℕ) (t : List (List ℤ)) (k : ℕ) (b : Bool) → k < length t → narrow_row_at m j (get_or t k []) ≡ b → narrow_rows_at m j (drop k t) ≡ cond b (narrow_rows_at m j (drop (k + 1) t)) false
  unfolding narrow_rows_at
  narrow_step j t k b h e = rw (add-one, drop-cons t k []) (ap (λ b. cond b (narrow_rows_at m j (drop (suc k) t)) false) e)

  pub narrow-end : (j : ℕ) (t : List (List ℤ)) (k : ℕ) → length t ≤ k → true ≡ narrow_rows_at m j (drop k t)
  unfolding narrow_rows_at
  narrow-end j t k h = sym (ap (narrow_rows_at m j) (drop_of_length-le t {i = k} h))

  and-cond : (b c : Bool) → (b && c) ≡ cond b c false
  and-cond true c = refl
  and-cond false c = refl

  pub narrow-all : (j : ℕ) (t : List (List ℤ)) → list_all (narrow_row_at m j) t ≡ narrow_rows_at m j t
  unfolding narrow_rows_at
  narrow-all j [] = refl
  narrow-all j (r ∷ t) = and-cond (narrow_row_at m j r) (list_all (narrow_row_at m j) t) ∙ ap (λ b. cond (narrow_row_at m j r) b false) (narrow-all j t)

-- a number more, with those before it as their bits
pub small-more : (l : List ℤ) (i a : ℕ) → i < length l → cond (leb (bit_or a (nat_abs (get_or l i (pos 0)))) (bound 64)) (small_at (bound 64) (drop (i + 1) l)) false ≡ cond (leb a (bound 64)) (small_at (bound 64) (drop i l)) false
small-more l i a h =
    ap (λ b. cond b (small_at (bound 64) (drop (i + 1) l)) false) (or-small a (nat_abs (get_or l i (pos 0))))
    ∙ nested (leb a (bound 64)) (leb (nat_abs (get_or l i (pos 0))) (bound 64)) (small_at (bound 64) (drop (i + 1) l))
    ∙ ap (λ b. cond (leb a (bound 64)) b false) (sym (small-step (bound 64) l i (leb (nat_abs (get_or l i (pos 0))) (bound 64)) h refl))
  where
    nested : (p q s : Bool) → cond (cond p q false) s false ≡ cond p (cond q s false) false
    nested true q s = refl
    nested false q s = refl

pub cond-self : (b : Bool) → b ≡ cond b true false
cond-self true = refl
cond-self false = refl

-- what the number test tells
cond-true : (b : Bool) (c : Bool) → cond b c false ≡ true → (b ≡ true) × (c ≡ true)
cond-true true c h = (refl, h)
cond-true false c h = absurd (subst T (sym h) tt)

module _ {m : ℕ} where
  pub small-within : (l : List ℤ) → small_at m l ≡ true → Small m l
  unfolding small_at
  small-within [] h k = record { size = zero-le }
  small-within (x ∷ l) h zero = record { size = leb-true _ _ (cond-true (leb (nat_abs x) m) (small_at m l) h).0 }
  small-within (x ∷ l) h (suc k) = small-within l (cond-true (leb (nat_abs x) m) (small_at m l) h).1 k

zeros-small : (n : ℕ) (l : List ℤ) → ((k : ℕ) → get_or l k (pos 0) ≡ pos 0) → small_at n l ≡ true
unfolding small_at
zeros-small n [] h = refl
zeros-small n (x ∷ l) h = ap (λ z. cond (leb (nat_abs z) n) (small_at n l) false) (h 0) ∙ ap (λ b. cond b (small_at n l) false) (le-leb 0 n zero-le) ∙ zeros-small n l (λ k. h (suc k))

-- the numbers past the n-th are 0
pub small-end : (m n i : ℕ) (l : List ℤ) → Line n l → n ≤ i → true ≡ small_at m (drop i l)
small-end m n i l h k = sym (zeros-small m (drop i l) (λ j. get_or-drop i l j (pos 0) ∙ h.blank (i + j) (omega arith)))

-- ---- what a search that found something tells
found : (p : ℕ → Bool) (n v : ℕ) (b : Bool) → p v ≡ b → (first p n (suc v) < suc v + n → p (first p n (suc v)) ≡ true) → cond b v (first p n (suc v)) < v + suc n → p (cond b v (first p n (suc v))) ≡ true
found p n v true e f h = e
found p n v false e f h = f (omega arith)

pub first_holds : (p : ℕ → Bool) (n v : ℕ) → first p n v < v + n → p (first p n v) ≡ true
unfolding first
first_holds p zero v h = absurd (omega arith)
first_holds p (suc n) v h = found p n v (p v) refl (first_holds p n (suc v)) h

cond-low : (b c : Bool) → cond b c false ≡ true → b ≡ true
cond-low b c h = (cond-true b c h).0

pub violated-row : (rows : List (List ℤ)) (place kinds : List ℕ) (v : ℕ) → violated_at rows place kinds v ≡ true → get_or place v 0 < 64
unfolding violated_at
violated-row rows place kinds v h = ltb-true (get_or place v 0) 64 (cond-low (ltb (get_or place v 0) 64) _ h)

cond-other : (b c : Bool) → cond b false c ≡ true → (b ≡ false) × (c ≡ true)
cond-other true c h = absurd (subst T (sym h) tt)
cond-other false c h = (refl, h)

cond-none : (b c : Bool) → c ≡ false → cond b c false ≡ false
cond-none true c h = h
cond-none false c h = refl

cond_both : (b c d : Bool) → c ≡ false → d ≡ false → cond b c d ≡ false
cond_both true c d h k = h
cond_both false c d h k = k

helps-zero : (kind : ℕ) (c : ℤ) → helps_by kind c (pos 0) ≡ false
helps-zero kind c = cond_both (eqb kind 0) false _ refl (cond-none (eqb kind 1) _ (cond_both (lt_z c (pos 0)) _ _ refl refl))

pub helping-column : (row : List ℤ) (place kinds : List ℕ) (w : ℕ) → helps_at row place kinds w ≡ true → (64 ≤ get_or place w 0) × (get_or row (get_or place w 0 - 64 + 2) (pos 0) ≡ pos 0 → ⊥)
unfolding helps_at
helping-column row place kinds w h =
    let k = cond-other (ltb (get_or place w 0) 64) _ h in (
      ltb-false (get_or place w 0) 64 k.0,
      λ e. let z : true ≡ false = sym k.1 ∙ ap (helps_by (get_or kinds w 0) (get_or row 1 (pos 0))) e ∙ helps-zero (get_or kinds w 0) (get_or row 1 (pos 0)) in subst T z tt,
    )

-- the lowest violated row's variable, and the lowest helping column's
pub violated-found : (rows : List (List ℤ)) (place kinds : List ℕ) → violated rows place kinds < length place → get_or place (violated rows place kinds) 0 < 64
unfolding violated
violated-found rows place kinds h = violated-row rows place kinds _ (first_holds (violated_at rows place kinds) (length place) 0 (omega arith))

pub helping-found : (row : List ℤ) (place kinds : List ℕ) → helping row place kinds < length place → (64 ≤ get_or place (helping row place kinds) 0) × (get_or row (get_or place (helping row place kinds) 0 - 64 + 2) (pos 0) ≡ pos 0 → ⊥)
unfolding helping
helping-found row place kinds h = helping-column row place kinds _ (first_holds (helps_at row place kinds) (length place) 0 (omega arith))

pub column-spot : (row : List ℤ) (place kinds : List ℕ) (w : ℕ) → w ≡ helping row place kinds → w < length place → (64 ≤ get_or place w 0) × (get_or row (get_or place w 0 - 64 + 2) (pos 0) ≡ pos 0 → ⊥)
column-spot row place kinds w e h =
    subst (λ n. (64 ≤ get_or place n 0) × (get_or row (get_or place n 0 - 64 + 2) (pos 0) ≡ pos 0 → ⊥)) (sym e) (helping-found row place kinds (subst (λ n. n < length place) e h))

-- ---- what the number test tells of a row, and where an entry stands
pub narrow_at : (m j : ℕ) (t : List (List ℤ)) → narrow_rows_at m j t ≡ true → (k : ℕ) → k < length t → narrow_row_at m j (get_or t k []) ≡ true
unfolding narrow_rows_at
narrow_at m j [] h k l = absurd (not-suc-le-zero l)
narrow_at m j (r ∷ t) h zero l = (cond-true (narrow_row_at m j r) (narrow_rows_at m j t) h).0
narrow_at m j (r ∷ t) h (suc k) l = narrow_at m j t (cond-true (narrow_row_at m j r) (narrow_rows_at m j t) h).1 k (le_of_suc-le-suc l)

pub narrow-small : {m : ℕ} (j : ℕ) (r : List ℤ) → narrow_row_at m j r ≡ true → (entry r j ≡ pos 0 → ⊥) → Small m r
narrow-small {m} j r h f = small-within r (sym (ap (λ b. cond b true (small_at m r)) (is_zero-no (entry r j) f)) ∙ h)

-- an entry that is not 0 stands among the first n numbers
pub inside : (n : ℕ) (r : List ℤ) (j : ℕ) → Line n r → (entry r j ≡ pos 0 → ⊥) → j + 2 < n
inside n r j f e = at (ltb (j + 2) n) refl
  where
    at : (b : Bool) → ltb (j + 2) n ≡ b → j + 2 < n
    at true h = ltb-true (j + 2) n h
    at false h = absurd (e (f.blank (j + 2) (ltb-false (j + 2) n h)))

-- ---- an exchange keeps rows whole
set-map-all : (P : List ℤ → Type 0) (f : List ℤ → List ℤ) (t : List (List ℤ)) (i : ℕ) (p : List ℤ) → P p → ((k : ℕ) → k < length t → P (f (get_or t k []))) → (k : ℕ) → k < length (set (map f t) i p) → P (get_or (set (map f t) i p) k [])
set-map-all P f [] i p hp h k l = absurd (not-suc-le-zero l)
set-map-all P f (r ∷ t) zero p hp h zero l = hp
set-map-all P f (r ∷ t) zero p hp h (suc k) l = map-all P f t (λ k l. h (suc k) (suc-le-suc l)) k (le_of_suc-le-suc l)
  where
    map-all : (P : List ℤ → Type 0) (f : List ℤ → List ℤ) (t : List (List ℤ)) → ((k : ℕ) → k < length t → P (f (get_or t k []))) → (k : ℕ) → k < length (map f t) → P (get_or (map f t) k [])
    map-all P f [] h k l = absurd (not-suc-le-zero l)
    map-all P f (r ∷ t) h zero l = h 0 (omega arith)
    map-all P f (r ∷ t) h (suc k) l = map-all P f t (λ k l. h (suc k) (suc-le-suc l)) k (le_of_suc-le-suc l)
set-map-all P f (r ∷ t) (suc i) p hp h zero l = h 0 (omega arith)
set-map-all P f (r ∷ t) (suc i) p hp h (suc k) l = set-map-all P f t i p hp (λ k l. h (suc k) (suc-le-suc l)) k (le_of_suc-le-suc l)

module _ {W : ℕ} (big : 2 ≤ W) (n j : ℕ) (m : ℤ) (q r : List ℤ) (h : Whole n r) (d : DivisorAt (bound W) n m q) where
  replace-whole : Small (bound W) r → Whole n (replace_row r j m q)
  unfolding replace_row
  replace-whole w =
      let l = set r (j + 2) (pos 0) in
      let b = pos 0 -ℤ entry r j in
      let f = clear-line n r (j + 2) h.line in
      let s = reduce-sound n (2 ^ (W - 1) - 1) (combine_rows m b l q)
      (record {
        line = combine-line n m b l q f d.line;
        small = combine-small_at n m b l q f d.line W big d.near (within-minus (w (j + 2))) (set-small (bound W) r (j + 2) (pos 0) (record { size = zero-le }) w) d.small;
        den = combine-den n m b l q f d.line d.over (subst (λ z. pos 0 <ℤ z) (sym (set-den r j (pos 0))) h.over) d.none;
      }) in
      record { line = s.line; over = s.den }

  pub rebuild-whole_at : ((entry r j ≡ pos 0 → ⊥) → Small (bound W) r) → Whole n (rebuild_row j m q r)
  unfolding rebuild_row
  rebuild-whole_at w = at (is_zero (entry r j)) refl
    where
      at : (b : Bool) → is_zero (entry r j) ≡ b → Whole n (cond b r (replace_row r j m q))
      at true e = h
      at false e = replace-whole (w (λ z. subst T (sym (ap is_zero z) ∙ e) tt))

pub rebuild-whole : (n j : ℕ) (m : ℤ) (q r : List ℤ) → Whole n r → DivisorAt (bound 64) n m q → ((entry r j ≡ pos 0 → ⊥) → Small (bound 64) r) → Whole n (rebuild_row j m q r)
rebuild-whole n j m q r h d w = rebuild-whole_at {W = 64} (omega arith) n j m q r h d w

pub exchange-whole : {W : ℕ} → 2 ≤ W → (n : ℕ) (t : List (List ℤ)) (i j : ℕ) → ReadyAt (bound W) n t i j → ((k : ℕ) → k < length t → Whole n (get_or t k [])) → (k : ℕ) → k < length (exchange_rows t i j) → Whole n (get_or (exchange_rows t i j) k [])
unfolding exchange_rows
exchange-whole {W} big n t i j r h =
    let f = r.rows i r.row in
    let s = solve-sound_at (bound W) n (get_or t i []) j r.col f.line (f.small r.cross) r.cross in
    let p = solve_row (get_or t i []) j in
    set-map-all (Whole n) (rebuild_row j (den p) (set p 0 (pos 0))) t i p (record { line = s.line; over = s.den })
    (λ k l. rebuild-whole_at big n j (den p) (set p 0 (pos 0)) (get_or t k []) (h k l) (divisor-of n p s) (r.rows k l).small)

pub exchange-length : (t : List (List ℤ)) (i j : ℕ) → length (exchange_rows t i j) ≡ length t
unfolding exchange_rows
exchange-length t i j = simp (length-set, length-map)
