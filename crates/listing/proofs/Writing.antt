-- Laws of text written into a buffer, and of decimal digits.
use mathlib.Core.Path.{◌≡◌, refl, ap, sym, subst, ◌∙◌}
use mathlib.Core.Bool.{Bool, true, false, cond}
use mathlib.Core.List.{List, [], ◌∷◌, ◌++◌, append_assoc, append-nil}
use Prim.Native.Nat.{ℕ, zero, suc, ◌+◌, ◌-◌, ◌*◌, ◌/◌, ◌%◌, ◌^◌, ◌≤◌, ◌<◌}
use native.Mathlib.Numerals.{add-one}
use native.Mathlib.Nat.{add-zero, add_assoc, pow-suc}
use native.Mathlib.Omega.{arith}
use borrow.Rule.Slice.PartMut.{put_mid}
use lib.Dec.{ltb}
use borrow.Author.Tests.{lt-ltb, le-ltb}
use lib.IntN.{ℤ, pos, negsuc, nat_abs}
use lib.Signed.{◌<ℤ◌, ◌≤ℤ◌}
use Rattle.integers.specs.Size.{mag-negative, mag-nonneg}
use lib.ListN.{length, get_or, take, drop, set, length-append, length-drop, take-append-drop}
use lib.Seq.{length-take-le, take_at, drop-drop, set_split, drop-append-add, take-suc}
use Rattle.model.specs.Lists.{concat_map}
use Rattle.codec.specs.Bytes.{value_of, signed, signed_list}
use Rattle.listing.specs.Text.{digits, number}
use Rattle.listing.specs.Written.{put, Wrote, Writes, signed_in}

module _ (at : ℕ) (l m o : List ℕ) (h : at + length l ≤ length o) where
  head-long : length (take at o ++ l) ≡ at + length l
  head-long = simp length-append (rw (length-take-le at o (omega arith)))

  -- l, and then m behind it
  pub put-put : put (at + length l) m (put at l o) ≡ put at (l ++ m) o
  unfolding put
  put-put =
      let g : take at o ++ (l ++ drop (at + length l) o) ≡ (take at o ++ l) ++ drop (at + length l) o = sym (append_assoc (take at o) l (drop (at + length l) o)) in
      let t : take (at + length l) ((take at o ++ l) ++ drop (at + length l) o) ≡ take at o ++ l = take_at (take at o ++ l) (drop (at + length l) o) (at + length l) head-long in
      let d : drop (at + length l + length m) ((take at o ++ l) ++ drop (at + length l) o) ≡ drop (at + length (l ++ m)) o =
      ap (λ (n : ℕ). drop (n + length m) ((take at o ++ l) ++ drop (at + length l) o)) (sym head-long)
      ∙ drop-append-add (take at o ++ l) (drop (at + length l) o) (length m)
      ∙ drop-drop (length m) (at + length l) o
      ∙ ap (λ (n : ℕ). drop n o) (add_assoc at (length l) (length m) ∙ ap (λ (n : ℕ). at + n) (sym (length-append l m))) in
      rw (g, t, d) (simp append_assoc)

pub put-long : (at : ℕ) (l o : List ℕ) → at + length l ≤ length o → length (put at l o) ≡ length o
unfolding put
put-long at l o h = let t = length-take-le at o (omega arith) in let d = length-drop (at + length l) o in simp length-append (omega arith)

-- nothing, one byte, and one list behind another
pub wrote_none : (o : List ℕ) (at : ℕ) → at ≤ length o → Wrote [] o at at o
unfolding put
wrote_none o at h = record { end_is = sym (add-zero at); room = h; bytes = rw add-zero (sym (take-append-drop at o)) }

pub wrote_one : (o : List ℕ) (at x : ℕ) → at < length o → Wrote (x ∷ []) o at (at + 1) (set o at x)
unfolding put
wrote_one o at x h = record { end_is = refl; room = omega arith; bytes = set_split o at x h ∙ rw add-one }

pub wrote-length : {l o o' : List ℕ} {at e : ℕ} → Wrote l o at e o' → length o' ≡ length o
wrote-length {l} {o} {o'} {at} {e} w = ap length w.bytes ∙ put-long at l o (let r = w.room in let i = w.end_is in omega arith)

pub wrote-more : {l m o o₁ o₂ : List ℕ} {at a e : ℕ} → Wrote l o at a o₁ → Wrote m o₁ a e o₂ → Wrote (l ++ m) o at e o₂
wrote-more {l} {m} {o} {o₁} {o₂} {at} {a} {e} p q =
    let h : at + length l ≤ length o = let r = p.room in let i = p.end_is in omega arith in
    record {
      end_is = q.end_is ∙ rw (p.end_is, length-append l m) (add_assoc at (length l) (length m));
      room = let r = q.room in let i = wrote-length p in omega arith;
      bytes = q.bytes ∙ rw (p.end_is, p.bytes) (put-put at l m o h);
    }

pub writes_more : {k j : ℕ} {l m o o₁ o₂ : List ℕ} {at a e : ℕ} → Writes k l o at a o₁ → Writes j m o₁ a e o₂ → Writes (k + j) (l ++ m) o at e o₂
writes_more p q = record { short = let a = p.short in let b = q.short in omega arith; wrote = wrote-more p.wrote q.wrote }

pub writes_one : (o : List ℕ) (at x : ℕ) → at < length o → Writes 1 (x ∷ []) o at (at + 1) (set o at x)
writes_one o at x h = record { short = omega arith; wrote = wrote_one o at x h }

pub writes-none : (o : List ℕ) (at : ℕ) → at ≤ length o → Writes 0 [] o at at o
writes-none o at h = record { short = omega arith; wrote = wrote_none o at h }

pub writes-same : {k j : ℕ} {l m o o' : List ℕ} {at e : ℕ} → k ≤ j → l ≡ m → Writes k l o at e o' → Writes j m o at e o'
writes-same {k} {j} {l} {m} {o} {o'} {at} {e} h q w =
    record { short = let s = w.short in omega arith; wrote = subst (λ (x : List ℕ). Wrote x o at e o') q w.wrote }

-- a copy into the part from `at` up to e, which holds m then
pub writes_part : (at e : ℕ) (l o m : List ℕ) → m ≡ l → e ≡ at + length l → e ≤ length o → Writes (length l) l o at e (put_mid at (e - at) o m)
unfolding put
writes_part at e l o m p q h =
    let k : e - at ≡ length l = omega arith in
    record {
      short = omega arith;
      wrote = record { end_is = q; room = h; bytes = rw (p, k) (ap (λ (t : List ℕ). take at o ++ (l ++ t)) (drop-drop (length l) at o)) };
    }

-- ---- digits

-- one step of `digits`: the last digit, or the digits before it and then it
abbrev ten : ℕ → List ℕ → List ℕ → Bool → List ℕ
ten n l r b = elim b [ true ↦ (48 + n) ∷ l | false ↦ r ]

pub digits-behind : (f n : ℕ) (l : List ℕ) → digits f n l ≡ digits f n [] ++ l
digits-behind zero n l = refl
digits-behind (suc f) n l = by (ltb n 10) (digits-behind f (n / 10) ((48 + n % 10) ∷ l)) (digits-behind f (n / 10) ((48 + n % 10) ∷ []))
  where
    by : (b : Bool) → digits f (n / 10) ((48 + n % 10) ∷ l) ≡ digits f (n / 10) [] ++ ((48 + n % 10) ∷ l) → digits f (n / 10) ((48 + n % 10) ∷ []) ≡ digits f (n / 10) [] ++ ((48 + n % 10) ∷ [])
        → ten n l (digits f (n / 10) ((48 + n % 10) ∷ l)) b ≡ ten n [] (digits f (n / 10) ((48 + n % 10) ∷ [])) b ++ l
    by true p q = refl
    by false p q = p ∙ sym (append_assoc (digits f (n / 10) []) ((48 + n % 10) ∷ []) l) ∙ ap (λ (x : List ℕ). x ++ l) (sym q)

-- at most f digits
pub digits_long : (f n : ℕ) (l : List ℕ) → length (digits f n l) ≤ f + length l
digits_long zero n l = omega arith
digits_long (suc f) n l = by (ltb n 10) (digits_long f (n / 10) ((48 + n % 10) ∷ l))
  where
    by : (b : Bool) → length (digits f (n / 10) ((48 + n % 10) ∷ l)) ≤ f + suc (length l) → length (ten n l (digits f (n / 10) ((48 + n % 10) ∷ l)) b) ≤ suc f + length l
    by true h = omega arith
    by false h = omega arith

-- one digit more changes nothing where there are enough
pub digits-enough : (f n : ℕ) (l : List ℕ) → n < 10 ^ suc f → digits (suc f) n l ≡ digits (suc (suc f)) n l
digits-enough zero n l h = ap (ten n l (digits 0 (n / 10) ((48 + n % 10) ∷ l))) (lt-ltb n 10 h) ∙ ap (ten n l (digits 1 (n / 10) ((48 + n % 10) ∷ l))) (sym (lt-ltb n 10 h))
digits-enough (suc f) n l h =
    let d : n / 10 < 10 ^ suc f = omega (arith, simp pow-suc at h, pow-suc 10 f) in
    ap (λ (x : List ℕ). ten n l x (ltb n 10)) (digits-enough f (n / 10) ((48 + n % 10) ∷ l) d)

pub digits-small : (n : ℕ) → n < 10 → digits 20 n [] ≡ (48 + n) ∷ []
digits-small n h = ap (ten n [] (digits 19 (n / 10) ((48 + n % 10) ∷ []))) (lt-ltb n 10 h)

-- the last digit behind the others
pub digits-next : (n : ℕ) → 10 ≤ n → n < 2 ^ 64 → digits 20 n [] ≡ digits 20 (n / 10) [] ++ ((48 + n % 10) ∷ [])
digits-next n h k =
    ap (ten n [] (digits 19 (n / 10) ((48 + n % 10) ∷ []))) (le-ltb n 10 h)
    ∙ digits-enough 18 (n / 10) ((48 + n % 10) ∷ []) (omega arith)
    ∙ digits-behind 20 (n / 10) ((48 + n % 10) ∷ [])

-- a tenth of a number of 64 bits has at most 19 digits
pub digits-room : (n : ℕ) → n < 2 ^ 64 → length (digits 20 (n / 10) []) ≤ 19
digits-room n h =
    let e : length (digits 19 (n / 10) []) ≡ length (digits 20 (n / 10) []) = ap length (digits-enough 18 (n / 10) [] (omega arith)) in
    omega (arith, e, digits_long 19 (n / 10) [])

-- ---- numbers

pub number-low : (size v : ℕ) → 2 * v < size → number (pos v) ≡ number (signed_in size v)
number-low size v h = ap (λ (b : Bool). number (cond b (pos v) (negsuc (size - suc v)))) (sym (lt-ltb (2 * v) size h))

pub number-high : (size v : ℕ) → size ≤ 2 * v → v < size → (32 ∷ 45 ∷ digits 20 (size - v) []) ≡ number (signed_in size v)
number-high size v h k =
    let e : size - v ≡ suc (size - suc v) = omega arith in
    ap (λ (x : ℕ). 32 ∷ 45 ∷ digits 20 x []) e ∙ ap (λ (b : Bool). number (cond b (pos v) (negsuc (size - suc v)))) (sym (le-ltb (2 * v) size h))

-- ---- lists of numbers

pub concat-append : {A : Type 0} (f : A → List ℕ) (a b : List A) → concat_map f (a ++ b) ≡ concat_map f a ++ concat_map f b
concat-append f [] b = refl
concat-append f (x ∷ a) b = ap (λ (l : List ℕ). f x ++ l) (concat-append f a b) ∙ sym (append_assoc (f x) (concat_map f a) (concat_map f b))

pub signed-more : (i : ℕ) (l : List ℕ) → signed_list (i + 1) l ≡ signed_list i l ++ (signed 2 (value_of (take 2 (drop (2 * i) l))) ∷ [])
signed-more zero l = refl
signed-more (suc i) l =
    let a : suc i + 1 ≡ suc (i + 1) = omega arith in
    let b : 2 + 2 * i ≡ 2 * suc i = omega arith in
    ap (λ (k : ℕ). signed_list k l) a
    ∙ ap (λ (r : List ℤ). signed 2 (value_of (take 2 l)) ∷ r)
    (signed-more i (drop 2 l) ∙ ap (λ (x : List ℕ). signed_list i (drop 2 l) ++ (signed 2 (value_of (take 2 x)) ∷ [])) (drop-drop (2 * i) 2 l ∙ ap (λ (k : ℕ). drop k l) b))

-- one number more, after i of them
pub numbers_more : (t o o₁ o₂ : List ℕ) (p i v at k e : ℕ) → v ≡ value_of (take 2 (drop (p + 2 * i) t))
    → Writes (22 * i) (concat_map number (signed_list i (drop p t))) o at k o₁ → Writes 22 (number (signed_in 65536 v)) o₁ k e o₂
    → Writes (22 * (i + 1)) (concat_map number (signed_list (i + 1) (drop p t))) o at e o₂
numbers_more t o o₁ o₂ p i v at k e q w x =
    writes-same (omega arith)
    (ap (λ (l : List ℕ). concat_map number (signed_list i (drop p t)) ++ l)
    (sym (append-nil (number (signed 2 v))) ∙ ap (λ (u : ℕ). concat_map number (signed 2 u ∷ [])) (q ∙ ap (λ (l : List ℕ). value_of (take 2 l)) (sym (drop-drop (2 * i) p t))))
    ∙ sym (concat-append number (signed_list i (drop p t)) (signed 2 (value_of (take 2 (drop (2 * i) (drop p t)))) ∷ []))
    ∙ ap (concat_map number) (sym (signed-more i (drop p t))))
    (writes_more w x)

-- the first n of k numbers
pub signed-take : (n k : ℕ) (l : List ℕ) → n ≤ k → take n (signed_list k l) ≡ signed_list n l
signed-take zero k l h = refl
signed-take (suc n) zero l h = absurd (omega arith)
signed-take (suc n) (suc k) l h = ap (λ (r : List ℤ). signed 2 (value_of (take 2 l)) ∷ r) (signed-take n k (drop 2 l) (omega arith))

-- ---- signed numbers

pub integer-below : (z : ℤ) (m : ℕ) → m ≡ nat_abs z → z <ℤ pos 0 → (32 ∷ 45 ∷ digits 20 m []) ≡ number z
integer-below z m e h = ap (λ (k : ℕ). 32 ∷ 45 ∷ digits 20 k []) (e ∙ ap nat_abs (mag-negative h)) ∙ ap number (sym (mag-negative h))

pub integer-from : (z : ℤ) (m : ℕ) → m ≡ nat_abs z → pos 0 ≤ℤ z → number (pos m) ≡ number z
integer-from z m e h = ap (λ (k : ℕ). number (pos k)) (e ∙ ap nat_abs (mag-nonneg h)) ∙ ap number (sym (mag-nonneg h))

-- one coordinate more
pub integers-more : (p : List ℤ) (o o₁ o₂ : List ℕ) (i at k e : ℕ) (z : ℤ) → i < length p → z ≡ get_or p i (pos 0)
    → Writes (22 * i) (concat_map number (take i p)) o at k o₁ → Writes 22 (number z) o₁ k e o₂ → Writes (22 * (i + 1)) (concat_map number (take (i + 1) p)) o at e o₂
integers-more p o o₁ o₂ i at k e z h q w x =
    let t : take (i + 1) p ≡ take i p ++ (get_or p i (pos 0) ∷ []) = rw add-one (take-suc p i (pos 0) h) in
    writes-same (omega arith)
    (ap (λ (l : List ℕ). concat_map number (take i p) ++ l) (sym (append-nil (number z)) ∙ ap (λ (y : ℤ). concat_map number (y ∷ [])) q)
    ∙ sym (concat-append number (take i p) (get_or p i (pos 0) ∷ []))
    ∙ ap (concat_map number) (sym t))
    (writes_more w x)
