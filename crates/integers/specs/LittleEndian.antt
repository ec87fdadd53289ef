-- Numbers in bytes, little-endian, signed ones in two's complement (document 01, "Bytes of a set"), at any number of bytes, with the round trips both
-- ways, as lists and as a table's bytes from a place on. Assumes nothing.
use Rattle.std.specs.Prelude.{◌≡◌, refl, Bool, true, false, cond, List, [], ◌∷◌, ◌++◌, ℕ, zero, suc, ◌+◌, ◌-◌, ◌*◌, ◌/◌, ◌%◌, ◌^◌, ◌≤◌, ◌<◌, ltb, ℤ, pos, negsuc, ◌-ℤ◌, length, take, drop, get_or, set}
use Rattle.std.proofs.Common.{sym, ap, ap₂, ◌∙◌, subst, append_assoc, pow-suc, add-one, arith, ltb-true, ltb-false, length-append, length-take, length-drop, take-append-drop, drop-cons, drop-drop, take-add, length-take-le, take_at, drop_at}
use Rattle.std.proofs.lemmas.List.{set_split}
use Rattle.std.specs.Int.Signed.{mag}
use Rattle.std.specs.Int.{Width}
use mir.Val.{SFits, hbits}
use Rattle.integers.specs.Lin.{lin, lia-eq}

-- ---- the definitions
-- n in k bytes
abbrev pub bytes_of : ℕ → ℕ → List ℕ
bytes_of zero n = []
bytes_of (suc k) n = n % 256 ∷ bytes_of k (n / 256)

abbrev pub value_of : List ℕ → ℕ
value_of [] = 0
value_of (b ∷ bs) = b + 256 * value_of bs

-- two's complement at k bytes
abbrev pub unsigned : ℕ → ℤ → ℕ
unsigned k (pos n) = n
unsigned k (negsuc n) = 256 ^ k - suc n

abbrev pub signed : ℕ → ℕ → ℤ
signed k n = cond (ltb (2 * n) (256 ^ k)) (pos n) (negsuc (256 ^ k - suc n))

abbrev pub signed_bytes : ℕ → ℤ → List ℕ
signed_bytes k z = bytes_of k (unsigned k z)

-- the table o with l from place p on
abbrev pub put : ℕ → List ℕ → List ℕ → List ℕ
put p l o = take p o ++ (l ++ drop (p + length l) o)

-- every number of the list is a byte
abbrev pub Bytes : List ℕ → Type 0
Bytes [] = Unit {0}
Bytes (b ∷ s) = (b < 256) × Bytes s

-- ---- unsigned numbers
pub length-bytes : (k n : ℕ) → length (bytes_of k n) ≡ k
length-bytes zero n = refl
length-bytes (suc k) n = ap suc (length-bytes k (n / 256))

pub value-bytes : (k n : ℕ) → n < 256 ^ k → value_of (bytes_of k n) ≡ n
value-bytes zero n h = omega arith
value-bytes (suc k) n h =
    let l : n < 256 ^ k * 256 = subst (λ (m : ℕ). n < m) (pow-suc 256 k) h in
    let e = value-bytes k (n / 256) (below (256 ^ k) l) in omega arith
  where
    below : (m : ℕ) → n < m * 256 → n / 256 < m
    below m h = omega arith

pub value-small : (s : List ℕ) → Bytes s → value_of s < 256 ^ length s
value-small [] p = omega arith
value-small (b ∷ s) p = let h = p.0 in subst (λ (m : ℕ). b + 256 * value_of s < m) (sym (pow-suc 256 (length s))) (below (256 ^ length s) (value-small s p.1))
  where
    below : (m : ℕ) → value_of s < m → b + 256 * value_of s < m * 256
    below m l = let h = p.0 in omega arith

pub bytes-value : (s : List ℕ) → Bytes s → bytes_of (length s) (value_of s) ≡ s
bytes-value [] p = refl
bytes-value (b ∷ s) p =
    let h = p.0 in let r : (b + 256 * value_of s) % 256 ≡ b = omega arith in let q : (b + 256 * value_of s) / 256 ≡ value_of s = omega arith in
    ap₂ (λ (x m : ℕ). x ∷ bytes_of (length s) m) r q ∙ ap (λ (l : List ℕ). b ∷ l) (bytes-value s p.1)

-- ---- signed numbers: k bytes hold those with `mag z < H`, where H is half of 256 ^ k
pub signed-ind : (k : ℕ) (P : ℤ → Type 0) (v : ℕ) → (2 * v < 256 ^ k → P (pos v)) → (256 ^ k ≤ 2 * v → P (negsuc (256 ^ k - suc v))) → P (signed k v)
signed-ind k P v f g = go (ltb (2 * v) (256 ^ k)) refl
  where
    go : (b : Bool) → ltb (2 * v) (256 ^ k) ≡ b → P (cond b (pos v) (negsuc (256 ^ k - suc v)))
    go true e = f (ltb-true (2 * v) (256 ^ k) e)
    go false e = g (ltb-false (2 * v) (256 ^ k) e)

pub signed_low : (k v : ℕ) → 2 * v < 256 ^ k → signed k v ≡ pos v
signed_low k v h = signed-ind k (λ (z : ℤ). z ≡ pos v) v (λ l. refl) (λ l. absurd (clash (256 ^ k) h l))
  where
    clash : (W : ℕ) → 2 * v < W → W ≤ 2 * v → ⊥
    clash W h l = omega arith

pub signed_high : (k v W : ℕ) → 256 ^ k ≡ W → W ≤ 2 * v → v < W → signed k v ≡ pos v -ℤ pos W
signed_high k v W e h u = signed-ind k (λ (z : ℤ). z ≡ pos v -ℤ pos W) v (λ l. absurd (clash (256 ^ k) e l)) (λ l. ap (λ (x : ℕ). negsuc (x - suc v)) e ∙ same)
  where
    clash : (x : ℕ) → x ≡ W → 2 * v < x → ⊥
    clash x e l = omega arith

    same : negsuc (W - suc v) ≡ pos v -ℤ pos W
    same = let m = W - suc v in lia-eq (pos v ∷ pos W ∷ pos m ∷ []) [] (search lin depth 30) (omega arith)

pub signed-mag : (k H v : ℕ) → 256 ^ k ≡ 2 * H → v < 256 ^ k → mag (signed k v) < H
signed-mag k H v e h = signed-ind k (λ (z : ℤ). mag z < H) v (low (256 ^ k) e) (high (256 ^ k) e h)
  where
    low : (W : ℕ) → W ≡ 2 * H → 2 * v < W → v < H
    low W e l = omega arith

    high : (W : ℕ) → W ≡ 2 * H → v < W → W ≤ 2 * v → W - suc v < H
    high W e h l = omega arith

pub signed-fits : (w : Width) (k v : ℕ) → 256 ^ k ≡ 2 * 2 ^ hbits w → v < 256 ^ k → SFits w (signed k v)
signed-fits w k v e h = record { sfits = signed-mag k (2 ^ hbits w) v e h }

pub unsigned_small : (k H : ℕ) → 256 ^ k ≡ 2 * H → (z : ℤ) → mag z < H → unsigned k z < 256 ^ k
unsigned_small k H e (pos n) h = omega arith
unsigned_small k H e (negsuc n) h = omega arith

pub unsigned_signed : (k v : ℕ) → v < 256 ^ k → unsigned k (signed k v) ≡ v
unsigned_signed k v h = signed-ind k (λ (z : ℤ). unsigned k z ≡ v) v (λ l. refl) (λ l. back (256 ^ k) h)
  where
    back : (W : ℕ) → v < W → W - suc (W - suc v) ≡ v
    back W h = omega arith

pub signed-unsigned : (k H : ℕ) → 256 ^ k ≡ 2 * H → (z : ℤ) → mag z < H → signed k (unsigned k z) ≡ z
signed-unsigned k H e (pos n) h = signed_low k n (omega arith)
signed-unsigned k H e (negsuc n) h = signed-ind k (λ (z : ℤ). z ≡ negsuc n) (256 ^ k - suc n) (λ l. absurd (clash (256 ^ k) e l)) (λ l. ap negsuc (back (256 ^ k) e))
  where
    clash : (W : ℕ) → W ≡ 2 * H → 2 * (W - suc n) < W → ⊥
    clash W e l = omega arith

    back : (W : ℕ) → W ≡ 2 * H → W - suc (W - suc n) ≡ n
    back W e = omega arith

pub signed-bytes : (k H : ℕ) → 256 ^ k ≡ 2 * H → (z : ℤ) → mag z < H → signed k (value_of (signed_bytes k z)) ≡ z
signed-bytes k H e z h = ap (signed k) (value-bytes k (unsigned k z) (unsigned_small k H e z h)) ∙ signed-unsigned k H e z h

-- ---- a number that is read byte by byte, or half by half
pub value-next : (k p : ℕ) (s : List ℕ) → p < length s → value_of (take (suc k) (drop p s)) ≡ get_or s p 0 + 256 * value_of (take k (drop (p + 1) s))
value-next k p s h = rw (add-one, drop-cons s p 0)

value-append : (s t : List ℕ) → value_of (s ++ t) ≡ value_of s + 256 ^ length s * value_of t
value-append [] t = omega arith
value-append (b ∷ s) t = let e = value-append s t in let f = pow-suc 256 (length s) in rw f (step (256 ^ length s) (value_of t) e)
  where
    step : (P v : ℕ) → value_of (s ++ t) ≡ value_of s + P * v → b + 256 * value_of (s ++ t) ≡ b + 256 * value_of s + P * 256 * v
    step P v e = rw e (omega arith)

-- the bytes of a number of two parts
pub bytes-parts : (m n a b : ℕ) → a < 256 ^ m → bytes_of (m + n) (a + 256 ^ m * b) ≡ bytes_of m a ++ bytes_of n b
bytes-parts zero n a b h = let z : 0 + n ≡ n = omega arith in let e : a + 256 ^ 0 * b ≡ b = omega arith in ap₂ bytes_of z e
bytes-parts (suc m) n a b h =
    let f = pow-suc 256 m in let l : a / 256 < 256 ^ m = below (256 ^ m) (subst (λ (W : ℕ). a < W) f h) in let z : suc m + n ≡ suc (m + n) = omega arith in
    ap₂ (λ (k W : ℕ). bytes_of k (a + W * b)) z f ∙ ap₂ (λ (x y : ℕ). x ∷ bytes_of (m + n) y) (low (256 ^ m)) (high (256 ^ m)) ∙ ap (λ (s : List ℕ). a % 256 ∷ s) (bytes-parts m n (a / 256) b l)
  where
    below : (P : ℕ) → a < P * 256 → a / 256 < P
    below P h = omega arith

    low : (P : ℕ) → (a + P * 256 * b) % 256 ≡ a % 256
    low P = let e : P * 256 * b ≡ 256 * (P * b) = omega arith in rw e (omega arith)

    high : (P : ℕ) → (a + P * 256 * b) / 256 ≡ a / 256 + P * b
    high P = let e : P * 256 * b ≡ 256 * (P * b) = omega arith in rw e (omega arith)

pub value-parts : (m n p : ℕ) (s : List ℕ) → p + m ≤ length s → value_of (take (m + n) (drop p s)) ≡ value_of (take m (drop p s)) + 256 ^ m * value_of (take n (drop (p + m) s))
value-parts m n p s h =
    let l : length (take m (drop p s)) ≡ m = length-take-le m (drop p s) (omega (arith, length-drop p s)) in
    ap value_of (take-add m n (drop p s)) ∙ value-append (take m (drop p s)) (take n (drop m (drop p s)))
    ∙ ap₂ (λ (j : ℕ) (t : List ℕ). value_of (take m (drop p s)) + 256 ^ j * value_of (take n t)) l (drop-drop m p s)

-- ---- a table that is written byte by byte, or part by part
pub put_one : (p b : ℕ) (o : List ℕ) → p < length o → set o p b ≡ put p (b ∷ []) o
put_one p b o h = rw (add-one, set_split o p b)

pub length-put : (p : ℕ) (l o : List ℕ) → p + length l ≤ length o → length (put p l o) ≡ length o
length-put p l o h = simp (length-append, length-drop, length-take) (omega arith)

pub put-more : (p : ℕ) (a b o : List ℕ) → p + length a ≤ length o → put (p + length a) b (put p a o) ≡ put p (a ++ b) o
put-more p a b o h =
    let q = p + length a in let f = take p o in let d = drop q o in
    let n : q + length b ≡ p + length (a ++ b) = omega (arith, length-append a b) in
    let e : length (f ++ a) ≡ q = length-append f a ∙ ap (λ (n : ℕ). n + length a) (length-take-le p o (omega arith)) in
    let t : take q (f ++ (a ++ d)) ≡ f ++ a = ap (take q) (sym (append_assoc f a d)) ∙ take_at (f ++ a) d q e in
    let r : drop (q + length b) (f ++ (a ++ d)) ≡ drop (p + length (a ++ b)) o =
    sym (drop-drop (length b) q (f ++ (a ++ d))) ∙ ap (drop (length b)) (ap (drop q) (sym (append_assoc f a d)) ∙ drop_at (f ++ a) d q e)
    ∙ drop-drop (length b) q o ∙ ap (λ (n : ℕ). drop n o) n in
    ap₂ (λ (x y : List ℕ). x ++ (b ++ y)) t r ∙ simp append_assoc

-- ---- the round trips in a table
-- what was written is read
pub read-put : (p : ℕ) (l o : List ℕ) → p + length l ≤ length o → take (length l) (drop p (put p l o)) ≡ l
read-put p l o h =
    ap (take (length l)) (drop_at (take p o) (l ++ drop (p + length l) o) p (length-take-le p o (omega arith))) ∙ take_at l (drop (p + length l) o) (length l) refl

-- what was read is written
pub put-read : (p n : ℕ) (o : List ℕ) → p + n ≤ length o → put p (take n (drop p o)) o ≡ o
put-read p n o h =
    let e : length (take n (drop p o)) ≡ n = length-take-le n (drop p o) (omega (arith, length-drop p o)) in
    ap (λ (m : ℕ). take p o ++ (take n (drop p o) ++ drop (p + m) o)) e
    ∙ ap (λ (t : List ℕ). take p o ++ (take n (drop p o) ++ t)) (sym (drop-drop n p o))
    ∙ ap (λ (t : List ℕ). take p o ++ t) (take-append-drop n (drop p o)) ∙ take-append-drop p o

pub bytes_drop : (n : ℕ) (s : List ℕ) → Bytes s → Bytes (drop n s)
bytes_drop zero s p = p
bytes_drop (suc n) [] p = tt
bytes_drop (suc n) (b ∷ s) p = bytes_drop n s p.1

pub bytes_take : (n : ℕ) (s : List ℕ) → Bytes s → Bytes (take n s)
bytes_take zero s p = tt
bytes_take (suc n) [] p = tt
bytes_take (suc n) (b ∷ s) p = (p.0, bytes_take n s p.1)

-- the number of k bytes from place p on
module _ (k p : ℕ) (o : List ℕ) (h : p + k ≤ length o) where
  pub value-put : (n : ℕ) → n < 256 ^ k → value_of (take k (drop p (put p (bytes_of k n) o))) ≡ n
  value-put n l =
      let e = length-bytes k n in
      ap (λ (m : ℕ). value_of (take m (drop p (put p (bytes_of k n) o)))) (sym e) ∙ ap value_of (read-put p (bytes_of k n) o (omega arith)) ∙ value-bytes k n l

  pub signed-put : (H : ℕ) → 256 ^ k ≡ 2 * H → (z : ℤ) → mag z < H → signed k (value_of (take k (drop p (put p (signed_bytes k z) o)))) ≡ z
  signed-put H e z l = ap (signed k) (value-put (unsigned k z) (unsigned_small k H e z l)) ∙ signed-unsigned k H e z l

  module _ (b : Bytes o) where
    part_bytes : Bytes (take k (drop p o))
    part_bytes = bytes_take k (drop p o) (bytes_drop p o b)

    part_length : length (take k (drop p o)) ≡ k
    part_length = length-take-le k (drop p o) (omega (arith, length-drop p o))

    pub put-value : put p (bytes_of k (value_of (take k (drop p o)))) o ≡ o
    put-value =
        ap (λ (l : List ℕ). put p l o) (ap (λ (m : ℕ). bytes_of m (value_of (take k (drop p o)))) (sym part_length) ∙ bytes-value (take k (drop p o)) part_bytes) ∙ put-read p k o h

    pub put-signed : put p (signed_bytes k (signed k (value_of (take k (drop p o))))) o ≡ o
    put-signed =
        let l : value_of (take k (drop p o)) < 256 ^ k = subst (λ (m : ℕ). value_of (take k (drop p o)) < 256 ^ m) part_length (value-small (take k (drop p o)) part_bytes) in
        ap (λ (v : ℕ). put p (bytes_of k v) o) (unsigned_signed k (value_of (take k (drop p o))) l) ∙ put-value
