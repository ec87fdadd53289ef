-- From the number and the four words that the board's host gets for an extreme value (document 02, request 11) to what they say: 1 is a
-- value, which the words have, as C reads them; 2 and 3 say that there is no point, or no bound; a number below 0 is minus the refusal's.
-- Where there is no value the words are 0.
use mathlib.Core.Path.{◌≡◌, refl, sym, ap, ◌∙◌, subst}
use mathlib.Core.Bool.{Bool}
use mathlib.Core.List.{List, [], ◌∷◌}
use mathlib.Core.Option.{none, some}
use Prim.Native.Nat.{ℕ, zero, suc, ◌+◌, ◌-◌, ◌*◌, ◌/◌, ◌%◌, ◌^◌, ◌≤◌, ◌<◌}
use native.Mathlib.Nat.{div-add-mod', div-lt_iff_lt-mul, le-div_iff_mul-le}
use native.Mathlib.Omega.{arith}
use lib.Dec.{T, ltb, lit<}
use lib.IntN.{ℤ, pos, negsuc, neg_ℤ, ◌+ℤ◌, ◌*ℤ◌}
use lib.ListN.{length, get_or, replicate}
use lib.Pow.{pow_pos}
use mir.Val.{sel}
use borrow.Author.Tests.{lt-ltb, le-ltb}
use Rattle.integers.specs.Z.{Within}
use Rattle.integers.specs.Lin.{lin, lia-eq, eq}
use Rattle.wide.proofs.Digits.{high_lt}
use Rattle.model.specs.Sets.{Constraint, BasicSet, Set, RationalPoint, meets_basic}
use Rattle.codec.specs.Bytes.{Answer, refused, gives, decode}
use Rattle.codec.proofs.Decoded.{Bytes, no_way}
use Rattle.codec.specs.Valid.{Fits}
use Rattle.carrying.specs.Answers.{numbered}
use Rattle.optimum.specs.Value.{Extreme, empty, unbounded, too_wide, too_long, attained}
use Rattle.optimum.proofs.Meaning.{Best, Beyond}
use Rattle.extremes.specs.Answers.{extreme_bytes}
use Rattle.extremes.specs.Words.{complement, value_words}
use Rattle.extremes.proofs.Asked.{Means, none-such, about, extreme-means}
use Rattle.answers.specs.Numbers.{extreme_number, ValueHosted, wide_of}

-- ---- two words back to their number: H is half the base B of a word
module _ (H B : ℕ) where
  -- the higher word signed, as `to_z` reads it
  abbrev read : ℕ → ℕ → ℤ
  read low high = sel (ltb high H) (pos high) (negsuc (B - suc high)) *ℤ pos B +ℤ pos low

  up : (n : ℕ) → 0 < B → n < H * B → read (n % B) (n / B) ≡ pos n
  up n b h =
      ap (λ (t : Bool). sel t (pos (n / B)) (negsuc (B - suc (n / B))) *ℤ pos B +ℤ pos (n % B)) (lt-ltb (n / B) H ((div-lt_iff_lt-mul b).1 h))
      ∙ ap pos (div-add-mod' n B)

  -- with d left of the base above the higher word k
  down-at : (d k r n : ℕ) → d + suc k ≡ B → k * B + r + suc n ≡ B * B → negsuc d *ℤ pos B +ℤ pos r ≡ negsuc n
  down-at d k r n e f =
      let s : d + (k + 1) ≡ B = omega arith in
      let t : k * B + r + (n + 1) ≡ B * B = omega arith in
      let p : (pos d +ℤ (pos k +ℤ pos 1)) *ℤ pos B ≡ pos B *ℤ pos B = ap (λ (i : ℕ). pos i *ℤ pos B) s in
      let q : pos k *ℤ pos B +ℤ pos r +ℤ (pos n +ℤ pos 1) ≡ pos B *ℤ pos B = ap pos t in
      let l : suc d ≡ d + 1 = omega arith in
      let m : n + 1 ≡ suc n = omega arith in
      ap (λ (i : ℕ). neg_ℤ (pos i) *ℤ pos B +ℤ pos r) l
      ∙ lia-eq (pos d ∷ pos B ∷ pos k ∷ pos r ∷ pos n ∷ []) (eq p ∷ eq q ∷ [])
      {a = neg_ℤ (pos d +ℤ pos 1) *ℤ pos B +ℤ pos r} {b = neg_ℤ (pos n +ℤ pos 1)} (search lin depth 30) (omega arith)
      ∙ ap (λ (i : ℕ). neg_ℤ (pos i)) m

  down : (n : ℕ) → 0 < B → B ≡ H + H → suc n < H * B → read ((B * B - suc n) % B) ((B * B - suc n) / B) ≡ negsuc n
  down n b two h = at (B * B - suc n) refl
    where
      at : (m : ℕ) → m ≡ B * B - suc n → read (m % B) (m / B) ≡ negsuc n
      at m e =
          let square : B * B ≡ H * B + H * B = ap (λ (i : ℕ). i * B) two ∙ distributes in
          let most : H * B ≤ m = omega arith in
          let less : m < B * B = omega arith in
          let high : H ≤ m / B = (le-div_iff_mul-le b).1 most in
          let word : m / B < B = high_lt B m b less in
          let parts : m / B * B + m % B ≡ m = div-add-mod' m B in
          ap (λ (t : Bool). sel t (pos (m / B)) (negsuc (B - suc (m / B))) *ℤ pos B +ℤ pos (m % B)) (le-ltb (m / B) H high)
          ∙ down-at (B - suc (m / B)) (m / B) (m % B) n (omega arith) (omega arith)
        where
          distributes : (H + H) * B ≡ H * B + H * B
          distributes = omega arith

below : (n t : ℕ) → 0 < t → n ≤ t - 1 → n < t
below n t p k = omega arith

-- a number of 128 bits is what C reads from its two words
pub words_back : (z : ℤ) → Within (2 ^ 127 - 1) z → wide_of (complement z % 18446744073709551616) (complement z / 18446744073709551616) ≡ z
words_back (pos n) h = up 9223372036854775808 18446744073709551616 n (lit< tt) (below n (2 ^ 127) (pow_pos 127) h.size)
words_back (negsuc n) h = down 9223372036854775808 18446744073709551616 n (lit< tt) refl (below (suc n) (2 ^ 127) (pow_pos 127) h.size)

-- ---- what a number says

-- a number below 0 is minus the refusal's
pub value-refused : {words : List ℕ} (k : ℕ) (a : Answer Extreme) → ValueHosted a (negsuc k) words → a ≡ refused (suc k)
value-refused k (refused zero) h = let e = h.number in let z : ◌≡◌ {A = ℕ} 0 1 = cc in no_way z
value-refused k (refused (suc m)) h = let e : negsuc k ≡ negsuc m = h.number in let q : k ≡ m = cc in ap (λ (i : ℕ). refused (suc i)) (sym q)
value-refused k (gives x) h = at x h.number
  where
    at : (x : Extreme) → negsuc k ≡ extreme_number x → gives x ≡ refused (suc k)
    at empty e = let z : ◌≡◌ {A = ℕ} 0 1 = cc in no_way z
    at unbounded e = let z : ◌≡◌ {A = ℕ} 0 1 = cc in no_way z
    at too_wide e = let z : ◌≡◌ {A = ℕ} 0 1 = cc in no_way z
    at too_long e = let z : ◌≡◌ {A = ℕ} 0 1 = cc in no_way z
    at (attained p q) e = let z : ◌≡◌ {A = ℕ} 0 1 = cc in no_way z

-- but for a value, the words are 0
pub value-zeros : {words : List ℕ} (a : Answer Extreme) (r : ℤ) → ValueHosted a r words → (¬ (r ≡ pos 1)) → words ≡ replicate 4 0
value-zeros (refused m) r h d = h.value
value-zeros (gives empty) r h d = h.value
value-zeros (gives unbounded) r h d = h.value
value-zeros (gives too_wide) r h d = h.value
value-zeros (gives too_long) r h d = h.value
value-zeros (gives (attained p q)) r h d = absurd (d h.number)

-- a number from 1 on is that of an answer
told : (l : ℕ) {words : List ℕ} (a : Answer Extreme) → ValueHosted a (pos (suc l)) words → (x : Extreme) × (a ≡ gives x) × (pos (suc l) ≡ extreme_number x)
told l (refused m) h = at m h.number
  where
    at : {X : Type 0} (m : ℕ) → pos (suc l) ≡ neg_ℤ (pos m) → X
    at zero e = let z : ◌≡◌ {A = ℕ} 0 1 = cc in no_way z
    at (suc m) e = let z : ◌≡◌ {A = ℕ} 0 1 = cc in no_way z
told l (gives x) h = (x, refl, h.number)

is-value : (x : Extreme) → pos 1 ≡ extreme_number x → (p : ℤ) × (q : ℕ) × (x ≡ attained p q)
is-value empty e = let z : ◌≡◌ {A = ℕ} 0 1 = cc in no_way z
is-value unbounded e = let z : ◌≡◌ {A = ℕ} 0 1 = cc in no_way z
is-value too_wide e = let z : ◌≡◌ {A = ℕ} 0 1 = cc in no_way z
is-value too_long e = let z : ◌≡◌ {A = ℕ} 0 1 = cc in no_way z
is-value (attained p q) e = (p, q, refl)

is-empty : (x : Extreme) → pos 2 ≡ extreme_number x → x ≡ empty
is-empty empty e = refl
is-empty unbounded e = let z : ◌≡◌ {A = ℕ} 0 1 = cc in no_way z
is-empty too_wide e = let z : ◌≡◌ {A = ℕ} 0 1 = cc in no_way z
is-empty too_long e = let z : ◌≡◌ {A = ℕ} 0 1 = cc in no_way z
is-empty (attained p q) e = let z : ◌≡◌ {A = ℕ} 0 1 = cc in no_way z

is-unbounded : (x : Extreme) → pos 3 ≡ extreme_number x → x ≡ unbounded
is-unbounded empty e = let z : ◌≡◌ {A = ℕ} 0 1 = cc in no_way z
is-unbounded unbounded e = refl
is-unbounded too_wide e = let z : ◌≡◌ {A = ℕ} 0 1 = cc in no_way z
is-unbounded too_long e = let z : ◌≡◌ {A = ℕ} 0 1 = cc in no_way z
is-unbounded (attained p q) e = let z : ◌≡◌ {A = ℕ} 0 1 = cc in no_way z

-- no point with fractions is in a basic set
abbrev pub NoPoint : BasicSet → Type 0
NoPoint b = (o : RationalPoint) → length o.x ≤ 8 → length o.q ≤ length b.divisions → ¬ T (meets_basic o b)

module _ (n : ℕ) (s : List ℕ) (k : ℕ) where
  -- the set decodes, and has the basic set that is asked about
  pub record Asked : Type 0 where
    pub set : Set
    pub decoded : decode n s ≡ gives set
    pub basic : BasicSet
    pub number : numbered set k ≡ some basic

  -- the set decodes, and its basic set number k, where it has one, has no point
  pub record EmptyTold : Type 0 where
    pub set : Set
    pub decoded : decode n s ≡ gives set
    pub nothing : (b : BasicSet) → numbered set k ≡ some b → NoPoint b

-- z is −1 for the greatest value and 1 for the least; the expression's constant is a number of 32 bits
module _ (z : ℤ) (nz : z ≡ pos 0 → ⊥) (n : ℕ) (s : List ℕ) (bytes : Bytes s) (k : ℕ) (e : Constraint) (width : Fits 2147483648 e.constant) (words : List ℕ) where
  -- p over q is the value: in lowest terms, q positive, reached by a point with fractions and passed by none (`Best`)
  pub record ValueTold : Type 0 where
    pub asked : Asked n s k
    pub p : ℤ
    pub q : ℕ
    pub best : Best asked.basic e n z p q
    pub numerator : wide_of (get_or words 0 0) (get_or words 1 0) ≡ p
    pub denominator : wide_of (get_or words 2 0) (get_or words 3 0) ≡ pos q

  pub value-hosted : ValueHosted (extreme_bytes z n s k e) (pos 1) words → ValueTold
  value-hosted h =
      let t = told 0 (extreme_bytes z n s k e) h in let v = is-value t.0 t.2 in let g = t.1 ∙ ap gives v.2 in
      by v.0 v.1 (extreme-means z nz n s bytes k e width (attained v.0 v.1) g) (h.value ∙ ap value_words g)
    where
      by : (p : ℤ) (q : ℕ) → Means z n s k e (attained p q) → words ≡ value_words (gives (attained p q)) → ValueTold
      by p q (none-such set d o r) w = let z : ◌≡◌ {A = ℕ} 0 1 = cc in no_way z
      by p q (about set d b o r says) w =
          record {
            asked = record { set = set; decoded = d; basic = b; number = o };
            p = p;
            q = q;
            best = says.0;
            numerator = ap (λ (l : List ℕ). wide_of (get_or l 0 0) (get_or l 1 0)) w ∙ words_back p says.1;
            denominator = ap (λ (l : List ℕ). wide_of (get_or l 2 0) (get_or l 3 0)) w ∙ words_back (pos q) (record { size = says.2 });
          }

  pub empty-hosted : ValueHosted (extreme_bytes z n s k e) (pos 2) words → EmptyTold n s k
  empty-hosted h =
      let t = told 1 (extreme_bytes z n s k e) h in
      by (extreme-means z nz n s bytes k e width empty (t.1 ∙ ap gives (is-empty t.0 t.2)))
    where
      apart : {X : Type 0} {b : BasicSet} → none ≡ some b → X
      apart q = let z : ◌≡◌ {A = ℕ} 0 1 = cc in no_way z

      same : {b c : BasicSet} → some b ≡ some c → b ≡ c
      same q = cc

      by : Means z n s k e empty → EmptyTold n s k
      by (none-such set d o r) = record { set = set; decoded = d; nothing = λ b i. apart (sym o ∙ i) }
      by (about set d c o r says) = record { set = set; decoded = d; nothing = λ b i. subst NoPoint (same (sym o ∙ i)) says }

  -- for every number some point's value is beyond it
  pub unbounded-hosted : ValueHosted (extreme_bytes z n s k e) (pos 3) words → (a : Asked n s k) × ((K : ℤ) → Beyond a.basic e n z K)
  unbounded-hosted h =
      let t = told 2 (extreme_bytes z n s k e) h in
      by (extreme-means z nz n s bytes k e width unbounded (t.1 ∙ ap gives (is-unbounded t.0 t.2)))
    where
      by : Means z n s k e unbounded → (a : Asked n s k) × ((K : ℤ) → Beyond a.basic e n z K)
      by (none-such set d o r) = let z : ◌≡◌ {A = ℕ} 0 1 = cc in no_way z
      by (about set d b o r says) = (record { set = set; decoded = d; basic = b; number = o }, says)
