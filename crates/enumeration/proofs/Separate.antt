-- The separate counts of an axis: each is the number of points with that value, and they add up to the whole.
use mathlib.Core.Path.{◌≡◌, refl, sym, ap, ap₂, ◌∙◌}
use mathlib.Core.Bool.{Bool, true, false, ◌&&◌}
use mathlib.Core.List.{List, [], ◌∷◌}
use Prim.Native.Nat.{ℕ, zero, suc, ◌+◌, ◌<◌}
use native.Mathlib.Nat.{le_of_suc-le-suc, not-suc-le-zero, zero-lt-suc}
use native.Mathlib.Omega.{arith}
use lib.Dec.{T, lt→ltb}
use lib.IntN.{ℤ, pos, ◌+ℤ◌, ◌-ℤ◌, +ℤ_idr}
use lib.Signed.{◌<ℤ◌}
use lib.ListN.{length, get_or, replicate}
use Rattle.integers.specs.Ring.{ring, quote}
use Rattle.integers.specs.Lin.{lt, eq, lin, lia-lt, lia-eq, lia-no}
use Rattle.model.specs.Lists.{cons_if, filter, All}
use Rattle.model.specs.Sets.{is_zero}
use Rattle.model.proofs.Count.{ind, to-T}
use Rattle.model.proofs.Values.{is_zero→}
use Rattle.enumeration.specs.Search.{Interval, width}
use Rattle.enumeration.proofs.Walks.{Inside, In, up, up_suc, side-index}
use Rattle.enumeration.specs.Counting.{count_at, counts_from, side_at}

abbrev pub sum : List ℕ → ℕ
sum [] = 0
sum (n ∷ ns) = n + sum ns

-- ---- a value is met once on the way upward

pub same-value : (z v : ℤ) → z ≡ v → is_zero (z -ℤ v) ≡ true
same-value z v e = ap is_zero (ap (λ (y : ℤ). y -ℤ v) e ∙ ring (v ∷ []) {b = pos 0} (search quote depth 30) tt)

pub value_same : (z v : ℤ) → T (is_zero (z -ℤ v)) → z ≡ v
value_same z v t = let d : z -ℤ v ≡ pos 0 = is_zero→ (z -ℤ v) t in lia-eq (z ∷ v ∷ []) (eq d ∷ []) (search lin depth 30) (omega arith)

pub other-value : (z v : ℤ) → ¬ (z ≡ v) → is_zero (z -ℤ v) ≡ false
other-value z v n = by (is_zero (z -ℤ v)) refl
  where
    by : (b : Bool) → is_zero (z -ℤ v) ≡ b → b ≡ false
    by false e = refl
    by true e = absurd (n (value_same z v (to-T (is_zero (z -ℤ v)) e)))

abbrev hits : ℤ → ℕ → ℤ → ℕ
hits z zero v = 0
hits z (suc k) v = ind (is_zero (z -ℤ v)) + hits z k (v +ℤ pos 1)

hits-low : (z : ℤ) (k : ℕ) (v : ℤ) → z <ℤ v → hits z k v ≡ 0
hits-low z zero v l = refl
hits-low z (suc k) v l =
    ap₂ (λ (b : Bool) (n : ℕ). ind b + n) (other-value z v different)
    (hits-low z k (v +ℤ pos 1) (lia-lt (z ∷ v ∷ []) (lt l ∷ []) (search lin depth 30) (omega arith)))
  where
    different : ¬ (z ≡ v)
    different e = lia-no (z ∷ v ∷ []) (lt l ∷ eq e ∷ []) (search lin depth 30) (omega arith)

hits-one : (z : ℤ) (k : ℕ) (v : ℤ) (i : ℕ) → i < k → z ≡ up v i → hits z k v ≡ 1
hits-one z zero v i h e = absurd (not-suc-le-zero h)
hits-one z (suc k) v zero h e =
    let q : z ≡ v = e ∙ +ℤ_idr v in
    ap₂ (λ (b : Bool) (n : ℕ). ind b + n) (same-value z v q) (hits-low z k (v +ℤ pos 1) (lia-lt (z ∷ v ∷ []) (eq q ∷ []) (search lin depth 30) (omega arith)))
hits-one z (suc k) v (suc i) h e =
    ap₂ (λ (b : Bool) (n : ℕ). ind b + n) (other-value z v different) (hits-one z k (v +ℤ pos 1) i (le_of_suc-le-suc h) (e ∙ sym (up_suc v i)))
  where
    different : ¬ (z ≡ v)
    different q =
        let l : pos 0 <ℤ pos (suc i) = record { lt = lt→ltb 0 (suc i) (zero-lt-suc i) } in
        lia-no (z ∷ v ∷ pos (suc i) ∷ []) (eq e ∷ eq q ∷ lt l ∷ []) (search lin depth 30) (omega arith)

-- ---- they add up

pub length-cons_if : {A : Type 0} (b : Bool) (a : A) (l : List A) → length (cons_if b a l) ≡ ind b + length l
length-cons_if true a l = omega arith
length-cons_if false a l = omega arith

sum-cons : (i : ℕ) (p : List ℤ) (ps : List (List ℤ)) (k : ℕ) (v : ℤ) → sum (counts_from i (p ∷ ps) k v) ≡ hits (get_or p i (pos 0)) k v + sum (counts_from i ps k v)
sum-cons i p ps zero v = refl
sum-cons i p ps (suc k) v =
    ap₂ ◌+◌ (length-cons_if (is_zero (get_or p i (pos 0) -ℤ v)) p (filter (λ (q : List ℤ). is_zero (get_or q i (pos 0) -ℤ v)) ps)) (sum-cons i p ps k (v +ℤ pos 1))
    ∙ swap (ind (is_zero (get_or p i (pos 0) -ℤ v))) (count_at i v ps) (hits (get_or p i (pos 0)) k (v +ℤ pos 1)) (sum (counts_from i ps k (v +ℤ pos 1)))
  where
    swap : (a b c d : ℕ) → (a + b) + (c + d) ≡ (a + c) + (b + d)
    swap a b c d = omega arith

sum-none : (i k : ℕ) (v : ℤ) → sum (counts_from i [] k v) ≡ 0
sum-none i zero v = refl
sum-none i (suc k) v = ap (λ (n : ℕ). 0 + n) (sum-none i k (v +ℤ pos 1))

-- axis i of the point is one of the k values upward from v
pub record Lies (i k : ℕ) (v : ℤ) (p : List ℤ) : Type 0 where
  pub place : ℕ
  pub below : place < k
  pub value : get_or p i (pos 0) ≡ up v place

pub counts-add : (i k : ℕ) (v : ℤ) (ps : List (List ℤ)) → All (Lies i k v) ps → sum (counts_from i ps k v) ≡ length ps
counts-add i k v [] h = sum-none i k v
counts-add i k v (p ∷ ps) h =
    sum-cons i p ps k v
    ∙ ap₂ ◌+◌ (hits-one (get_or p i (pos 0)) k v h.0.place h.0.below h.0.value) (counts-add i k v ps h.1)
    ∙ one (length ps)
  where
    one : (n : ℕ) → 1 + n ≡ suc n
    one n = omega arith

-- points of the box do
in-side : (bs : List Interval) (zs : List ℤ) (i : ℕ) → In zs bs → i < length bs → Inside (get_or zs i (pos 0)) (side_at i bs)
in-side [] zs i h l = absurd (not-suc-le-zero l)
in-side (b ∷ bs) [] i h l = absurd h
in-side (b ∷ bs) (z ∷ zs) zero h l = h.0
in-side (b ∷ bs) (z ∷ zs) (suc i) h l = in-side bs zs i h.1 (le_of_suc-le-suc l)

pub in-lies : (bs : List Interval) (i : ℕ) → i < length bs → (zs : List ℤ) → In zs bs → Lies i (width (side_at i bs)) (side_at i bs).low zs
in-lies bs i l zs h =
    let x = side-index (side_at i bs) (get_or zs i (pos 0)) (in-side bs zs i h l) in
    record { place = x.0; below = x.1; value = x.2 }

-- ---- each of them

pub counts-length : (i : ℕ) (ps : List (List ℤ)) (k : ℕ) (v : ℤ) → length (counts_from i ps k v) ≡ k
counts-length i ps zero v = refl
counts-length i ps (suc k) v = ap suc (counts-length i ps k (v +ℤ pos 1))

pub counts-at : (i : ℕ) (ps : List (List ℤ)) (k : ℕ) (v : ℤ) (j : ℕ) → j < k → get_or (counts_from i ps k v) j 0 ≡ count_at i (up v j) ps
counts-at i ps zero v j h = absurd (not-suc-le-zero h)
counts-at i ps (suc k) v zero h = ap (λ (y : ℤ). count_at i y ps) (sym (+ℤ_idr v))
counts-at i ps (suc k) v (suc j) h = counts-at i ps k (v +ℤ pos 1) j (le_of_suc-le-suc h) ∙ ap (λ (y : ℤ). count_at i y ps) (up_suc v j)

pub counts-none : (i k : ℕ) (v : ℤ) → counts_from i [] k v ≡ replicate k 0
counts-none i zero v = refl
counts-none i (suc k) v = ap (λ (l : List ℕ). 0 ∷ l) (counts-none i k (v +ℤ pos 1))

pub filter-filter : {A : Type 0} (f g : A → Bool) (l : List A) → filter f (filter g l) ≡ filter (λ (a : A). g a && f a) l
filter-filter f g [] = refl
filter-filter {A} f g (a ∷ l) = by (g a) (filter-filter f g l)
  where
    by : (b : Bool) → filter f (filter g l) ≡ filter (λ (x : A). g x && f x) l → filter f (cons_if b a (filter g l)) ≡ cons_if (b && f a) a (filter (λ (x : A). g x && f x) l)
    by true e = ap (cons_if (f a) a) e
    by false e = e
