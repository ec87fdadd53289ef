-- The least and the greatest number at each of eight places: what is between them is in range where they are.
use mathlib.Core.Path.{◌≡◌, refl, sym, ap, ◌∙◌, subst}
use mathlib.Core.Bool.{Bool, true, false}
use mathlib.Core.List.{List, [], ◌∷◌, ◌++◌}
use mathlib.Core.Logic.{⊎_elim}
use Prim.Native.Nat.{ℕ, zero, suc, ◌+◌, ◌-◌, ◌*◌, ◌≤◌, ◌<◌}
use native.Mathlib.Nat.{zero-add}
use native.Mathlib.Omega.{arith}
use borrow.Author.Tests.{eqb-true, eqb-false}
use lib.Dec.{eqb}
use lib.IntN.{ℤ, pos, negsuc}
use lib.Signed.{◌≤ℤ◌, le_z, ≤ℤ_refl}
use lib.ListN.{length, take, drop, get_or, set, replicate, get_or-replicate, get_or-append}
use lib.Seq.{get_or-set_same, get_or-set_other}
use Rattle.integers.specs.Order.{≤ℤ-trans, ≤ℤ-antisymm}
use Rattle.integers.specs.Part.{lt-or-le}
use Rattle.model.specs.Lists.{all}
use Rattle.model.specs.Sets.{is_zero, absent}
use Rattle.model.proofs.Count.{from-T}
use Rattle.codec.specs.Bytes.{value_of, signed_list, coefficient}
use Rattle.codec.specs.Accepting.{number_at, Under, Over, Upto, ranges_allowed, InRange}
use Rattle.codec.proofs.Parsing.{both, absent-of}
use Rattle.codec.proofs.Flags.{from, from_start, from_end, passed}

-- ---- at each place
pub under_same : (x : List ℤ) → Under x x
under_same x = record { each = λ i h. ≤ℤ_refl (get_or x i (pos 0)) }

pub under_more : (x y z : List ℤ) → Under x y → Under y z → Under x z
under_more x y z p q = record { each = λ i h. ≤ℤ-trans (p.each i h) (q.each i h) }

pub range-more : (n : ℕ) (low high low' high' : List ℤ) → InRange n low' high' → Under low' low → Under high high' → InRange n low high
range-more n low high low' high' r l h = record { least = λ i b. ≤ℤ-trans (r.least i b) (l.each i b); greatest = λ i b. ≤ℤ-trans (h.each i b) (r.greatest i b) }

-- at place i the two are in range
abbrev pub Between : ℕ → List ℤ → List ℤ → ℕ → Type 0
Between n low high i = (get_or ranges_allowed (8 - n + i) (pos 0) ≤ℤ get_or low i (pos 0)) × (get_or high i (pos 0) ≤ℤ get_or ranges_allowed (24 - n + i) (pos 0))

-- ---- a loop over the places
pub next-each : (P : ℕ → Type 0) (i : ℕ) → ((j : ℕ) → j < i → P j) → P i → (j : ℕ) → j < i + 1 → P j
next-each P i h q j b = go (eqb j i) refl
  where
    go : (x : Bool) → eqb j i ≡ x → P j
    go true e = subst P (sym (eqb-true j i e)) q
    go false e = let k = eqb-false j i e in h j (omega arith)

-- v is written at place i; R is `≤ℤ` or the other way round
module _ (R : ℤ → ℤ → Type 0) (more : (a b c : ℤ) → R a b → R b c → R a c) (r r₀ : List ℤ) (g : ℕ → ℤ) (i : ℕ) (v : ℤ) (l : length r ≡ 8) (h : i < 8) (p : R v (g i)) (q : R v (get_or r i (pos 0))) where
  at_place : (P : ℕ → ℤ → Type 0) → P i v → (j : ℕ) → ((j ≡ i → ⊥) → P j (get_or r j (pos 0))) → P j (get_or (set r i v) j (pos 0))
  at_place P x j y = go (eqb j i) refl
    where
      go : (b : Bool) → eqb j i ≡ b → P j (get_or (set r i v) j (pos 0))
      go true e =
          let k : j ≡ i = eqb-true j i e in
          subst (λ (m : ℕ). P m (get_or (set r i v) m (pos 0))) (sym k) (subst (P i) (sym (get_or-set_same r i v (pos 0) (omega arith))) x)
      go false e = let k = eqb-false j i e in subst (P j) (sym (get_or-set_other r i j v (pos 0) k)) (y k)

  pub written-before : ((j : ℕ) → j < 8 → R (get_or r j (pos 0)) (get_or r₀ j (pos 0))) → (j : ℕ) → j < 8 → R (get_or (set r i v) j (pos 0)) (get_or r₀ j (pos 0))
  written-before u j b = at_place (λ (k : ℕ) (z : ℤ). R z (get_or r₀ k (pos 0))) (more v (get_or r i (pos 0)) (get_or r₀ i (pos 0)) q (u i h)) j (λ k. u j b)

  pub written-there : ((j : ℕ) → j < i → R (get_or r j (pos 0)) (g j)) → (j : ℕ) → j < i + 1 → R (get_or (set r i v) j (pos 0)) (g j)
  written-there u j b = at_place (λ (k : ℕ) (z : ℤ). R z (g k)) p j (λ k. u j (omega arith))

-- ---- the table
right : (l m : List ℤ) (k : ℕ) → get_or (l ++ m) (length l + k) (pos 0) ≡ get_or m k (pos 0)
right [] m k = ap (λ (j : ℕ). get_or m j (pos 0)) (zero-add k)
right (x ∷ l) m k = let e : suc (length l) + k ≡ suc (length l + k) = omega arith in ap (λ (j : ℕ). get_or (x ∷ l ++ m) j (pos 0)) e ∙ right l m k

abbrev eight : ℤ → List ℤ
eight z = replicate 8 z

there-least : (k : ℕ) → k < 8 → get_or ranges_allowed k (pos 0) ≡ negsuc 32766
there-least k h = get_or-append (eight (negsuc 32766)) (eight (pos 0) ++ eight (pos 32767) ++ eight (pos 0)) (pos 0) k h ∙ get_or-replicate 8 k (negsuc 32766) (pos 0) h

absent-least : (k : ℕ) → k < 8 → get_or ranges_allowed (8 + k) (pos 0) ≡ pos 0
absent-least k h =
    right (eight (negsuc 32766)) (eight (pos 0) ++ eight (pos 32767) ++ eight (pos 0)) k
    ∙ get_or-append (eight (pos 0)) (eight (pos 32767) ++ eight (pos 0)) (pos 0) k h ∙ get_or-replicate 8 k (pos 0) (pos 0) h

further : (k : ℕ) → get_or ranges_allowed (16 + k) (pos 0) ≡ get_or (eight (pos 32767) ++ eight (pos 0)) k (pos 0)
further k = right (eight (negsuc 32766) ++ eight (pos 0)) (eight (pos 32767) ++ eight (pos 0)) k

there-greatest : (k : ℕ) → k < 8 → get_or ranges_allowed (16 + k) (pos 0) ≡ pos 32767
there-greatest k h = further k ∙ get_or-append (eight (pos 32767)) (eight (pos 0)) (pos 0) k h ∙ get_or-replicate 8 k (pos 32767) (pos 0) h

absent-greatest : (k : ℕ) → k < 8 → get_or ranges_allowed (24 + k) (pos 0) ≡ pos 0
absent-greatest k h =
    let e : 24 + k ≡ 16 + (8 + k) = omega arith in
    ap (λ (j : ℕ). get_or ranges_allowed j (pos 0)) e ∙ further (8 + k) ∙ right (eight (pos 32767)) (eight (pos 0)) k ∙ get_or-replicate 8 k (pos 0) (pos 0) h

-- ---- the eight numbers
-- what each number from place i on is, all are
each_from : (f : ℤ → Bool) (s : List ℕ) (p i k : ℕ) → 8 ≤ i + k → ((j : ℕ) → i ≤ j → j < 8 → f (number_at s p j) ≡ true) → from f s p i ≡ true
each_from f s p i zero h e = from_end f s p true i (omega arith)
each_from f s p i (suc k) h e = ⊎_elim
    (λ b. passed f s p i (value_of (take 2 (drop (p + 2 * i) s))) b refl true (e i (omega arith) b) ∙ each_from f s p (i + 1) k (omega arith) (λ j l. e j (omega arith)))
    (λ b. from_end f s p true i b)
    (lt-or-le i 8)

pub le-true : (a b : ℤ) → a ≤ℤ b → le_z a b ≡ true
le-true a b h = from-T (le_z a b) h.le

in-coefficient : (z : ℤ) → negsuc 32766 ≤ℤ z → z ≤ℤ pos 32767 → coefficient z ≡ true
in-coefficient z l h = both (le-true (negsuc 32766) z l) (le-true z (pos 32767) h)

zero-coefficient : (z : ℤ) → z ≡ pos 0 → coefficient z ≡ true
zero-coefficient z e = ap coefficient e

module _ (n p : ℕ) (s : List ℕ) (low high : List ℤ) (m : n ≤ 8) (r : InRange n low high) (o : Over low s p) (u : Upto high s p) where
  above : (i : ℕ) → i < 8 → get_or ranges_allowed (8 - n + i) (pos 0) ≤ℤ number_at s p i
  above i h = ≤ℤ-trans (r.least i h) (o.each i h)

  below : (i : ℕ) → i < 8 → number_at s p i ≤ℤ get_or ranges_allowed (24 - n + i) (pos 0)
  below i h = ≤ℤ-trans (u.each i h) (r.greatest i h)

  absent-zero : (i : ℕ) → n ≤ i → i < 8 → number_at s p i ≡ pos 0
  absent-zero i l h =
      let a : 8 - n + i ≡ 8 + (i - n) = omega arith in let b : 24 - n + i ≡ 24 + (i - n) = omega arith in
      ≤ℤ-antisymm
      (subst (λ (z : ℤ). number_at s p i ≤ℤ z) (ap (λ (j : ℕ). get_or ranges_allowed j (pos 0)) b ∙ absent-greatest (i - n) (omega arith)) (below i h))
      (subst (λ (z : ℤ). z ≤ℤ number_at s p i) (ap (λ (j : ℕ). get_or ranges_allowed j (pos 0)) a ∙ absent-least (i - n) (omega arith)) (above i h))

  one : (i : ℕ) → i < 8 → coefficient (number_at s p i) ≡ true
  one i h = ⊎_elim
      (λ l.
      let a : 24 - n + i ≡ 16 + (8 - n + i) = omega arith in
      in-coefficient (number_at s p i)
      (subst (λ (z : ℤ). z ≤ℤ number_at s p i) (there-least (8 - n + i) (omega arith)) (above i h))
      (subst (λ (z : ℤ). number_at s p i ≤ℤ z) (ap (λ (j : ℕ). get_or ranges_allowed j (pos 0)) a ∙ there-greatest (8 - n + i) (omega arith)) (below i h)))
      (λ l. zero-coefficient (number_at s p i) (absent-zero i l h))
      (lt-or-le i n)

  pub coefficients-in : all coefficient (signed_list 8 (drop p s)) ≡ true
  coefficients-in = sym (from_start coefficient s p) ∙ each_from coefficient s p 0 8 (omega arith) (λ i l h. one i h)

  pub absents-in : absent n (signed_list 8 (drop p s)) ≡ true
  absents-in = absent-of n p s m ∙ each_from is_zero s p n 8 (omega arith) (λ i l h. ap is_zero (absent-zero i l h))
