-- What the bytes' answers are, from what the code has tested.
use mathlib.Core.Path.{◌≡◌, refl, sym, ap, ◌∙◌}
use mathlib.Core.Bool.{Bool, true, false, ◌||◌, cond}
use mathlib.Core.List.{List, [], ◌∷◌}
use Prim.Native.Nat.{ℕ, suc, ◌≤◌, ◌<◌}
use native.Mathlib.Omega.{arith}
use lib.Dec.{ltb}
use lib.IntN.{ℤ}
use lib.ListN.{take}
use borrow.Author.Tests.{ltb-true, ltb-false}
use Rattle.model.specs.Sets.{Set, in_basic, in_set}
use Rattle.codec.specs.Bytes.{Answer, refused, gives, decode, number}
use Rattle.codec.specs.Places.{set_from}
use Rattle.codec.proofs.Parsing.{decode-bad, axes-zero, axes-over}
use Rattle.codec.proofs.Boundaries.{decode_is}
use Rattle.query.specs.Member.{member_bytes, point_fits}
use Rattle.std.specs.Option.{is_some}
use Rattle.query.specs.Holder.{first_holding, numbered}

refused-of : {A : Type 0} (a : Answer A) (m : ℕ) → m ≡ number a → (m ≡ 0 → ⊥) → a ≡ refused m
refused-of (refused k) m e h = ap refused (sym e)
refused-of (gives a) m e h = absurd (h e)

module _ (n : ℕ) (s : List ℕ) where
  pub bad : (m : ℕ) → m ≡ number (decode n s) → (m ≡ 0 → ⊥) → decode n s ≡ refused m
  bad m e h = refused-of (decode n s) m e h

  -- checked bytes have as many axes as there can be, and at least one
  pub axes-most : number (decode n s) ≡ 0 → n ≤ 8
  axes-most z = go (ltb 8 n) refl
    where
      go : (x : Bool) → ltb 8 n ≡ x → n ≤ 8
      go false e = ltb-false 8 n e
      go true e = absurd (omega (arith, decode-bad n s (axes-over n (ltb-true 8 n e))))

  pub axes-some : number (decode n s) ≡ 0 → 0 < n
  axes-some z = go (ltb 0 n) refl
    where
      go : (x : Bool) → ltb 0 n ≡ x → 0 < n
      go true e = ltb-true 0 n e
      go false e = let k = ltb-false 0 n e in absurd (omega (arith, decode-bad n s (axes-zero n (omega arith))))

  pub member-refused : (x : List ℤ) (m : ℕ) → decode n s ≡ refused m → refused m ≡ member_bytes n s x
  unfolding member_bytes
  member-refused x m e = rw (e, member_bytes)

  pub member-misfit : (x : List ℤ) → number (decode n s) ≡ 0 → point_fits n x ≡ false → refused 12 ≡ member_bytes n s x
  unfolding member_bytes
  member-misfit x z p = rw (decode_is n s z, member_bytes) (ap (λ (b : Bool). cond b (gives (in_set (take n x) (set_from s 0))) (refused 12)) (sym p))

  pub member-gives : (x : List ℤ) → number (decode n s) ≡ 0 → point_fits n x ≡ true → (r : Bool) → r ≡ in_set (take n x) (set_from s 0) → gives r ≡ member_bytes n s x
  unfolding member_bytes
  member-gives x z p r e = rw (decode_is n s z, member_bytes) (ap gives e ∙ ap (λ (b : Bool). cond b (gives (in_set (take n x) (set_from s 0))) (refused 12)) (sym p))

-- whether there is a basic set that holds the point
pub holding_is : (x : List ℤ) (s : Set) (k : ℕ) → is_some (numbered (first_holding (suc k) x s)) ≡ in_set x s
holding_is x [] k = refl
holding_is x (b ∷ s) k = go (in_basic x b) (holding_is x s (suc k))
  where
    go : (c : Bool) → is_some (numbered (first_holding (suc (suc k)) x s)) ≡ in_set x s → is_some (numbered (cond c (suc k) (first_holding (suc (suc k)) x s))) ≡ (c || in_set x s)
    go true ih = refl
    go false ih = ih
