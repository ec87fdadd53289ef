-- The tally of a search is the number of prefixes tested: those of the walk, up to the limit; 0 for a shut window, and for no other.
use mathlib.Core.Path.{◌≡◌, refl, sym, ap, ap₂, ◌∙◌, subst}
use mathlib.Core.Bool.{Bool, true, false, cond}
use mathlib.Core.List.{List, [], ◌∷◌, ◌++◌}
use mathlib.Core.Option.{Option, none, some}
use Prim.Native.Nat.{ℕ, zero, suc, ◌+◌, ◌≤◌, ◌<◌}
use native.Mathlib.Nat.{zero-lt-suc}
use native.Mathlib.Omega.{arith}
use lib.Dec.{T}
use lib.IntN.{ℤ, pos, nat_abs, ◌+ℤ◌, ◌-ℤ◌}
use lib.Signed.{le_z}
use lib.ListN.{length, take, length-append, length-take}
use Rattle.model.specs.Sets.{Set}
use Rattle.model.proofs.Count.{and_left, from-T, to-T}
use Rattle.enumeration.specs.Search.{Interval, passes, width, Walk, or_else, upward, walk, Tallied, upright, search_box}
use Rattle.enumeration.specs.SearchPrefixes.{tests_from, tests, tested_in}
use Rattle.enumeration.proofs.Searched.{Walked, closed, within, beyond, walked}

module _ (ok : ℤ → Bool) (inside : ℤ → Walk) (below : ℤ → List (List ℤ)) (p : List ℤ) (same : (x : ℤ) → (inside x).tested ≡ length (below x)) where
  counted : (k : ℕ) (x : ℤ) → (upward ok inside k x).tested ≡ length (tests_from ok (λ (y : ℤ). (inside y).found) below p k x)
  counted zero x = refl
  counted (suc k) x = by (ok x) refl (counted k (x +ℤ pos 1))
    where
      either : (o : Option (List ℤ)) → (inside x).found ≡ o → (upward ok inside k (x +ℤ pos 1)).tested ≡ length (tests_from ok (λ (y : ℤ). (inside y).found) below p k (x +ℤ pos 1))
          → (or_else (inside x) (upward ok inside k (x +ℤ pos 1))).tested ≡ length (below x ++ elim o [ some q ↦ [] | none ↦ tests_from ok (λ (y : ℤ). (inside y).found) below p k (x +ℤ pos 1) ])
      either none e ih =
          rw (e, or_else)
          (ap₂ ◌+◌ (same x) ih ∙ sym (length-append (below x) (tests_from ok (λ (y : ℤ). (inside y).found) below p k (x +ℤ pos 1))))
      either (some q) e ih = rw (e, or_else) (same x ∙ sym (ap length (mathlib.Core.List.append-nil (below x))))

      by : (c : Bool) → ok x ≡ c → (upward ok inside k (x +ℤ pos 1)).tested ≡ length (tests_from ok (λ (y : ℤ). (inside y).found) below p k (x +ℤ pos 1))
          → (upward ok inside (suc k) x).tested ≡ length (tests_from ok (λ (y : ℤ). (inside y).found) below p (suc k) x)
      by false e ih = rw (e, upward, tests_from) (ap suc ih)
      by true e ih = rw (e, upward, tests_from) (ap suc (either (inside x).found refl ih))

pub walk-tally : (s : Set) (bs : List Interval) (p : List ℤ) → (walk s p bs).tested ≡ length (tests s p bs)
unfolding walk tests
walk-tally s [] p = refl
walk-tally s (b ∷ bs) p =
    counted (λ (x : ℤ). passes s (p ++ (x ∷ [])) bs) (λ (x : ℤ). walk s (p ++ (x ∷ [])) bs) (λ (x : ℤ). tests s (p ++ (x ∷ [])) bs) p (λ x. walk-tally s bs (p ++ (x ∷ []))) (width b) b.low

-- as many as the limit allows; none of a shut window
pub search-tally : (s : Set) (box : List Interval) (limit : ℕ) → (search_box s box limit).tested ≡ length (take limit (tested_in s box))
search-tally s box limit = by (search_box s box limit) (walked s box limit)
  where
    walks : upright box ≡ true → length (take limit (tested_in s box)) ≡ length (take limit (tests s [] box))
    walks u = ap (λ (c : Bool). length (take limit (cond c (tests s [] box) []))) u

    by : (t : Tallied) → Walked s box limit t → t.tested ≡ length (take limit (tested_in s box))
    by _ (closed u) = sym (ap (λ (c : Bool). length (take limit (cond c (tests s [] box) []))) u ∙ none-taken limit)
      where
        none-taken : (k : ℕ) → length (take k (cond false (tests s [] box) [])) ≡ 0
        none-taken zero = refl
        none-taken (suc k) = refl
    by _ (within u h) = few (walk s [] box).tested (length (tests s [] box)) (walk-tally s box []) h ∙ sym (walks u ∙ length-take limit (tests s [] box))
      where
        few : (m n : ℕ) → m ≡ n → m ≤ limit → m ≡ Prim.Native.Nat.min limit n
        few m n e h = omega arith
    by _ (beyond u h) = many (walk s [] box).tested (length (tests s [] box)) (walk-tally s box []) h ∙ sym (walks u ∙ length-take limit (tests s [] box))
      where
        many : (m n : ℕ) → m ≡ n → limit < m → limit ≡ Prim.Native.Nat.min limit n
        many m n e h = omega arith

-- ---- a tally of 0: where a low is over its high, and nowhere else
tests-one : (ok : ℤ → Bool) (inside : ℤ → Walk) (k : ℕ) (x : ℤ) → 0 < (upward ok inside (suc k) x).tested
tests-one ok inside k x = by (ok x) refl
  where
    by : (c : Bool) → ok x ≡ c → 0 < (upward ok inside (suc k) x).tested
    by true e = rw (e, upward) (zero-lt-suc (or_else (inside x) (upward ok inside k (x +ℤ pos 1))).tested)
    by false e = rw (e, upward) (zero-lt-suc (upward ok inside k (x +ℤ pos 1)).tested)

walk-tests : (s : Set) (b : Interval) (bs : List Interval) → upright (b ∷ bs) ≡ true → 0 < (walk s [] (b ∷ bs)).tested
unfolding walk
walk-tests s b bs u =
    let t : T (le_z b.low b.high) = and_left (le_z b.low b.high) (upright bs) (to-T (upright (b ∷ bs)) u) in
    let e : width b ≡ suc (nat_abs (b.high -ℤ b.low)) = ap (λ (c : Bool). cond c (suc (nat_abs (b.high -ℤ b.low))) 0) (from-T (le_z b.low b.high) t) in
    subst (λ (k : ℕ). 0 < (upward (λ (x : ℤ). passes s (x ∷ []) bs) (λ (x : ℤ). walk s (x ∷ []) bs) k b.low).tested) (sym e)
    (tests-one (λ (x : ℤ). passes s (x ∷ []) bs) (λ (x : ℤ). walk s (x ∷ []) bs) (nat_abs (b.high -ℤ b.low)) b.low)

pub untested-shut : (s : Set) (b : Interval) (bs : List Interval) (limit : ℕ) → 0 < limit → (search_box s (b ∷ bs) limit).tested ≡ 0 → upright (b ∷ bs) ≡ false
untested-shut s b bs limit l = by (search_box s (b ∷ bs) limit) (walked s (b ∷ bs) limit)
  where
    none-less : (m : ℕ) → 0 < m → m ≡ 0 → ⊥
    none-less m h e = omega arith

    by : (t : Tallied) → Walked s (b ∷ bs) limit t → t.tested ≡ 0 → upright (b ∷ bs) ≡ false
    by _ (closed u) e = u
    by _ (within u h) e = absurd (none-less (walk s [] (b ∷ bs)).tested (walk-tests s b bs u) e)
    by _ (beyond u h) e = absurd (none-less limit l e)
