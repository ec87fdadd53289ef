-- The tally of a count is the number of prefixes tested: those of the walk past each member to the end, up to the limit; none of a box that
-- is upside down.
use mathlib.Core.Path.{◌≡◌, refl, sym, ap, ap₂, ◌∙◌, subst}
use mathlib.Core.Bool.{Bool, true, false, cond}
use mathlib.Core.List.{List, [], ◌∷◌, ◌++◌}
use mathlib.Core.Logic.{◌↔◌}
use mathlib.Core.Option.{Option}
use Prim.Native.Nat.{ℕ, zero, suc, ◌+◌, ◌≤◌, ◌<◌, min}
use native.Mathlib.Omega.{arith}
use lib.IntN.{ℤ, pos, ◌+ℤ◌}
use lib.ListN.{length, take, length-append, length-take}
use Rattle.model.specs.Sets.{Set}
use Rattle.enumeration.specs.Search.{Interval, box_of, passes, width, upright}
use Rattle.enumeration.specs.Counting.{Members, no_members, each_upward, members, members_in, exhausted, Tally, count_box}
use Rattle.enumeration.specs.CountPrefixes.{tests_upward, tests, tested_in}
use Rattle.enumeration.proofs.CountAnswers.{Asked}
use Rattle.enumeration.proofs.Counted.{Judged, within, beyond, judged, exhausted-longer, longer-exhausted}

module _ (ok : ℤ → Bool) (inside : ℤ → Members) (below : ℤ → List (List ℤ)) (p : List ℤ) (same : (x : ℤ) → (inside x).tested ≡ length (below x)) where
  tallied : (k : ℕ) (x : ℤ) → (each_upward ok inside k x).tested ≡ length (tests_upward ok below p k x)
  tallied zero x = refl
  tallied (suc k) x = by (ok x) refl (tallied k (x +ℤ pos 1))
    where
      by : (c : Bool) → ok x ≡ c → (each_upward ok inside k (x +ℤ pos 1)).tested ≡ length (tests_upward ok below p k (x +ℤ pos 1))
          → (each_upward ok inside (suc k) x).tested ≡ length (tests_upward ok below p (suc k) x)
      by true e ih =
          rw (e, each_upward, tests_upward)
          (ap suc (ap₂ ◌+◌ (same x) ih ∙ sym (length-append (below x) (tests_upward ok below p k (x +ℤ pos 1)))))
      by false e ih = rw (e, each_upward, tests_upward) (ap suc ih)

pub members-tally : (s : Set) (bs : List Interval) (p : List ℤ) → (members s p bs).tested ≡ length (tests s p bs)
unfolding members tests
members-tally s [] p = refl
members-tally s (b ∷ bs) p =
    tallied (λ (x : ℤ). passes s (p ++ (x ∷ [])) bs) (λ (x : ℤ). members s (p ++ (x ∷ [])) bs) (λ (x : ℤ). tests s (p ++ (x ∷ [])) bs) p (λ x. members-tally s bs (p ++ (x ∷ []))) (width b) b.low

-- of a box, upside down or not
pub box-tally : (s : Set) (box : List Interval) → (members_in s box).tested ≡ length (tested_in s box)
box-tally s box = by (upright box)
  where
    by : (c : Bool) → (cond c (members s [] box) no_members).tested ≡ length (cond c (tests s [] box) [])
    by true = members-tally s box []
    by false = refl

-- as many as the limit allows
pub count-tally : (s : Set) (box : List Interval) (axis : Option ℕ) (limit : ℕ) → (count_box s box axis limit).tested ≡ length (take limit (tested_in s box))
count-tally s box axis limit = by (count_box s box axis limit) (judged s box axis limit)
  where
    few : (m n : ℕ) → m ≡ n → m ≤ limit → m ≡ min limit n
    few m n e h = omega arith

    many : (m n : ℕ) → m ≡ n → limit < m → limit ≡ min limit n
    many m n e h = omega arith

    by : (t : Tally) → Judged s box axis limit t → t.tested ≡ length (take limit (tested_in s box))
    by _ (within h) = few (members_in s box).tested (length (tested_in s box)) (box-tally s box) h ∙ sym (length-take limit (tested_in s box))
    by _ (beyond h) = many (members_in s box).tested (length (tested_in s box)) (box-tally s box) h ∙ sym (length-take limit (tested_in s box))

-- ---- on bytes
module _ {n : ℕ} {a : List ℕ} {ls hs : List ℤ} {axis : Option ℕ} {limit : ℕ} {t : Tally} (r : Asked n a ls hs axis limit t) where
  pub tally-is : t.tested ≡ length (take limit (tested_in r.s (take n (box_of ls hs))))
  tally-is = ap (λ (u : Tally). u.tested) (sym r.answer) ∙ count-tally r.s (take n (box_of ls hs)) axis limit

  -- spent exactly where there are more prefixes to test than the limit
  pub spent-exactly : (t.count ≡ exhausted) ↔ (limit < length (tested_in r.s (take n (box_of ls hs))))
  spent-exactly = (
    λ e. subst (λ (k : ℕ). limit < k) (box-tally r.s box) (exhausted-longer r.s box axis limit (ap (λ (u : Tally). u.count) r.answer ∙ e)),
    λ l. ap (λ (u : Tally). u.count) (sym r.answer ∙ longer-exhausted r.s box axis limit (subst (λ (k : ℕ). limit < k) (sym (box-tally r.s box)) l)),
  )
    where
      box : List Interval
      box = take n (box_of ls hs)
