-- What the answer for an expression over a basic set of a set's bytes says (document 02, request 11): "No point with fractions of the basic set
-- goes beyond the value returned, and some such point reaches it; where the basic set exists, empty is said only when it has none, unbounded
-- only when their values pass every number."
use mathlib.Core.Path.{◌≡◌, refl, sym, ◌∙◌}
use mathlib.Core.Bool.{◌&&◌}
use mathlib.Core.List.{List}
use mathlib.Core.Option.{Option, none, some}
use Prim.Native.Nat.{ℕ, zero, suc, ◌-◌, ◌^◌, ◌≤◌}
use lib.Dec.{T}
use lib.IntN.{ℤ, pos}
use lib.ListN.{length}
use Rattle.integers.specs.Z.{Within}
use Rattle.model.specs.Lists.{all}
use Rattle.model.specs.Sets.{Constraint, BasicSet, Set, absent, RationalPoint, meets_basic}
use Rattle.model.proofs.Count.{and_left, and_right}
use Rattle.codec.specs.Bytes.{Answer, refused, gives, coefficient, decode}
use Rattle.codec.proofs.Decoded.{Bytes, no_way}
use Rattle.codec.specs.Valid.{Valid, Fits}
use Rattle.codec.proofs.Valid.{decode-valid}
use Rattle.carrying.specs.Answers.{numbered}
use Rattle.carrying.proofs.Meanings.{valid-over, numbered-all}
use Rattle.optimum.specs.Value.{Extreme, empty, unbounded, too_wide, too_long, attained, extreme_of}
use Rattle.optimum.proofs.Meaning.{Best, Beyond}
use Rattle.optimum.proofs.Values.{extreme-value, extreme-unbounded, extreme-empty, extreme-fits}
use Rattle.rules.specs.Expressions.{numbers_refusal}
use Rattle.extremes.specs.Answers.{extreme_numbered, extreme_decoded, extreme_bytes}
use Rattle.rules.proofs.Numbers.{passed}
use Rattle.extremes.proofs.Numbered.{none-empty}

-- what each answer says of a basic set of n axes and an expression; a value's two numbers are of 128 bits
abbrev pub Says : ℤ → ℕ → BasicSet → Constraint → Extreme → Type 0
Says z n b e empty = (o : RationalPoint) → length o.x ≤ 8 → length o.q ≤ length b.divisions → ¬ T (meets_basic o b)
Says z n b e unbounded = (K : ℤ) → Beyond b e n z K
Says z n b e too_wide = Unit {0}
Says z n b e too_long = Unit {0}
Says z n b e (attained p q) = Best b e n z p q × Within (2 ^ 127 - 1) p × (q ≤ 2 ^ 127 - 1)

-- the set is decoded; "none such: empty", or the answer is about its basic set number k
pub data Means (z : ℤ) (n : ℕ) (s : List ℕ) (k : ℕ) (e : Constraint) (x : Extreme) : Type 0 where
  none-such : (set : Set) → decode n s ≡ gives set → numbered set k ≡ none → x ≡ empty → Means z n s k e x
  about : (set : Set) → decode n s ≡ gives set → (b : BasicSet) → numbered set k ≡ some b → extreme_of z b e ≡ x → Says z n b e x → Means z n s k e x

-- the expression's constant is a number of 32 bits
module _ (z : ℤ) (nz : z ≡ pos 0 → ⊥) (n : ℕ) (s : List ℕ) (bytes : Bytes s) (k : ℕ) (e : Constraint) (width : Fits 2147483648 e.constant) (x : Extreme) where
  says : (b : BasicSet) → Valid n b → numbers_refusal n (length b.divisions) e ≡ 0 → extreme_of z b e ≡ x → Says z n b e x
  says b v q f = at x f
    where
      fits : T (all coefficient e.axes && all coefficient e.divisions) × T (absent n e.axes && absent (length b.divisions) e.divisions)
      fits = passed n (length b.divisions) e q

      axes : T (absent n e.axes)
      axes = and_left (absent n e.axes) (absent (length b.divisions) e.divisions) fits.1

      at : (x : Extreme) → extreme_of z b e ≡ x → Says z n b e x
      at empty f = extreme-empty b e z f
      at unbounded f = extreme-unbounded b e z n (valid-over n b v) axes nz f
      at too_wide f = tt
      at too_long f = tt
      at (attained p q) f =
          let fit =
          extreme-fits b e z n v width
          (and_left (all coefficient e.axes) (all coefficient e.divisions) fits.0)
          (and_right (all coefficient e.axes) (all coefficient e.divisions) fits.0)
          p q f in
          (extreme-value b e z n (valid-over n b v) axes nz p q f, fit.0, fit.1)

  given : {a c : Extreme} → gives a ≡ gives c → a ≡ c
  given q = cc

  pub extreme-means : extreme_bytes z n s k e ≡ gives x → Means z n s k e x
  unfolding extreme_bytes
  extreme-means g = by (decode n s) refl g
    where
      in-set : (set : Set) → decode n s ≡ gives set → (b : BasicSet) → numbered set k ≡ some b → (r : ℕ) → numbers_refusal n (length b.divisions) e ≡ r
          → elim r as (λ (r : ℕ). Answer Extreme) [ zero ↦ gives (extreme_of z b e) | suc m ↦ refused (suc m) ] ≡ gives x → Means z n s k e x
      in-set set d b q zero r g = about set d b q (given g) (says b (numbered-all (Valid n) set k b (decode-valid n s set bytes d).0 q) r (given g))
      in-set set d b q (suc m) r g = let z : ◌≡◌ {A = ℕ} 0 1 = cc in no_way z

      on : (set : Set) → decode n s ≡ gives set → (o : Option BasicSet) → numbered set k ≡ o → extreme_numbered z n o e ≡ gives x → Means z n s k e x
      on set d none q g = none-such set d q (sym (given (sym (none-empty z n e) ∙ g)))
      on set d (some b) q g = in-set set d b q (numbers_refusal n (length b.divisions) e) refl g

      by : (a : Answer Set) → decode n s ≡ a → extreme_decoded z n a k e ≡ gives x → Means z n s k e x
      by (refused m) d g = let z : ◌≡◌ {A = ℕ} 0 1 = cc in no_way z
      by (gives set) d g = on set d (numbered set k) refl g
