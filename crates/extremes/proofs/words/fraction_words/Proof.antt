use mathlib.Core.Path.{◌≡◌, refl, ap, ap₂}
use mathlib.Core.List.{[], ◌∷◌}
use Prim.Native.Nat.{ℕ, ◌<◌}
use native.Mathlib.Omega.{arith}
use borrow.Author.Rules.{rules}
use Rattle.wide.specs.Wide.{size}
use Rattle.wide.proofs.Digits.{quotient_is, remainder_is}
use Rattle.extremes.proofs.words.fraction_words.Statement.{statement}
use Rattle.extremes.proofs.words.fraction_words.Tie as tie

low-requires : tie.Need-low-requires
low-requires c κs = search rules

high-requires : tie.Need-high-requires
high-requires c κs = search rules

low_word : (c : tie.Start) → c.args.f.denominator.lo < 18446744073709551616
low_word c = omega (arith, c.well_formed)

four : {a a' b b' c c' d d' : ℕ} → a ≡ a' → b ≡ b' → c ≡ c' → d ≡ d' → (a ∷ b ∷ c ∷ d ∷ []) ≡ (a' ∷ b' ∷ c' ∷ d' ∷ [])
four p q r s = ap₂ ◌∷◌ p (ap₂ ◌∷◌ q (ap₂ ◌∷◌ r (ap (λ (i : ℕ). i ∷ []) s)))

returns : tie.Need-returns
returns c =
    let l = c.before in let s = l.before.before.before in let m = s.args.f.denominator in
    four l.low.ensures c.high.ensures
    (remainder_is (size m) 18446744073709551616 m.hi m.lo refl (low_word s))
    (quotient_is (size m) 18446744073709551616 m.hi m.lo refl (low_word s))

pub fraction_words_spec : {M : Type 1} → statement M
fraction_words_spec = tie.close (tie.spec low-requires high-requires returns)
