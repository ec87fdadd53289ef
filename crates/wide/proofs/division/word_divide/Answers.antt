-- The quotient is the high word's, and what the rest gives.
use Rattle.std.proofs.Common.{◌≡◌, ℕ, ◌+◌, ◌*◌, ◌/◌, ◌%◌, ap, ◌∙◌, refl, arith}
use mathlib.Core.Path.{ap₂}
use Rattle.wide.proofs.Digits.{one_word, word-divided}
use Rattle.wide.proofs.division.word_divide.Goals as goal

pub returns : goal.returns
returns c =
    let x = c.args.x in
    let d = c.args.d in
    let t = x.hi % d * 18446744073709551616 + x.lo in
    let w = word-divided 18446744073709551616 d x.hi x.lo c.requires in
    let e : 0 * 18446744073709551616 + d ≡ d = one_word 18446744073709551616 0 d refl in
    let h : x.hi / d * 18446744073709551616 + 0 ≡ x.hi / d * 18446744073709551616 = omega arith in (
      c.sum.ensures ∙ ap₂ ◌+◌ h (c.long_divide-s.ensures.quo ∙ ap (λ (n : ℕ). t / n) e) ∙ w.0,
      c.long_divide-s.ensures.rem ∙ ap (λ (n : ℕ). t % n) e ∙ w.1,
    )
