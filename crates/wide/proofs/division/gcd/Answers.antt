-- After the loop y is one word.
use Rattle.std.proofs.Common.{◌≡◌, ℕ, ◌%◌, sym, ap, ◌∙◌, refl}
use Rattle.integers.specs.Gcd.{gcd as gcd_of, gcd-zero, gcd-step}
use Rattle.wide.specs.Wide.{size}
use Rattle.wide.proofs.Digits.{one_word}
use Rattle.wide.proofs.division.gcd.Goals as goal

pub loop-y-preserved : goal.loop-y-preserved
loop-y-preserved c =
    let x = size c.loop-y.x in
    let y = size c.loop-y.y in
    ap (gcd_of y) c.long_divide-s.ensures.rem ∙ sym (gcd-step x y) ∙ c.loop-y.invariant

pub returns-then-y-eq0 : goal.returns-then-y-eq0
returns-then-y-eq0 c =
    let x = size c.loop-y.x in
    let y = c.loop-y.y in
    let e : size y ≡ y.lo = one_word 18446744073709551616 y.hi y.lo c.loop-y-test.false in
    sym (gcd-zero x) ∙ sym (ap (gcd_of x) (e ∙ c.if-y-eq0.true)) ∙ c.loop-y.invariant

pub returns : goal.returns
returns c =
    let x = size c.loop-y.x in
    let y = c.loop-y.y in
    let e : size y ≡ y.lo = one_word 18446744073709551616 y.hi y.lo c.loop-y-test.false in
    one_word 18446744073709551616 0 _ refl ∙ c.gcd.ensures ∙ ap (gcd_of y.lo) c.word_rem.ensures
    ∙ ap (λ (n : ℕ). gcd_of n (x % n)) (sym e) ∙ sym (gcd-step x (size y)) ∙ c.loop-y.invariant
