use Rattle.std.proofs.Common.{◌≡◌, ℕ, ◌+◌, ◌*◌, ◌<◌, sym, ap, ◌∙◌, refl, arith}
use native.Mathlib.Nat.{lt_of_le_of_lt, le_of_eq}
use borrow.Author.Tests.{ltb-true}
use Rattle.wide.specs.Wide.{size}
use Rattle.wide.proofs.Digits.{none_yet, one_word, two-room, part-fits, part_off, quotient_is, remainder_is}
use Rattle.wide.proofs.division.long_divide.Goals as goal

-- a word as a number of two
word : (k : ℕ) → 0 * 18446744073709551616 + k ≡ k
word k = one_word 18446744073709551616 0 k refl

pub loop-d-init : goal.loop-d-init
loop-d-init c = none_yet _ _

pub sum-quo-requires : goal.sum-quo-requires
sum-quo-requires c =
    let x = c.args.x in
    let d = size c.args.d in
    let q = size c.loop-d.quo in
    let p = c.taken-p.result in
    let t = c.taken-p.ensures in
    let h : x.hi < 18446744073709551616 = omega (arith, c.well_formed) in
    let l : x.lo < 18446744073709551616 = omega (arith, c.well_formed) in
    lt_of_le_of_lt (le_of_eq (ap (λ (n : ℕ). q + n) (word p.by)))
    (part-fits (size x) d q (size c.loop-d.rem) p.by (size p.part) _ c.loop-d.invariant t.part_is t.holds c.requires (two-room 18446744073709551616 x.hi x.lo h l))

pub loop-d-preserved : goal.loop-d-preserved
loop-d-preserved c =
    let d = size c.args.d in
    let q = size c.loop-d.quo in
    let p = c.taken-p.result in
    let t = c.taken-p.ensures in
    let e : size c.sum-quo.result ≡ q + p.by = c.sum-quo.ensures ∙ ap (λ (n : ℕ). q + n) (word p.by) in
    ap (λ (n : ℕ). n * d + size c.difference-rem.result) e
    ∙ ap (λ (n : ℕ). (q + p.by) * d + n) c.difference-rem.ensures
    ∙ part_off _ d q (size c.loop-d.rem) p.by (size p.part) c.loop-d.invariant t.part_is t.holds

pub returns : goal.returns
returns c =
    let x = size c.args.x in
    let d = size c.args.d in
    let h : size c.loop-d.rem < d = ltb-true _ _ (sym c.less.ensures ∙ c.loop-d-test.false) in
    record { quo = quotient_is x d _ _ c.loop-d.invariant h; rem = remainder_is x d _ _ c.loop-d.invariant h }
