-- Only 0 with a sign has other words than its number.
use Rattle.std.proofs.Common.{◌≡◌, ℕ, ◌<◌, Bool, true, false, eqb, not, refl, sym}
use borrow.Author.Tests.{eqb-true, eqb-false, ne_eqb}
use Rattle.memory.specs.Sound.{plain_cell}
use Rattle.memory.proofs.Sounds.{plain_is, minus_zero_is}
use Rattle.memory.proofs.sound.is_plain.Goals as goal

signed : (h l : ℕ) → h < 18446744073709551616 → l < 18446744073709551616 → h ≡ 9223372036854775808 → not (eqb l 0) ≡ plain_cell h l
signed h l fh fl e = go (eqb l 0) refl
  where
    go : (b : Bool) → eqb l 0 ≡ b → not b ≡ plain_cell h l
    go true q = let z = eqb-true l 0 q in let m = minus_zero_is in cc
    go false q = sym (plain_is h l fh fl (λ _ z. eqb-false l 0 q z))

pub returns-then-h-ne-SIGN : goal.returns-then-h-ne-SIGN
returns-then-h-ne-SIGN c =
    let p = plain_is c.args.h c.args.l c.ranges.h.fits c.ranges.l.fits (λ e. absurd (c.if-h-ne-SIGN.true e)) in rw (ne_eqb _ _ c.if-h-ne-SIGN.true) (sym p)

pub returns-else-h-ne-SIGN : goal.returns-else-h-ne-SIGN
returns-else-h-ne-SIGN c = signed c.args.h c.args.l c.ranges.h.fits c.ranges.l.fits c.if-h-ne-SIGN.false
