-- One number more stands where it was copied to.
use Rattle.std.proofs.Common.{◌≡◌, ◌*ℤ◌, pos, get_or, ap, ◌∙◌, arith, rules}
use mir.Syntax.{w16, w64}
use mir.Val.{SFits, to_z, of_z}
use mir.Facts.{to_z-of_z}
use Rattle.integers.specs.Z.{Within}
use Rattle.simplex.proofs.Fills.{copied_none, copied_more, times-fit}
use Rattle.simplex.proofs.fill.copy.Goals as goal

pub loop-i-init : goal.loop-i-init
loop-i-init c = copied_none _ _ _ _

pub loop-i-preserved : goal.loop-i-preserved
loop-i-preserved c =
    let s = to_z w64 (of_z w64 c.args.s) in
    let x = get_or c.args.a c.loop-i.i (pos 0) in
    let one : Within 1 s = simp (to_z-of_z c.ranges.s) c.requires.within in
    let short : SFits w16 x = search rules in
    let read : to_z w64 (of_z w64 c.from.result) ≡ x = to_z-of_z {w = w64} (record { sfits = c.from.type_inv }) ∙ c.from.ensures ∙ to_z-of_z short in
    let product : to_z w64 (of_z w64 (s *ℤ to_z w64 (of_z w64 c.from.result))) ≡ s *ℤ x = ap (λ z. to_z w64 (of_z w64 (s *ℤ z))) read ∙ to_z-of_z (times-fit one short) in
    copied_more c.args.base s c.loop-i.i c.args.a c.args.r.now c.loop-i.r _ (omega arith) product c.loop-i.invariant
