use Rattle.std.proofs.Common.{◌≡◌, Bool, true, false, sym, refl, ap, eqb, negsuc, of_z, w16, arith}
use Rattle.std.proofs.lemmas.Bool.{eqb-true, eqb-false}
use Rattle.integers.specs.Mach.{of_z-same}
use Rattle.joining.specs.Joining.{is_unit}
use Rattle.joining.proofs.Dividing.{not-unit}
use Rattle.joining.proofs.tightening.is_unit.Goals as goal

pub returns-else-x-eq1 : goal.returns-else-x-eq1
returns-else-x-eq1 c = at (eqb (of_z w16 c.args.x) 65535) refl
  where
    at : (b : Bool) → eqb (of_z w16 c.args.x) 65535 ≡ b → b ≡ is_unit c.args.x
    at true e =
        let p : c.args.x ≡ negsuc 0 = of_z-same c.ranges.x (record { sfits = omega arith }) (eqb-true _ _ e) in
        sym (ap is_unit p)
    at false e = not-unit c.args.x (λ p. c.if-x-eq1.false (ap (of_z w16) p)) (λ p. eqb-false _ _ e (ap (of_z w16) p))
