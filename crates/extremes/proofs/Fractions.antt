-- The expression's value as the code has it. Assumes nothing.
use mathlib.Core.Path.{◌≡◌, sym, ap, ap₂, ◌∙◌, subst}
use mathlib.Core.List.{List}
use Prim.Native.Nat.{ℕ, ◌/◌, ◌<◌}
use native.Mathlib.Nat.{pos_of_dvd_of_pos}
use lib.IntN.{ℤ, pos, nat_abs}
use lib.Signed.{quot_z, ◌<ℤ◌}
use lib.ListN.{get_or}
use Rattle.integers.specs.Gcd.{gcd, gcd-is}
use Rattle.tableau.specs.Rows.{den}
use Rattle.tableau.proofs.Lines.{pos_nat_abs}
use Rattle.wide.specs.Wide.{signed, value_of, size}
use Rattle.wide.specs.declared.Magnitude.{Magnitude}
use Rattle.wide.specs.declared.Wide.{Wide}
use Rattle.wide.proofs.Signs.{nat_abs-signed, signed_quot}
use Rattle.optimum.specs.Value.{attained}
use Rattle.climbing.specs.Steps.{fraction_of}

size_of : (x : Wide) (z : ℤ) → value_of x ≡ z → size x.magnitude ≡ nat_abs z
size_of x z e = sym (nat_abs-signed x.neg (size x.magnitude)) ∙ ap nat_abs e

pub divisor-positive : (c d : Wide) (g : Magnitude) (z : ℤ) → value_of d ≡ z → pos 0 <ℤ z → size g ≡ gcd (size c.magnitude) (size d.magnitude) → 0 < size g
divisor-positive c d g z e h q =
    let p : 0 < size d.magnitude = subst (λ n. 0 < n) (sym (size_of d z e)) (pos_nat_abs z h) in
    subst (λ n. 0 < n) (sym q) (pos_of_dvd_of_pos (gcd-is (size c.magnitude) (size d.magnitude)).right p)

-- the size of a quotient
quotient-size : (x q : Wide) (g : ℕ) → value_of q ≡ quot_z (value_of x) (pos g) → size q.magnitude ≡ size x.magnitude / g
quotient-size x q g e =
    let n = size x.magnitude in
    size_of q (signed x.neg (n / g)) (e ∙ sym (signed_quot x.neg n g)) ∙ nat_abs-signed x.neg (n / g)

module _ (row : List ℤ) (c d : Wide) (g : Magnitude) (above : value_of c ≡ get_or row 1 (pos 0)) (below : value_of d ≡ den row)
    (common : size g ≡ gcd (size c.magnitude) (size d.magnitude)) where
  divisor_is : size g ≡ gcd (nat_abs (get_or row 1 (pos 0))) (nat_abs (den row))
  divisor_is = common ∙ ap₂ gcd (size_of c (get_or row 1 (pos 0)) above) (size_of d (den row) below)

  pub fraction-is : (x q : Wide) → value_of x ≡ quot_z (value_of c) (pos (size g)) → value_of q ≡ quot_z (value_of d) (pos (size g)) → attained (value_of x) (size q.magnitude) ≡ fraction_of row
  unfolding fraction_of
  fraction-is x q e f =
      ap₂ attained (e ∙ ap₂ (λ z n. quot_z z (pos n)) above divisor_is)
      (quotient-size d q (size g) f ∙ ap₂ (λ m n. m / n) (size_of d (den row) below) divisor_is)
