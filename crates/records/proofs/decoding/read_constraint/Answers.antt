use Rattle.std.proofs.Common.{◌≡◌, ℕ, Bool, true, false, cond, refl, ap, ◌∙◌}
use Rattle.std.specs.Int.{w32}
use Rattle.integers.specs.Mach.{result_is}
use Rattle.model.specs.Values.{kind_is}
use Rattle.model.specs.Sets.{equality, inequality}
use Rattle.codec.specs.Bytes.{is_equality, kind_of}
use Rattle.records.proofs.decoding.read_constraint.Goals as goal

kind-is : (b : ℕ) → kind_is (is_equality b) ≡ kind_of b
kind-is b = by (is_equality b)
  where
    by : (x : Bool) → kind_is x ≡ cond x equality inequality
    by true = refl
    by false = refl

pub returns : goal.returns
returns c =
    let e = result_is w32 c.i32_at.result c.i32_at.type_inv ∙ c.i32_at.ensures in
    let k = ap kind_is c.is_equality.ensures ∙ kind-is c.args.b in
    λ i. record { kind = k i; number = c.args.m; constant = e i; axes = c.coefficients.ensures i; divisions = c.coefficients-2.ensures i }
