use Rattle.std.proofs.Common.{◌≡◌, ℕ, sym, ap, ◌∙◌, nat_abs}
use Rattle.wide.specs.Wide.{size, value_of}
use borrow.Author.Tests.{eqb-true}
use Rattle.integers.specs.Gcd.{gcd}
use Rattle.wide.proofs.Signs.{nat_abs-signed}
use Rattle.tableau.proofs.Lines as L
use Rattle.wide_tableau.proofs.row.divisor_with.Goals as goal

pub returns-then-is_one : goal.returns-then-is_one
returns-then-is_one c =
    let x = c.args.x in
    let e : size c.args.g ≡ 1 = eqb-true _ _ (sym c.is_one.ensures ∙ c.if-is_one.true) in
    e ∙ sym (L.gcd-one (nat_abs (value_of x))) ∙ ap (gcd (nat_abs (value_of x))) (sym e)

pub returns-else-is_one : goal.returns-else-is_one
returns-else-is_one c =
    let x = c.args.x in
    c.gcd.ensures ∙ ap (λ (n : ℕ). gcd n (size c.args.g)) (sym (nat_abs-signed x.neg (size x.magnitude)))
