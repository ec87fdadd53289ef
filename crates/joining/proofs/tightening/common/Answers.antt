use Rattle.std.proofs.Common.{◌≡◌, ℕ, ◌+◌, ◌-◌, ◌≤◌, ◌∙◌, sym, ap, subst, length, get_or, drop, ℤ, pos, nat_abs, SFits, w16, lit≤, rules, arith}
use Rattle.std.proofs.lemmas.Int.{to_z-of_z}
use Rattle.feasibility.specs.Tableau.{gcd}
use Rattle.joining.specs.Joining.{common_from}
use Rattle.joining.proofs.Dividing.{gcd-small, common-step, common-one, fits-small}
use Rattle.joining.proofs.tightening.common.Goals as goal

pub returns-then-r-eq1 : goal.returns-then-r-eq1
returns-then-r-eq1 c = (sym (common-one c.args.xs c.loop-k.k c.args.g (sym c.loop-k.invariant.0 ∙ c.if-r-eq1.true)), lit≤ tt)

pub loop-k-preserved : goal.loop-k-preserved
loop-k-preserved c =
    let xs = c.args.xs in
    let k = c.loop-k.k - 1 in
    let x = get_or xs k (pos 0) in
    let l : length xs ≡ 8 = search rules in
    let s : SFits w16 x = search rules in
    let i : c.loop-k.k ≡ k + 1 = omega arith in
    let e : c.divisor_with-r.result ≡ gcd (nat_abs x) c.loop-k.r = c.divisor_with-r.ensures ∙ ap (λ (y : ℤ). gcd (nat_abs y) c.loop-k.r) (to_z-of_z w16 x s) in (
      e ∙ ap (gcd (nat_abs x)) (c.loop-k.invariant.0 ∙ ap (λ (n : ℕ). common_from c.args.g (drop n xs)) i) ∙ sym (common-step xs k c.args.g (omega arith)),
      subst (λ (n : ℕ). n ≤ 32768) (sym e) (gcd-small (nat_abs x) c.loop-k.r (fits-small x s) c.loop-k.invariant.1),
    )
