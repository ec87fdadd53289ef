use Rattle.std.proofs.Common.{sym, refl, ap, ◌∙◌, drop, get_or, ◌+◌, pos, nat_abs, rules, arith}
use mir.Syntax.{w64}
use mir.Val.{SFits}
use mir.Facts.{to_z-of_z}
use Rattle.integers.specs.Gcd.{gcd}
use Rattle.tableau.specs.Rows.{divisor_from}
use Rattle.tableau.proofs.Lines.{divisor-one, divisor-step, divisor-end}
use Rattle.tableau.proofs.row.common_divisor.Goals as goal

pub loop-at-init : goal.loop-at-init
loop-at-init c = refl

pub returns-then-g-eq1 : goal.returns-then-g-eq1
returns-then-g-eq1 c =
    let l = drop c.loop-at.at c.args.r.now in
    sym (divisor-one l) ∙ ap (λ g. divisor_from g l) (sym c.if-g-eq1.true) ∙ c.loop-at.invariant

pub loop-at-preserved : goal.loop-at-preserved
loop-at-preserved c =
    let i = c.loop-at.at in
    let r = c.args.r.now in
    let f = c.requires in
    let x : SFits w64 (get_or r i (pos 0)) = search rules in
    ap (λ g. divisor_from g (drop (i + 1) r)) (c.gcd-g.ensures ∙ ap (λ m. gcd m c.loop-at.g) (c.unsigned_abs.ensures.value ∙ ap nat_abs (to_z-of_z x)))
    ∙ divisor-step r i c.loop-at.g (omega (arith, f.fit, f.long)) ∙ c.loop-at.invariant

pub returns : goal.returns
returns c = sym (divisor-end c.args.n c.loop-at.at c.loop-at.g c.args.r.now c.requires (omega arith)) ∙ c.loop-at.invariant
