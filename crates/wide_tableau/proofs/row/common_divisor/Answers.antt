use Rattle.std.proofs.Common.{ℕ, ◌+◌, sym, refl, ap, ◌∙◌, drop, nat_abs, arith}
use Rattle.std.specs.Prelude.{ℤ}
use Rattle.wide_tableau.specs.Cells.{cells}
use Rattle.wide.specs.Wide.{size}
use Rattle.integers.specs.Gcd.{gcd}
use Rattle.tableau.specs.Rows as R
use Rattle.tableau.proofs.Lines as L
use Rattle.wide_tableau.proofs.row.common_divisor.Goals as goal

pub loop-i-init : goal.loop-i-init
loop-i-init c = refl

pub loop-i-preserved : goal.loop-i-preserved
loop-i-preserved c =
    let i = c.loop-i.i in
    let g = size c.loop-i.g in
    let r = cells c.args.r.now in
    let f = c.requires.1 in
    let e = c.divisor_with-g.ensures ∙ ap (λ (z : ℤ). gcd (nat_abs z) g) c.cell_at.ensures.0 in
    ap (λ (g : ℕ). R.divisor_from g (drop (i + 1) r)) e ∙ L.divisor-step r i g (omega (arith, f.fit, f.long)) ∙ c.loop-i.invariant

pub returns : goal.returns
returns c = sym (L.divisor-end c.args.n c.loop-i.i (size c.loop-i.g) (cells c.args.r.now) c.requires.1 (omega arith)) ∙ c.loop-i.invariant
