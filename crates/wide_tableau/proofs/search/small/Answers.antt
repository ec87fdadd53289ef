use Rattle.std.proofs.Common.{◌≡◌, sym, refl, ap, ◌∙◌, Bool, true, false, nat_abs, arith}
use Rattle.std.specs.Prelude.{ℤ}
use Rattle.wide_tableau.specs.Cells.{cells}
use Rattle.integers.specs.Size.{bound}
use lib.Dec.{leb}
use Rattle.tableau.proofs.Searches as Q
use Rattle.wide_tableau.proofs.search.small.Goals as goal

pub loop-i-init : goal.loop-i-init
loop-i-init c = refl

tested : (b : Bool) (z x : ℤ) → b ≡ leb (nat_abs z) (bound 128) → z ≡ x → leb (nat_abs x) (bound 128) ≡ b
tested b z x h e = sym (h ∙ ap (λ (z : ℤ). leb (nat_abs z) (bound 128)) e)

pub returns-then-not-is_small : goal.returns-then-not-is_small
returns-then-not-is_small c =
    let f = c.requires.1 in
    sym (Q.small-step (bound 128) (cells c.args.r.now) c.loop-i.i false (omega (arith, f.fit, f.long)) (tested _ _ _ c.is_small.ensures c.cell_at.ensures.0 ∙ c.if-not-is_small.true)) ∙ c.loop-i.invariant

pub loop-i-preserved : goal.loop-i-preserved
loop-i-preserved c =
    let f = c.requires.1 in
    sym (Q.small-step (bound 128) (cells c.args.r.now) c.loop-i.i true (omega (arith, f.fit, f.long)) (tested _ _ _ c.is_small.ensures c.cell_at.ensures.0 ∙ c.if-not-is_small.false)) ∙ c.loop-i.invariant

pub returns : goal.returns
returns c = Q.small-end (bound 128) c.args.n c.loop-i.i (cells c.args.r.now) c.requires.1 (omega arith) ∙ c.loop-i.invariant
