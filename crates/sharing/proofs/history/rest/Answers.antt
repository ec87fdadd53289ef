use Rattle.std.proofs.Common.{◌∙◌, ap, sym, arith}
use Rattle.simplex.proofs.Moves.{run-stop, run-pivot, pivot-left, pivot-fine, crossing}
use Rattle.sharing.proofs.history.rest.Goals as goal

pub returns-in-Stop : goal.returns-in-Stop
returns-in-Stop c = ap (λ o. o.verdict) (sym (run-stop _ _ _ _ c.in-Stop.x (sym c.choose.ensures ∙ c.in-Stop.is)) ∙ c.loop-x.invariant.1)

pub pivot-requires : goal.pivot-requires
pivot-requires c = crossing _ _ _ _ _ _ _ c.loop-x.invariant.0 (sym c.choose.ensures ∙ c.in-Pivot.is)

pub overflow_sub-left : goal.overflow_sub-left
overflow_sub-left c = pivot-left _ _ _ _ _ _ (sym c.choose.ensures ∙ c.in-Pivot.is)

pub loop-x-smaller : goal.loop-x-smaller
loop-x-smaller c = let h = pivot-left _ _ _ _ _ _ (sym c.choose.ensures ∙ c.in-Pivot.is) in omega (arith, h)

pub loop-x-preserved : goal.loop-x-preserved
loop-x-preserved c =
    let e = sym c.choose.ensures ∙ c.in-Pivot.is in
    let f = c.loop-x.invariant.0 in
    let x = crossing _ _ _ _ _ _ _ f e in
    rw (c.pivot.ensures.0, c.pivot.ensures.1) (pivot-fine _ _ _ _ _ _ f x, run-pivot _ _ _ _ _ _ e ∙ c.loop-x.invariant.1)
