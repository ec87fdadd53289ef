use Rattle.std.proofs.Common.{◌≡◌, ◌∙◌, sym, ◌-◌, arith}
use Rattle.simplex.specs.declared.Move.TheVariants.{Pivot}
use Rattle.simplex.specs.Table.{move_of}
use Rattle.sharing.proofs.Going.{going_end, going-made, made-less, crosses}
use Rattle.sharing.proofs.history.go_on.Goals as goal

pub returns-in-Stop : goal.returns-in-Stop
returns-in-Stop c = going_end _ _ _ _ _ _ _ _ _ _ _ _ c.loop-x.invariant c.in-Stop.x (sym c.choose.ensures ∙ c.in-Stop.is)

pub make-requires-clause-crossing : goal.make-requires-clause-crossing
make-requires-clause-crossing c = crosses _ _ _ _ _ _ _ _ _ _ _ _ c.loop-x.invariant _ _ (sym c.choose.ensures ∙ c.in-Pivot.is)

pub make-requires-clause-k_in_bounds : goal.make-requires-clause-k_in_bounds
make-requires-clause-k_in_bounds c =
    let i = c.loop-x.invariant in
    let h = made-less _ _ _ _ _ _ _ _ _ _ _ _ i _ _ (sym c.choose.ensures ∙ c.in-Pivot.is) in
    let m = i.many in
    omega (arith, h, m)

pub make-requires-clause-k_in_bounds_2 : goal.make-requires-clause-k_in_bounds_2
make-requires-clause-k_in_bounds_2 c =
    let i = c.loop-x.invariant in
    let h = made-less _ _ _ _ _ _ _ _ _ _ _ _ i _ _ (sym c.choose.ensures ∙ c.in-Pivot.is) in
    let m = i.many' in
    omega (arith, h, m)

pub loop-x-smaller : goal.loop-x-smaller
loop-x-smaller c =
    let h = made-less _ _ _ _ _ _ _ _ _ _ _ _ c.loop-x.invariant _ _ (sym c.choose.ensures ∙ c.in-Pivot.is) in
    omega (arith, h)

pub loop-x-preserved : goal.loop-x-preserved
loop-x-preserved c = going-made _ _ _ _ _ _ _ _ _ _ _ _ c.loop-x.invariant _ _ (sym c.choose.ensures ∙ c.in-Pivot.is) _ _ _ _ c.make.ensures
