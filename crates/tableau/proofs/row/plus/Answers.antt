-- Place i is still what it was when its turn comes.
use Rattle.std.proofs.Common.{ap, ◌∙◌, get_or, pos, negsuc, arith}
use mir.Facts.{to_z-of_z}
use Rattle.tableau.proofs.Lines.{up_to-none, up_to-more, up_to-next, up_to-combine, mul_sub, plus_step, sum_fits, back, wider}
use Rattle.tableau.proofs.row.plus.Goals as goal

pub loop-i-init : goal.loop-i-init
loop-i-init c = up_to-none _ _

pub overflow_add-r : goal.overflow_add-r
overflow_add-r c =
    let i = c.loop-i.i in
    let x = c.requires.2 i in
    let y = c.requires.3 i in
    let e = ap (λ r. get_or r i (pos 0)) c.loop-i.invariant ∙ up_to-next _ i c.args.r.now (pos 0) in
    rw (e, back (wider x), back (wider y)) (sum_fits x y)

pub loop-i-preserved : goal.loop-i-preserved
unfolding mul_sub
loop-i-preserved c =
    let i = c.loop-i.i in
    let x = c.requires.2 i in
    let y = c.requires.3 i in
    let e = ap (λ r. get_or r i (pos 0)) c.loop-i.invariant ∙ up_to-next _ i c.args.r.now (pos 0) in
    let long = c.requires.0.long in
    up_to-more (pos 0) (mul_sub (pos 1) (negsuc 0) c.args.q.now) i c.args.r.now c.loop-i.r _ (omega arith) c.loop-i.invariant
    (rw (e, back (wider x), back (wider y)) (to_z-of_z (sum_fits x y) ∙ plus_step (get_or c.args.r.now i (pos 0)) (get_or c.args.q.now i (pos 0))))

pub returns : goal.returns
returns c =
    c.loop-i.invariant ∙ up_to-combine _ _ 18 c.loop-i.i c.args.r.now c.args.q.now c.requires.0 c.requires.1 (omega arith) (omega arith)
