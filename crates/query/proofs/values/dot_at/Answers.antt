use Rattle.std.proofs.Common.{◌≤◌, ℤ, ◌+ℤ◌, to_z, w64, arith, ap, ◌∙◌}
use Rattle.integers.specs.Mach.{to_z_of_z}
use Rattle.query.proofs.Reading.{summed-start, summed-next, summed-end, summed-size, product-is, product-fits, fit-add}
use Rattle.query.proofs.values.dot_at.Goals as goal

pub loop-i-init : goal.loop-i-init
loop-i-init c = summed-start c.args.t.now c.args.p c.args.x.now

pub overflow_mul-sum : goal.overflow_mul-sum
overflow_mul-sum c = product-fits c.s16_at.ensures.size (c.requires.2.at c.loop-i.i)

pub overflow_add-sum : goal.overflow_add-sum
overflow_add-sum c =
    let a = c.s16_at.ensures.size in let v = c.requires.2.at c.loop-i.i in
    let few : c.loop-i.i ≤ 8 = omega arith in rw (product-is a v) (fit-add (c.loop-i.invariant.size 549755813888 c.requires.2) few a v)

pub loop-i-preserved : goal.loop-i-preserved
loop-i-preserved c =
    let sum : ℤ = to_z w64 c.loop-i.sum-bits in let a = c.s16_at.ensures in
    summed-next c.args.t.now c.args.p c.args.x.now sum c.loop-i.i c.loop-i.invariant _ c.s16_at.result c.loop-i-test.true c.requires.1 a.is a.size
    (to_z_of_z (overflow_add-sum c) ∙ ap (λ (z : ℤ). sum +ℤ z) (product-is a.size (c.requires.2.at c.loop-i.i)))

pub returns-clause-is : goal.returns-clause-is
returns-clause-is c = summed-end c.args.t.now c.args.p c.args.x.now (to_z w64 c.loop-i.sum-bits) c.loop-i.i c.loop-i.invariant c.loop-i-test.false

pub returns-clause-size : goal.returns-clause-size
returns-clause-size c = summed-size c.args.t.now c.args.p c.args.x.now (to_z w64 c.loop-i.sum-bits) c.loop-i.i c.loop-i.invariant (omega arith)
