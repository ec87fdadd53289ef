use Rattle.std.proofs.Common.{◌≡◌, ◌*◌, ◌*ℤ◌, pos, get_or, cond, to_z, of_z, w64, arith, refl, sym, subst, ◌∙◌}
use Rattle.std.specs.Int.Signed.{non_neg}
use Rattle.integers.specs.Z.{Within}
use Rattle.integers.specs.Mach.{to_z_of_z, result_is}
use Rattle.bounds.proofs.Extremes.{summing_start, summing-fits, summing-next, summing-end, summing-size, term-plain, term-within, back-within}
use Rattle.bounds.proofs.ends.extreme.Goals as goal

pub loop-i-init : goal.loop-i-init
loop-i-init c = summing_start c.args.t.now c.args.p c.args.u.now c.args.v.now _ _ refl

-- what a call of term gives, in the plain numbers
term_is : (c : goal.After-term-sum) → to_z w64 (of_z w64 c.term-sum.result)
    ≡ c.s16_at.result *ℤ cond (non_neg c.s16_at.result) (get_or c.args.u.now c.loop-i.i (pos 0)) (get_or c.args.v.now c.loop-i.i (pos 0))
term_is c =
    result_is w64 c.term-sum.result c.term-sum.type_inv ∙ c.term-sum.ensures
    ∙ term-plain c.s16_at.ensures.size (c.requires.1.lows.at c.loop-i.i) (c.requires.1.highs.at c.loop-i.i)

pub overflow_add-sum : goal.overflow_add-sum
overflow_add-sum c =
    let i = c.loop-i.i in let few = c.requires.1.few in let same = c.requires.1 in
    summing-fits c.args.t.now c.args.p c.args.u.now c.args.v.now (to_z w64 (of_z w64 c.args.from)) (to_z w64 c.loop-i.sum-bits) i c.loop-i.invariant (omega arith) 2199023255552 (omega arith)
    (back-within (omega arith) c.requires.2) same.lows same.highs _
    (subst (Within (32768 * 2199023255552)) (sym (term_is c)) (term-within c.s16_at.ensures.size (same.lows.at i) (same.highs.at i)))

pub loop-i-preserved : goal.loop-i-preserved
loop-i-preserved c =
    summing-next c.args.t.now c.args.p c.args.u.now c.args.v.now (to_z w64 (of_z w64 c.args.from)) (to_z w64 c.loop-i.sum-bits) c.loop-i.i c.loop-i.invariant
    c.loop-i-test.true c.requires.1.same c.requires.1.few _ c.s16_at.result _ c.s16_at.ensures.is c.s16_at.ensures.size (term_is c) (to_z_of_z (overflow_add-sum c))

pub returns-clause-is : goal.returns-clause-is
returns-clause-is c =
    summing-end c.args.t.now c.args.p c.args.u.now c.args.v.now (to_z w64 (of_z w64 c.args.from)) (to_z w64 c.loop-i.sum-bits) c.loop-i.i c.loop-i.invariant c.loop-i-test.false
    ∙ rw (to_z_of_z c.ranges.from)

pub returns-clause-size : goal.returns-clause-size
returns-clause-size c F B f hu hv =
    let few = c.requires.1.few in
    summing-size c.args.t.now c.args.p c.args.u.now c.args.v.now (to_z w64 (of_z w64 c.args.from)) (to_z w64 c.loop-i.sum-bits) c.loop-i.i c.loop-i.invariant (omega arith) F B
    (rw (to_z_of_z c.ranges.from) f) hu hv
