use Rattle.std.proofs.Common.{◌≡◌, true, false, ℤ, pos, w64, arith, refl, sym, ap, ◌∙◌}
use Rattle.std.specs.Int.Signed.{non_neg, le_z}
use Rattle.integers.specs.Mach.{result_is, b-of, b-lit, is_lt, is_ge}
use Rattle.integers.specs.Size.{within-mono}
use Rattle.model.specs.Sets.{Kind, equality}
use Rattle.codec.specs.Bytes.{kind_of, read_constraint}
use Rattle.codec.proofs.Parsing.{kind-equality}
use Rattle.bounds.specs.Intervals.{can_meet}
use Rattle.bounds.specs.Ends.{meet_side}
use Rattle.bounds.proofs.Extremes.{back-within}
use Rattle.bounds.proofs.Moves.{end_is}
use Rattle.bounds.proofs.Bounds.{ends-mono, meet-never, meet-equality, negative, positive}
use Rattle.bounds.proofs.ends.can_meet.Goals as goal

pub returns-then-extreme-lt0 : goal.returns-then-extreme-lt0
returns-then-extreme-lt0 c =
    let a = c.args in let d = kind_of a.b in let r = read_constraint d a.t.now in let s = meet_side a.k a.from a.to a.l a.h a.ql.now a.qh.now r in
    let x : c.extreme.result ≡ s.high = end_is a.k r c.extreme.result c.end_at-g.result a.h a.to a.from a.qh.now a.ql.now c.ranges.h c.ranges.to c.ranges.from (record { sfits = c.end_at-g.type_inv }) c.end_at-g.ensures.is c.extreme.ensures.is in
    let h : non_neg c.extreme.result ≡ false = negative {z = c.extreme.result} (is_lt (b-of (record { sfits = c.extreme.type_inv })) (b-lit w64 0 refl) c.if-extreme-lt0.true) in
    meet-never d s.low s.high (ap non_neg (sym x) ∙ h)

pub extreme-requires-2 : goal.extreme-requires-2
extreme-requires-2 c = (c.requires.0, ends-mono (omega arith) c.requires.4, back-within (omega arith) (within-mono (omega arith) c.end_at-f.ensures.size))

pub returns : goal.returns
returns c =
    let a = c.args in let r = read_constraint equality a.t.now in let s = meet_side a.k a.from a.to a.l a.h a.ql.now a.qh.now r in
    let x : c.extreme.result ≡ s.high = end_is a.k r c.extreme.result c.end_at-g.result a.h a.to a.from a.qh.now a.ql.now c.ranges.h c.ranges.to c.ranges.from (record { sfits = c.end_at-g.type_inv }) c.end_at-g.ensures.is c.extreme.ensures.is in
    let y : c.extreme-2.result ≡ s.low = end_is a.k r c.extreme-2.result c.end_at-f.result a.l a.from a.to a.ql.now a.qh.now c.ranges.l c.ranges.from c.ranges.to (record { sfits = c.end_at-f.type_inv }) c.end_at-f.ensures.is c.extreme-2.ensures.is in
    let h : non_neg c.extreme.result ≡ true = positive {z = c.extreme.result} (is_ge (b-of (record { sfits = c.extreme.type_inv })) (b-lit w64 0 refl) c.if-extreme-lt0.false) in
    ap (λ (z : ℤ). le_z z (pos 0)) (result_is w64 c.extreme-2.result c.extreme-2.type_inv ∙ y) ∙ meet-equality s.low s.high (ap non_neg (sym x) ∙ h)
    ∙ ap (λ (d : Kind). can_meet d (meet_side a.k a.from a.to a.l a.h a.ql.now a.qh.now (read_constraint d a.t.now))) (sym (kind-equality a.b (sym c.if-not-is_equality.ensures)))
