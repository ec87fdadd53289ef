use Rattle.std.proofs.Common.{Bool, ◌||◌, length, get_or, arith, sym, ap, ◌∙◌}
use Rattle.codec.specs.Bytes.{is_numbered}
use Rattle.bounds.specs.Intervals.{box_of}
use Rattle.bounds.specs.Ends.{can_stand}
use Rattle.bounds.specs.Rows.{start_of}
use Rattle.bounds.proofs.Bounds.{opening-start, opening-end}
use Rattle.runs.proofs.Stops.{stop-here, stop-rule, stop-fails, stop-on, stop-less}
use Rattle.runs.proofs.holding.first_failing.Goals as goal

pub loop-k-init : goal.loop-k-init
loop-k-init c =
    let p = c.requires in
    opening-start c.args.s.now (start_of c.args.r.now) c.args.first (length c.args.ql.now) (can_stand (box_of c.args.low.now c.args.high.now) (box_of c.args.ql.now c.args.qh.now)) p.0.row.opened p.3 p.4

pub can_stand-requires : goal.can_stand-requires
can_stand-requires c = let p = c.requires in (
  p.0,
  p.1,
  p.2,
  stop-rule c.args.s.now c.args.r.now (can_stand (box_of c.args.low.now c.args.high.now) (box_of c.args.ql.now c.args.qh.now)) c.loop-k-2.at c.loop-k-2.i c.loop-k-2.invariant.opening
      (ap (λ (x : Bool). x || is_numbered (get_or c.args.s.now c.loop-k-2.at 0)) (sym c.bare_at.ensures ∙ c.loop-k-2-test.true)),
)

pub returns-then-not-can_stand : goal.returns-then-not-can_stand
returns-then-not-can_stand c =
    stop-fails c.args.s.now c.args.r.now (can_stand (box_of c.args.low.now c.args.high.now) (box_of c.args.ql.now c.args.qh.now)) c.loop-k-2.at c.loop-k-2.i c.loop-k-2.invariant.opening
    (ap (λ (x : Bool). x || is_numbered (get_or c.args.s.now c.loop-k-2.at 0)) (sym c.bare_at.ensures ∙ c.loop-k-2-test.true)) c.if-not-can_stand.ensures

pub next-at-requires : goal.next-at-requires
next-at-requires c = (stop-here c.args.s.now c.args.r.now (can_stand (box_of c.args.low.now c.args.high.now) (box_of c.args.ql.now c.args.qh.now)) c.loop-k-2.at c.loop-k-2.i c.loop-k-2.invariant.opening
    (ap (λ (x : Bool). x || is_numbered (get_or c.args.s.now c.loop-k-2.at 0)) (sym c.bare_at.ensures ∙ c.loop-k-2-test.true))).whole

pub overflow_add-i : goal.overflow_add-i
overflow_add-i c =
    let few = (stop-rule c.args.s.now c.args.r.now (can_stand (box_of c.args.low.now c.args.high.now) (box_of c.args.ql.now c.args.qh.now)) c.loop-k-2.at c.loop-k-2.i c.loop-k-2.invariant.opening
    (ap (λ (x : Bool). x || is_numbered (get_or c.args.s.now c.loop-k-2.at 0)) (sym c.bare_at.ensures ∙ c.loop-k-2-test.true))).few in omega arith

pub can_stand-requires-in-loop-k : goal.can_stand-requires-in-loop-k
can_stand-requires-in-loop-k c = let p = c.requires in (
  p.0,
  p.1,
  p.2,
  stop-rule c.args.s.now c.args.r.now (can_stand (box_of c.args.low.now c.args.high.now) (box_of c.args.ql.now c.args.qh.now)) c.loop-k-2.at c.loop-k-2.i c.loop-k-2.invariant.opening
      (sym c.constraint_at.ensures ∙ c.if-not-constraint_at.false),
)

pub returns-then-not-can_stand-2 : goal.returns-then-not-can_stand-2
returns-then-not-can_stand-2 c =
    stop-fails c.args.s.now c.args.r.now (can_stand (box_of c.args.low.now c.args.high.now) (box_of c.args.ql.now c.args.qh.now)) c.loop-k-2.at c.loop-k-2.i c.loop-k-2.invariant.opening
    (sym c.constraint_at.ensures ∙ c.if-not-constraint_at.false) c.if-not-can_stand-2.ensures

pub next-at-requires-in-loop-k : goal.next-at-requires-in-loop-k
next-at-requires-in-loop-k c = (stop-here c.args.s.now c.args.r.now (can_stand (box_of c.args.low.now c.args.high.now) (box_of c.args.ql.now c.args.qh.now)) c.loop-k-2.at c.loop-k-2.i c.loop-k-2.invariant.opening
    (sym c.constraint_at.ensures ∙ c.if-not-constraint_at.false)).whole

pub overflow_add-i-in-loop-k : goal.overflow_add-i-in-loop-k
overflow_add-i-in-loop-k c =
    let few = (stop-rule c.args.s.now c.args.r.now (can_stand (box_of c.args.low.now c.args.high.now) (box_of c.args.ql.now c.args.qh.now)) c.loop-k-2.at c.loop-k-2.i c.loop-k-2.invariant.opening
    (sym c.constraint_at.ensures ∙ c.if-not-constraint_at.false)).few in omega arith

pub loop-k-2-smaller : goal.loop-k-2-smaller
loop-k-2-smaller c =
    stop-less c.args.s.now c.args.r.now (can_stand (box_of c.args.low.now c.args.high.now) (box_of c.args.ql.now c.args.qh.now)) c.loop-k-2.at c.loop-k-2.i c.loop-k-2.invariant.opening
    (ap (λ (x : Bool). x || is_numbered (get_or c.args.s.now c.loop-k-2.at 0)) (sym c.bare_at.ensures ∙ c.loop-k-2-test.true)) c.next-at.result c.next-at.ensures

pub loop-k-2-preserved : goal.loop-k-2-preserved
loop-k-2-preserved c =
    let here = stop-here c.args.s.now c.args.r.now (can_stand (box_of c.args.low.now c.args.high.now) (box_of c.args.ql.now c.args.qh.now)) c.loop-k-2.at c.loop-k-2.i c.loop-k-2.invariant.opening
    (ap (λ (x : Bool). x || is_numbered (get_or c.args.s.now c.loop-k-2.at 0)) (sym c.bare_at.ensures ∙ c.loop-k-2-test.true)) in
    let known = here.whole.known in record {
      opening = stop-on c.args.s.now c.args.r.now (can_stand (box_of c.args.low.now c.args.high.now) (box_of c.args.ql.now c.args.qh.now)) c.loop-k-2.at c.loop-k-2.i c.loop-k-2.invariant.opening
          (ap (λ (x : Bool). x || is_numbered (get_or c.args.s.now c.loop-k-2.at 0)) (sym c.bare_at.ensures ∙ c.loop-k-2-test.true)) c.next-at.result c.next-at.ensures c.if-not-can_stand.ensures;
      past = omega (arith, c.next-at.ensures, c.loop-k-2.invariant.past);
    }

pub returns-then-not-constraint_at : goal.returns-then-not-constraint_at
returns-then-not-constraint_at c =
    sym (opening-end c.args.s.now (start_of c.args.r.now) (can_stand (box_of c.args.low.now c.args.high.now) (box_of c.args.ql.now c.args.qh.now)) c.loop-k-2.at c.loop-k-2.i c.loop-k-2.invariant.opening (sym c.if-not-constraint_at.ensures))

pub loop-k-smaller : goal.loop-k-smaller
loop-k-smaller c =
    let less = stop-less c.args.s.now c.args.r.now (can_stand (box_of c.args.low.now c.args.high.now) (box_of c.args.ql.now c.args.qh.now)) c.loop-k-2.at c.loop-k-2.i c.loop-k-2.invariant.opening
    (sym c.constraint_at.ensures ∙ c.if-not-constraint_at.false) c.next-at-in-loop-k.result c.next-at-in-loop-k.ensures in
    omega (arith, less, c.loop-k-2.invariant.past)

pub loop-k-preserved : goal.loop-k-preserved
loop-k-preserved c =
    stop-on c.args.s.now c.args.r.now (can_stand (box_of c.args.low.now c.args.high.now) (box_of c.args.ql.now c.args.qh.now)) c.loop-k-2.at c.loop-k-2.i c.loop-k-2.invariant.opening
    (sym c.constraint_at.ensures ∙ c.if-not-constraint_at.false) c.next-at-in-loop-k.result c.next-at-in-loop-k.ensures c.if-not-can_stand-2.ensures
