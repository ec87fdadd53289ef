use Rattle.std.proofs.Common.{◌-◌, List, map, arith, ap, sym, ◌∙◌}
use Rattle.model.specs.Lists.{all}
use Rattle.codec.specs.Places.{basic_at, constraint_at}
use Rattle.bounds.specs.Intervals.{Interval, quotient_side, box_of}
use Rattle.bounds.specs.Ends.{can_stand}
use Rattle.bounds.specs.Rows.{start_of}
use Rattle.runs.specs.Upward.{widened}
use Rattle.runs.proofs.Upward.{lasts-one, more-than-none}
use Rattle.runs.proofs.holding.constraints_run.Goals as goal

pub constraint_run-requires : goal.constraint_run-requires
constraint_run-requires c =
    let a = c.args in let p = c.requires in let e = c.in-Some.ensures in
    let last = lasts-one a.s.now a.k a.low.now a.high.now (start_of a.r.now) (constraint_at a.s.now c.in-Some.stop.at) (box_of a.ql.now a.qh.now) p.5 e.falls in
    (p.0, p.1, p.2, e.rule, p.6, p.7, last)

pub returns-in-None : goal.returns-in-None
returns-in-None c =
    let a = c.args in let xs = box_of a.low.now a.high.now in
    record {
      is = sym c.in-None.ensures ∙ ap (λ (y : List Interval). all (can_stand xs y) (basic_at a.s.now (start_of a.r.now)).constraints) c.requires.5;
      far = λ h. absurd (omega arith);
      few = omega arith;
    }

pub returns-in-Some : goal.returns-in-Some
returns-in-Some c =
    let a = c.args in let xs = box_of a.low.now a.high.now in let qs = box_of a.ql.now a.qh.now in let b = basic_at a.s.now (start_of a.r.now) in
    let e = c.in-Some.ensures in let g = c.constraint_run.ensures in let u = widened a.k (c.constraint_run.result - 1) a.high.now in
    record {
      is = more-than-none c.constraint_run.result g.size.0 ∙ sym (e.among (can_stand xs qs) e.falls)
          ∙ ap (λ (y : List Interval). all (can_stand xs y) b.constraints) c.requires.5;
      far = λ _. e.among (can_stand (box_of a.low.now u) (map (quotient_side (box_of a.low.now u)) b.divisions)) g.is.fails;
      few = g.size.1;
    }
