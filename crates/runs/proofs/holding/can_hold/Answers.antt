use Rattle.std.proofs.Common.{◌≡◌, List, length, length-take, take, arith, ap, ◌∙◌}
use Rattle.model.specs.Lists.{all}
use Rattle.codec.specs.Places.{basic_at}
use Rattle.bounds.specs.Sizes.{most_quotient}
use Rattle.bounds.specs.Intervals.{Interval, box_of}
use Rattle.bounds.specs.Ends.{can_stand}
use Rattle.bounds.specs.Rows.{start_of}
use Rattle.bounds.proofs.Reading.{take_within}
use Rattle.runs.proofs.Stops.{stop_none}
use Rattle.runs.proofs.holding.can_hold.Goals as goal

pub first_failing-requires : goal.first_failing-requires
first_failing-requires c =
    let e = c.bounded-p.ensures in let ql = c.bounded-p.new.ql in let qh = c.bounded-p.new.qh in let m = c.bounded-p.result.count in
    let f = e.few in let l = e.lows in let h = e.highs in
    let taken : length (take m ql) ≡ m = omega (arith, length-take m ql) in (
      c.requires.0,
      c.requires.1,
      record { few = omega arith; same = omega (arith, length-take m qh); lows = take_within most_quotient ql m e.low_size; highs = take_within most_quotient qh m e.high_size },
      e.past,
      taken ∙ e.count,
    )

pub returns : goal.returns
returns c =
    let a = c.args in let xs = box_of a.low.now a.high.now in let m = c.bounded-p.result.count in
    let qs = box_of (take m c.bounded-p.new.ql) (take m c.bounded-p.new.qh) in
    stop_none a.s.now a.r.now (can_stand xs qs) c.first_failing.result c.is_none.result c.is_none.ensures c.first_failing.ensures
    ∙ ap (λ (z : List Interval). all (can_stand xs z) (basic_at a.s.now (start_of a.r.now)).constraints) c.bounded-p.ensures.is
