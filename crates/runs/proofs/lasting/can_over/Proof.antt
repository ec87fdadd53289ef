use native.Mathlib.Omega.{arith}
use borrow.Author.Rules.{rules}
use mathlib.Core.Path.{ap, ◌∙◌}
use mathlib.Core.List.{List}
use lib.ListN.{length-take}
use Rattle.bounds.specs.Intervals.{Interval, box_of}
use Rattle.bounds.specs.Ends.{can_stand}
use Rattle.codec.specs.Places.{constraint_at}
use Rattle.bounds.proofs.Reading.{take_within}
use Rattle.runs.proofs.lasting.can_over.Statement.{statement}
use Rattle.runs.proofs.lasting.can_over.Tie as tie

no-values-requires : tie.Need-no_values-ql-requires
no-values-requires c κs = search rules

no-values-requires-2 : tie.Need-no_values-qh-requires
no-values-requires-2 c κs = search rules

slice-aggregate-bounded : tie.Need-slice_bounds-bounded-end
slice-aggregate-bounded c = search rules

slice-aggregate-bounded-2 : tie.Need-slice_bounds-bounded-end-2
slice-aggregate-bounded-2 c = search rules

bounded-requires : tie.Need-bounded-p-requires
bounded-requires c κs = search rules

array-share-prefix-ql : tie.Need-slice_bounds-ql-end
array-share-prefix-ql c = search rules

slice-aggregate-can-stand : tie.Need-slice_bounds-can_stand-end
slice-aggregate-can-stand c =
    let d = c.before.before.before in let f = d.bounded-p.ensures.few in let l = d.bounded-p.ensures.lows in omega (arith, length-take d.bounded-p.result.count d.bounded-p.new.ql)

array-share-prefix-qh : tie.Need-slice_bounds-qh-end
array-share-prefix-qh c = search rules

slice-aggregate-can-stand-2 : tie.Need-slice_bounds-can_stand-end-2
slice-aggregate-can-stand-2 c =
    let d = c.before.before.before.before in let f = d.bounded-p.ensures.few in let l = d.bounded-p.ensures.highs in omega (arith, length-take d.bounded-p.result.count d.bounded-p.new.qh)

can-stand-requires : tie.Need-can_stand-requires
can-stand-requires c κs =
    let d = c.before.before.before.before in let st = d.before.before.before.before.before.before in let e = d.bounded-p.ensures in
    let ql = d.bounded-p.new.ql in let qh = d.bounded-p.new.qh in let m = d.bounded-p.result.count in
    let f = e.few in let l = e.lows in let h = e.highs in
    (st.requires.0, st.requires.1, record { few = omega (arith, length-take m ql); same = omega (arith, length-take m ql, length-take m qh); lows = take_within 549755813888 ql m e.low_size; highs = take_within 549755813888 qh m e.high_size }, st.requires.2)

returns : tie.Need-returns
returns c =
    let d = c.before.before.before.before.before in let st = d.before.before.before.before.before.before in let a = st.args in
    c.can_stand.ensures ∙ ap (λ (qs : List Interval). can_stand (box_of a.low.now a.high.now) qs (constraint_at a.s.now a.at)) d.bounded-p.ensures.is

pub can_over_spec : {M : Type 1} → statement M
can_over_spec =
    tie.close
    (tie.spec
    no-values-requires
    no-values-requires-2
    slice-aggregate-bounded
    slice-aggregate-bounded-2
    bounded-requires
    array-share-prefix-ql
    slice-aggregate-can-stand
    array-share-prefix-qh
    slice-aggregate-can-stand-2
    can-stand-requires
    returns)
