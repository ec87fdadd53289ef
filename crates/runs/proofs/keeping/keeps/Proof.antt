use mathlib.Core.Path.{sym, ◌∙◌}
use native.Mathlib.Omega.{arith}
use lib.ListN.{length-take}
use Rattle.bounds.specs.Sizes.{most_quotient}
use Rattle.bounds.proofs.Reading.{take_within}
use borrow.Author.Rules.{rules}
use Rattle.runs.proofs.keeping.keeps.Statement.{statement}
use Rattle.runs.proofs.keeping.keeps.Tie as tie

no-values-requires : tie.Need-no_values-ql-requires
no-values-requires c κs = search rules

no-values-requires-2 : tie.Need-no_values-qh-requires
no-values-requires-2 c κs = search rules

slice-aggregate-bounded : tie.Need-slice_bounds-bounded-end
slice-aggregate-bounded c = search rules

slice-aggregate-bounded-2 : tie.Need-slice_bounds-bounded-end-2
slice-aggregate-bounded-2 c = search rules

bounded-requires : tie.Need-bounded-p-requires
bounded-requires c κs = search rules

array-share-prefix-ql : tie.Need-slice_bounds-ql-end
array-share-prefix-ql c = search rules

slice-aggregate-constraints-keep : tie.Need-slice_bounds-constraints_keep-end
slice-aggregate-constraints-keep c =
    let d = c.before.before.before in let f = d.bounded-p.ensures.few in let l = d.bounded-p.ensures.lows in
    omega (arith, length-take d.bounded-p.result.count d.bounded-p.new.ql)

array-share-prefix-qh : tie.Need-slice_bounds-qh-end
array-share-prefix-qh c = search rules

slice-aggregate-constraints-keep-2 : tie.Need-slice_bounds-constraints_keep-end-2
slice-aggregate-constraints-keep-2 c =
    let d = c.before.before.before.before in let f = d.bounded-p.ensures.few in let l = d.bounded-p.ensures.highs in
    omega (arith, length-take d.bounded-p.result.count d.bounded-p.new.qh)

constraints-keep-requires : tie.Need-constraints_keep-requires
constraints-keep-requires c κs =
    let d = c.before.before.before.before in let st = d.before.before.before.before.before.before in let e = d.bounded-p.ensures in
    let ql = d.bounded-p.new.ql in let qh = d.bounded-p.new.qh in let m = d.bounded-p.result.count in
    let f = e.few in let l = e.lows in let h = e.highs in (
      st.requires.0,
      st.requires.1,
      record { few = omega (arith, length-take m ql); same = omega (arith, length-take m ql, length-take m qh); lows = take_within most_quotient ql m e.low_size; highs = take_within most_quotient qh m e.high_size },
      e.past,
      sym (slice-aggregate-constraints-keep c.before) ∙ e.count,
      st.requires.2,
    )

returns : tie.Need-returns
returns c = search rules

pub keeps_spec : {M : Type 1} → statement M
keeps_spec =
    tie.close
    (tie.spec no-values-requires no-values-requires-2 slice-aggregate-bounded slice-aggregate-bounded-2 bounded-requires array-share-prefix-ql slice-aggregate-constraints-keep array-share-prefix-qh slice-aggregate-constraints-keep-2 constraints-keep-requires returns)
