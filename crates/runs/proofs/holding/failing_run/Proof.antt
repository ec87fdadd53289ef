use mathlib.Core.Path.{sym, ◌∙◌, subst}
use native.Mathlib.Omega.{arith}
use Prim.Native.Nat.{ℕ}
use lib.ListN.{length-take}
use Rattle.runs.specs.Upward.{Failing}
use Rattle.bounds.proofs.Reading.{take_within}
use borrow.Author.Rules.{rules}
use Rattle.runs.proofs.holding.failing_run.Statement.{statement}
use Rattle.runs.proofs.holding.failing_run.Tie as tie

settle-requires : tie.Need-settle-requires
settle-requires c κs = search rules

no-values-requires : tie.Need-no_values-ql-requires
no-values-requires c κs = search rules

no-values-requires-2 : tie.Need-no_values-qh-requires
no-values-requires-2 c κs = search rules

slice-aggregate-bounded : tie.Need-slice_bounds-bounded-end
slice-aggregate-bounded c = search rules

slice-aggregate-bounded-2 : tie.Need-slice_bounds-bounded-end-2
slice-aggregate-bounded-2 c = search rules

bounded-requires : tie.Need-bounded-p-requires
bounded-requires c κs = search rules

array-share-prefix-ql : tie.Need-slice_bounds-ql-end
array-share-prefix-ql c = search rules

slice-aggregate-constraints-run : tie.Need-slice_bounds-constraints_run-end
slice-aggregate-constraints-run c =
    let d = c.before.before.before in let f = d.bounded-p.ensures.few in let l = d.bounded-p.ensures.lows in
    omega (arith, length-take d.bounded-p.result.count d.bounded-p.new.ql)

array-share-prefix-qh : tie.Need-slice_bounds-qh-end
array-share-prefix-qh c = search rules

slice-aggregate-constraints-run-2 : tie.Need-slice_bounds-constraints_run-end-2
slice-aggregate-constraints-run-2 c =
    let d = c.before.before.before.before in let f = d.bounded-p.ensures.few in let l = d.bounded-p.ensures.highs in
    omega (arith, length-take d.bounded-p.result.count d.bounded-p.new.qh)

constraints-run-requires : tie.Need-constraints_run-requires
constraints-run-requires c κs =
    let d = c.before.before.before.before in let y = d.before.before.before.before.before in let st = y.before.before.before in let e = d.bounded-p.ensures in
    let ql = d.bounded-p.new.ql in let qh = d.bounded-p.new.qh in let m = d.bounded-p.result.count in
    let f = e.few in let l = e.lows in let h = e.highs in (
      y.settle.ensures.0,
      st.requires.1,
      record { few = omega (arith, length-take m ql); same = omega (arith, length-take m ql, length-take m qh); lows = take_within 549755813888 ql m e.low_size; highs = take_within 549755813888 qh m e.high_size },
      e.past,
      sym (slice-aggregate-constraints-run c.before) ∙ e.count,
      e.is,
      st.requires.3,
      st.requires.4,
    )

returns : tie.Need-returns
returns c =
    let d = c.before.before.before.before.before in let y = d.before.before.before.before.before in let st = y.before.before.before in let a = st.args in
    record {
      run = subst (λ (p : ℕ). Failing a.s.now a.k a.low.now a.high.now p a.most c.constraints_run.result) y.settle.ensures.1 c.constraints_run.ensures;
      row = y.settle.ensures.0.row;
      place = y.settle.ensures.1;
    }

pub failing_run_spec : {M : Type 1} → statement M
failing_run_spec =
    tie.close
    (tie.spec
    settle-requires
    no-values-requires
    no-values-requires-2
    slice-aggregate-bounded
    slice-aggregate-bounded-2
    bounded-requires
    array-share-prefix-ql
    slice-aggregate-constraints-run
    array-share-prefix-qh
    slice-aggregate-constraints-run-2
    constraints-run-requires
    returns)
