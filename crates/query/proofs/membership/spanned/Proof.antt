use native.Mathlib.Omega.{arith}
use lib.ListN.{length-take}
use Rattle.bounds.proofs.Reading.{take_within}
use Rattle.query.proofs.Holding.{spanned-is}
use borrow.Author.Rules.{rules}
use Rattle.query.proofs.membership.spanned.Statement.{statement}
use Rattle.query.proofs.membership.spanned.Tie as tie

no-values-requires : tie.Need-no_values-q-requires
no-values-requires c κs = search rules

slice-aggregate-divided : tie.Need-slice_bounds-divided-end
slice-aggregate-divided c = search rules

divided-requires : tie.Need-divided-p-requires
divided-requires c κs = search rules

array-share-prefix-q : tie.Need-slice_bounds-q-end
array-share-prefix-q c = search rules

slice-aggregate-judged : tie.Need-slice_bounds-judged-end
slice-aggregate-judged c =
    let d = c.before.before in let k = d.divided-p.auto.q in let l = d.before.before.no_values-q.ensures.0 in let f = d.divided-p.ensures.few in
    omega (arith, length-take d.divided-p.result.count d.divided-p.new.q)

judged-requires : tie.Need-judged-requires
judged-requires c κs =
    let d = c.before.before in let st = d.before.before.before.before in
    let k = d.divided-p.auto.q in let l = d.before.before.no_values-q.ensures.0 in let f = d.divided-p.ensures.few in
    (d.divided-p.ensures.past.there, st.requires.1, record { few = omega (arith, length-take d.divided-p.result.count d.divided-p.new.q); values = take_within _ d.divided-p.new.q d.divided-p.result.count d.divided-p.ensures.values })

returns : tie.Need-returns
returns c =
    let d = c.before.before.before in let st = d.before.before.before.before in
    spanned-is st.args.s.now st.args.start st.args.x.now d.divided-p.new.q d.divided-p.result c.judged.result d.divided-p.ensures c.judged.ensures

pub spanned_spec : {M : Type 1} → statement M
spanned_spec =
    tie.close
    (tie.spec
    no-values-requires
    slice-aggregate-divided
    divided-requires
    array-share-prefix-q
    slice-aggregate-judged
    judged-requires
    returns)
