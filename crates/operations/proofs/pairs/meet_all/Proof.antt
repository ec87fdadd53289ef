use mathlib.Core.Path.{sym, ◌∙◌}
use Prim.Native.Nat.{◌-◌}
use native.Mathlib.Omega.{arith}
use borrow.Author.Tests.{not-true, not-false}
use lib.ListN.{length}
use Rattle.model.specs.Values.{basic_set_of}
use Rattle.algebra.specs.Cut.{keeps, both_fits}
use Rattle.codec.proofs.Valid.{bytes_of}
use Rattle.operations.specs.Operations.{meeting}
use Rattle.operations.proofs.Meeting.{SoundOver}
use Rattle.subtraction.proofs.Along.{Along, along-start, along-end, along-opened, along-valid, along-stop, along-next}
use Rattle.operations.proofs.pairs.meet_all.Statement.{statement}
use Rattle.operations.proofs.pairs.meet_all.Tie as tie

abbrev invariant-loop : tie.invariant-loop-pos
invariant-loop p b out₀ rows₀ place₀ kinds₀ t₀ pos₀ out rows place kinds t pos = Along (SoundOver p) (meeting (basic_set_of p)) (both_fits keeps (basic_set_of p)) b out₀ t₀ rows place kinds out t pos

abbrev decreases-loop : tie.decreases-loop-pos
decreases-loop p b out₀ rows₀ place₀ kinds₀ t₀ pos₀ out rows place kinds t pos = length b - pos

loop-holds : tie.Need-loop-pos-init invariant-loop decreases-loop
loop-holds c =
    let st = c.before.before.before.before in
    let l = st.requires.0 in
    along-start (record { valid = l.valid; divs = l.divs; cons = l.cons }) l.here st.requires.2 st.requires.1

add-decode-basic : tie.Need-overflow_add-pos invariant-loop decreases-loop
add-decode-basic c = omega (arith, c.loop-pos-test.true)

decode-basic-requires : tie.Need-decode_basic-v-requires invariant-loop decreases-loop
decode-basic-requires c κs = along-opened c.before.loop-pos.invariant c.loop-pos-test.true

meet-requires : tie.Need-meet-t-requires invariant-loop decreases-loop
meet-requires c κs =
    let x = c.before.before.before.before.before.before.loop-pos.invariant in
    let p = x.known in
    let d = c.before.before.before.before.decode_basic-v.ensures in
    let v = along-valid x c.before.before.before.before.before.loop-pos-test.true d (bytes_of c.before.before.before.before.before.before.before.before.before.before.before.args.b.now (λ i. (c.before.before.before.before.before.before.before.before.before.before.shared_slice_known-1.given i).fits)) in
    (record { n = x.n; first = p.valid; second = v; divs = p.divs; cons = p.cons; divs' = d.divs; cons' = d.cons }, x.onward.ready, x.tables)

same_length : tie.Need-shape_of-out-then-not-on invariant-loop decreases-loop
same_length c = c.before.before.before.before.before.before.before.before.meet-t.auto.out ∙ c.before.before.before.before.before.before.before.before.before.before.before.before.before.before.before.loop-pos.invariant.same

same-length-2 : tie.Need-shape_of-rows-then-not-on invariant-loop decreases-loop
same-length-2 c = c.before.before.before.before.before.before.before.before.meet-t.auto.rows ∙ c.before.before.before.before.before.before.before.before.before.before.before.before.before.before.before.loop-pos.invariant.tables.high ∙ sym c.before.before.before.before.before.before.before.before.before.before.before.before.before.before.before.before.before.before.before.before.requires.2.high

same-length-3 : tie.Need-shape_of-place-then-not-on invariant-loop decreases-loop
same-length-3 c = c.before.before.before.before.before.before.before.before.meet-t.auto.place ∙ c.before.before.before.before.before.before.before.before.before.before.before.before.before.before.before.loop-pos.invariant.tables.long ∙ sym c.before.before.before.before.before.before.before.before.before.before.before.before.before.before.before.before.before.before.before.before.requires.2.long

same-length-4 : tie.Need-shape_of-kinds-then-not-on invariant-loop decreases-loop
same-length-4 c = c.before.before.before.before.before.before.before.before.meet-t.auto.kinds ∙ c.before.before.before.before.before.before.before.before.before.before.before.before.before.before.before.loop-pos.invariant.tables.wide ∙ sym c.before.before.before.before.before.before.before.before.before.before.before.before.before.before.before.before.before.before.before.before.requires.2.wide

returns : tie.Need-returns-then-not-on invariant-loop decreases-loop
returns c = let m = c.before.before.before.before.before.before.before.before.meet-t in along-stop c.before.before.before.before.before.before.before.before.before.before.before.before.before.before.before.loop-pos.invariant c.before.before.before.before.before.before.before.before.before.before.before.before.before.before.loop-pos-test.true c.before.before.before.before.before.before.before.before.before.before.before.before.before.decode_basic-v.ensures m.ensures (not-true m.result.fits c.if-not-on.true-raw)

add-end-of : tie.Need-overflow_add-pos-in-loop-pos invariant-loop decreases-loop
add-end-of c = let g = c.before.before.before.before.before.before.before.before.before.before.before.before.before.before.before.before.before.before.before.before.well_formed.1.0 in omega (arith, c.before.before.before.before.before.before.before.before.before.before.before.before.before.before.loop-pos-test.true)

end-of-requires : tie.Need-end_of-pos-requires invariant-loop decreases-loop
end-of-requires c κs = along-opened c.before.before.before.before.before.before.before.before.before.before.before.before.before.before.before.loop-pos.invariant c.before.before.before.before.before.before.before.before.before.before.before.before.before.before.loop-pos-test.true

loop-less : tie.Need-loop-pos-smaller invariant-loop decreases-loop
loop-less c = let h = c.before.before.before.before.before.before.before.before.before.before.before.before.before.before.before.loop-pos-test.true in omega (arith, c.end_of-pos.ensures)

loop-again : tie.Need-loop-pos-preserved invariant-loop decreases-loop
loop-again c =
    let m = c.before.before.before.before.before.before.before.before.before.meet-t in
    along-next c.before.before.before.before.before.before.before.before.before.before.before.before.before.before.before.before.loop-pos.invariant c.before.before.before.before.before.before.before.before.before.before.before.before.before.before.before.loop-pos-test.true c.before.before.before.before.before.before.before.before.before.before.before.before.before.before.decode_basic-v.ensures m.ensures _ c.end_of-pos.ensures m.auto.out m.auto.rows m.auto.place m.auto.kinds (not-false m.result.fits c.before.if-not-on.false-raw)

same-length-5 : tie.Need-shape_of-out invariant-loop decreases-loop
same-length-5 c = c.before.loop-pos.invariant.same

same-length-6 : tie.Need-shape_of-rows invariant-loop decreases-loop
same-length-6 c = c.before.loop-pos.invariant.tables.high ∙ sym c.before.before.before.before.before.before.requires.2.high

same-length-7 : tie.Need-shape_of-place invariant-loop decreases-loop
same-length-7 c = c.before.loop-pos.invariant.tables.long ∙ sym c.before.before.before.before.before.before.requires.2.long

same-length-8 : tie.Need-shape_of-kinds invariant-loop decreases-loop
same-length-8 c = c.before.loop-pos.invariant.tables.wide ∙ sym c.before.before.before.before.before.before.requires.2.wide

returns-2 : tie.Need-returns invariant-loop decreases-loop
returns-2 c = along-end c.before.loop-pos.invariant c.loop-pos-test.false

pub meet_all_spec : {M : Type 1} → statement M
meet_all_spec =
    tie.close
    (tie.spec
    invariant-loop
    decreases-loop
    loop-holds
    add-decode-basic
    decode-basic-requires
    meet-requires
    same_length
    same-length-2
    same-length-3
    same-length-4
    returns
    add-end-of
    end-of-requires
    loop-less
    loop-again
    same-length-5
    same-length-6
    same-length-7
    same-length-8
    returns-2)
