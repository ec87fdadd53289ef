use mathlib.Core.Path.{refl, sym, ◌∙◌}
use Prim.Native.Nat.{◌-◌}
use native.Mathlib.Omega.{arith}
use borrow.Author.Tests.{not-true, not-false}
use lib.ListN.{length}
use Rattle.codec.specs.Places.{set_from}
use Rattle.codec.proofs.Boundaries.{boundary_start}
use Rattle.codec.proofs.Valid.{bytes_of}
use Rattle.operations.specs.Operations.{first_meetings, first_meetings_fit}
use Rattle.operations.proofs.Meeting.{intersection-made}
use Rattle.subtraction.proofs.Along.{Along, along-start, along-end, along-opened, along-valid, along-stop, along-next, nothing-ready, Decodes, level-start}
use Rattle.operations.proofs.pairs.intersect.Statement.{statement}
use Rattle.operations.proofs.pairs.intersect.Tie as tie

abbrev invariant-loop : tie.invariant-loop-pos
invariant-loop a b out₀ rows₀ place₀ kinds₀ t₀ pos₀ out rows place kinds t pos = Along (Decodes b) (first_meetings (set_from b 0)) (first_meetings_fit (set_from b 0)) a out₀ t₀ rows place kinds out t pos

abbrev decreases-loop : tie.decreases-loop-pos
decreases-loop a b out₀ rows₀ place₀ kinds₀ t₀ pos₀ out rows place kinds t pos = length a - pos

loop-holds : tie.Need-loop-pos-init invariant-loop decreases-loop
loop-holds c =
    let st = c.before.before.before in
    along-start (record { zero = st.requires.second }) (boundary_start st.requires.n st.args.a.now st.requires.first) (record { high = refl; long = refl; wide = refl }) nothing-ready

add-decode-basic : tie.Need-overflow_add-pos invariant-loop decreases-loop
add-decode-basic c = omega (arith, c.loop-pos-test.true)

decode-basic-requires : tie.Need-decode_basic-p-requires invariant-loop decreases-loop
decode-basic-requires c κs = along-opened c.before.loop-pos.invariant c.loop-pos-test.true

slice-aggregate-meet-first : tie.Need-slice_bounds-meet_first-end invariant-loop decreases-loop
slice-aggregate-meet-first c = sym c.before.before.before.before.loop-pos.invariant.tables.high

slice-aggregate-meet-first-2 : tie.Need-slice_bounds-meet_first-end-in-loop-pos invariant-loop decreases-loop
slice-aggregate-meet-first-2 c = sym c.before.before.before.before.before.loop-pos.invariant.tables.long

slice-aggregate-meet-first-3 : tie.Need-slice_bounds-meet_first-end-in-loop-pos-2 invariant-loop decreases-loop
slice-aggregate-meet-first-3 c = sym c.before.before.before.before.before.before.loop-pos.invariant.tables.wide

meet-first-requires : tie.Need-meet_first-t-requires invariant-loop decreases-loop
meet-first-requires c κs =
    let a = c.before.before.before.before.before.before.before.before.before.before.args in
    let x = c.before.before.before.before.before.before.loop-pos.invariant in
    let d = c.before.before.before.before.decode_basic-p.ensures in
    let v = along-valid x c.before.before.before.before.before.loop-pos-test.true d (bytes_of a.a.now (λ i. (c.before.before.before.before.before.before.before.before.before.shared_slice_known-1.given i).fits)) in
    (level-start (bytes_of a.b.now (λ i. (c.before.before.before.before.before.before.before.before.shared_slice_known-2-1.given i).fits)) x.known v d.divs d.cons refl, x.onward.ready, x.tables)

same_length : tie.Need-shape_of-out-then-not-on invariant-loop decreases-loop
same_length c = c.before.before.before.before.before.before.meet_first-t.auto.out ∙ c.before.before.before.before.before.before.before.before.before.before.before.before.before.loop-pos.invariant.same

returns : tie.Need-returns-then-not-on invariant-loop decreases-loop
returns c = let m = c.before.before.before.before.before.before.meet_first-t in let a = c.before.before.before.before.before.before.before.before.before.before.before.before.before.before.before.before.before.args in intersection-made (set_from a.a.now 0) (set_from a.b.now 0) (along-stop c.before.before.before.before.before.before.before.before.before.before.before.before.before.loop-pos.invariant c.before.before.before.before.before.before.before.before.before.before.before.before.loop-pos-test.true c.before.before.before.before.before.before.before.before.before.before.before.decode_basic-p.ensures m.ensures (not-true m.result.fits c.if-not-on.true-raw))

add-end-of : tie.Need-overflow_add-pos-in-loop-pos invariant-loop decreases-loop
add-end-of c = let g = c.before.before.before.before.before.before.before.before.before.before.before.before.before.before.before.before.before.well_formed.0 in omega (arith, c.before.before.before.before.before.before.before.before.before.before.before.before.loop-pos-test.true)

end-of-requires : tie.Need-end_of-pos-requires invariant-loop decreases-loop
end-of-requires c κs = along-opened c.before.before.before.before.before.before.before.before.before.before.before.before.before.loop-pos.invariant c.before.before.before.before.before.before.before.before.before.before.before.before.loop-pos-test.true

loop-less : tie.Need-loop-pos-smaller invariant-loop decreases-loop
loop-less c = let h = c.before.before.before.before.before.before.before.before.before.before.before.before.before.loop-pos-test.true in omega (arith, c.end_of-pos.ensures)

loop-again : tie.Need-loop-pos-preserved invariant-loop decreases-loop
loop-again c =
    let m = c.before.before.before.before.before.before.before.meet_first-t in
    along-next c.before.before.before.before.before.before.before.before.before.before.before.before.before.before.loop-pos.invariant c.before.before.before.before.before.before.before.before.before.before.before.before.before.loop-pos-test.true c.before.before.before.before.before.before.before.before.before.before.before.before.decode_basic-p.ensures m.ensures _ c.end_of-pos.ensures m.auto.out m.auto.rows m.auto.place m.auto.kinds (not-false m.result.fits c.before.if-not-on.false-raw)

same-length-2 : tie.Need-shape_of-out invariant-loop decreases-loop
same-length-2 c = c.before.loop-pos.invariant.same

returns-2 : tie.Need-returns invariant-loop decreases-loop
returns-2 c = let a = c.before.before.before.before.before.args in intersection-made (set_from a.a.now 0) (set_from a.b.now 0) (along-end c.before.loop-pos.invariant c.loop-pos-test.false)

pub intersect_spec : {M : Type 1} → statement M
intersect_spec =
    tie.close
    (tie.spec
    invariant-loop
    decreases-loop
    loop-holds
    add-decode-basic
    decode-basic-requires
    slice-aggregate-meet-first
    slice-aggregate-meet-first-2
    slice-aggregate-meet-first-3
    meet-first-requires
    same_length
    returns
    add-end-of
    end-of-requires
    loop-less
    loop-again
    same-length-2
    returns-2)
