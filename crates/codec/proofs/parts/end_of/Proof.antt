use mathlib.Core.Path.{sym, ap, ◌∙◌, subst}
use Prim.Native.Nat.{ℕ, ◌+◌, ◌-◌}
use native.Mathlib.Omega.{arith}
use lib.ListN.{length}
use Rattle.codec.specs.Bytes.{width_of}
use Rattle.codec.proofs.Located.{Ending, ending-start, ending-next, ending-end}
use Rattle.codec.proofs.parts.end_of.Statement.{statement}
use Rattle.codec.proofs.parts.end_of.Tie as tie

abbrev invariant-loop : tie.invariant-loop-at
invariant-loop s start at₀ at = Ending s start at

abbrev decreases-loop : tie.decreases-loop-at
decreases-loop s start at₀ at = length s - at

loop-holds : tie.Need-loop-at-init invariant-loop decreases-loop
loop-holds c = ending-start c.before.args.s.now c.before.args.start c.before.requires

goes-on-requires : tie.Need-goes_on-requires invariant-loop decreases-loop
goes-on-requires c κs = tt

code-requires : tie.Need-code-requires invariant-loop decreases-loop
code-requires c κs = tt

width-requires : tie.Need-width-at-requires invariant-loop decreases-loop
width-requires c κs = tt

add_at : tie.Need-overflow_add-at invariant-loop decreases-loop
add_at c = let m = c.before.before.before.before in let st = m.before.before in let s = st.args.s.now in
    let g = sym c.before.before.before.goes_on.ensures ∙ c.before.before.loop-at-test.true in
    let w = c.width-at.ensures ∙ ap width_of c.before.code.ensures in
    let e = ending-next s st.args.start m.loop-at.at m.loop-at.invariant g in let i = e.0.here.inside in omega arith

loop-less : tie.Need-loop-at-smaller invariant-loop decreases-loop
loop-less c = let m = c.before.before.before.before in let st = m.before.before in let s = st.args.s.now in
    let g = sym c.before.before.before.goes_on.ensures ∙ c.before.before.loop-at-test.true in
    let w = c.width-at.ensures ∙ ap width_of c.before.code.ensures in
    let e = ending-next s st.args.start m.loop-at.at m.loop-at.invariant g in let i = e.0.here.inside in let z = e.1 in omega arith

loop-again : tie.Need-loop-at-preserved invariant-loop decreases-loop
loop-again c = let m = c.before.before.before.before in let st = m.before.before in let s = st.args.s.now in
    let g = sym c.before.before.before.goes_on.ensures ∙ c.before.before.loop-at-test.true in
    let w = c.width-at.ensures ∙ ap width_of c.before.code.ensures in
    subst (λ (v : ℕ). Ending s st.args.start (m.loop-at.at + v)) (sym w) (ending-next s st.args.start m.loop-at.at m.loop-at.invariant g).0

returns : tie.Need-returns invariant-loop decreases-loop
returns c = let m = c.before.before in let st = m.before.before in let s = st.args.s.now in
    ending-end s st.args.start m.loop-at.at m.loop-at.invariant (sym c.before.goes_on.ensures ∙ c.loop-at-test.false)

pub end_of_spec : {M : Type 1} → statement M
end_of_spec =
    tie.close
    (tie.spec
    invariant-loop
    decreases-loop
    loop-holds
    goes-on-requires
    code-requires
    width-requires
    add_at
    loop-less
    loop-again
    returns)
