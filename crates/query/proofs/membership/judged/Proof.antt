use mathlib.Core.Path.{sym, ◌∙◌}
use mathlib.Core.Bool.{true}
use native.Mathlib.Omega.{arith}
use borrow.Author.Rules.{rules}
use Prim.Native.Nat.{◌-◌}
use lib.IntN.{pos}
use lib.ListN.{length}
use Rattle.model.specs.Sets as M
use Rattle.query.specs.Holding.{Judging}
use Rattle.query.proofs.Holding.{judging-start, judging-then, judging-end}
use Rattle.query.proofs.membership.judged.Statement.{statement}
use Rattle.query.proofs.membership.judged.Tie as tie

abbrev invariant-loop : tie.invariant-loop-t
invariant-loop s start x q at₀ holds₀ at holds = Judging s start (M.holds (pos 1) x q) true at holds

abbrev decreases-loop : tie.decreases-loop-t
decreases-loop s start x q at₀ holds₀ at holds = length s - at

loop-holds : tie.Need-loop-t-init invariant-loop decreases-loop
loop-holds c = let st = c.before in judging-start st.args.s.now st.args.start (M.holds (pos 1) st.args.x.now st.args.q.now) true st.requires.0

constraint-at-requires : tie.Need-constraint_at-requires invariant-loop decreases-loop
constraint-at-requires c κs = search rules

one-judged-requires : tie.Need-one_judged-t-requires invariant-loop decreases-loop
one-judged-requires c κs =
    let t = c.before in let m = t.before in let st = m.before.before in
    (m.loop-t.invariant.tail, sym t.constraint_at.ensures ∙ c.loop-t-test.true, st.requires.1, st.requires.2)

bare-judged-requires : tie.Need-bare_judged-r-requires invariant-loop decreases-loop
bare-judged-requires c κs = let st = c.before.before.before.before.before in (c.one_judged-t.ensures.1.tail, st.requires.1, st.requires.2)

loop-less : tie.Need-loop-t-smaller invariant-loop decreases-loop
loop-less c = let p = c.before.one_judged-t.ensures.0 in let r = c.bare_judged-r.ensures.past in let i = c.bare_judged-r.ensures.tail.here.inside in omega arith

loop-again : tie.Need-loop-t-preserved invariant-loop decreases-loop
loop-again c =
    let o = c.before in let m = o.before.before.before in let st = m.before.before in
    let s = st.args.s.now in let ok = M.holds (pos 1) st.args.x.now st.args.q.now in
    judging-then s st.args.start ok true _ _ _ _ (judging-then s st.args.start ok true _ _ _ _ m.loop-t.invariant o.one_judged-t.ensures.1) c.bare_judged-r.ensures

returns : tie.Need-returns invariant-loop decreases-loop
returns c =
    let m = c.before.before in let st = m.before.before in
    judging-end st.args.s.now st.args.start (M.holds (pos 1) st.args.x.now st.args.q.now) m.loop-t.at m.loop-t.holds m.loop-t.invariant (sym c.before.constraint_at.ensures ∙ c.loop-t-test.false)

pub judged_spec : {M : Type 1} → statement M
judged_spec =
    tie.close
    (tie.spec
    invariant-loop
    decreases-loop
    loop-holds
    constraint-at-requires
    one-judged-requires
    bare-judged-requires
    loop-less
    loop-again
    returns)
