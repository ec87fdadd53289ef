use mathlib.Core.Path.{sym, ap, ◌∙◌}
use mathlib.Core.Bool.{Bool, ◌||◌}
use native.Mathlib.Omega.{arith}
use borrow.Author.Rules.{rules}
use Prim.Native.Nat.{◌-◌}
use lib.IntN.{pos}
use lib.ListN.{length, get_or}
use Rattle.model.specs.Sets as M
use Rattle.codec.specs.Bytes.{is_numbered}
use Rattle.query.specs.Holding.{Judging}
use Rattle.query.proofs.Holding.{judging-start, judging-then}
use Rattle.query.proofs.membership.bare_judged.Statement.{statement}
use Rattle.query.proofs.membership.bare_judged.Tie as tie

abbrev invariant-loop : tie.invariant-loop-r
invariant-loop s start so x q at₀ holds₀ at holds = Judging s start (M.holds (pos 1) x q) so at holds

abbrev decreases-loop : tie.decreases-loop-r
decreases-loop s start so x q at₀ holds₀ at holds = length s - at

loop-holds : tie.Need-loop-r-init invariant-loop decreases-loop
loop-holds c = let st = c.before in judging-start st.args.s.now st.args.start (M.holds (pos 1) st.args.x.now st.args.q.now) st.args.so st.requires.0

bare-at-requires : tie.Need-bare_at-requires invariant-loop decreases-loop
bare-at-requires c κs = search rules

one-judged-requires : tie.Need-one_judged-r-requires invariant-loop decreases-loop
one-judged-requires c κs =
    let t = c.before in let m = t.before in let st = m.before.before in
    (m.loop-r.invariant.tail, ap (λ (x : Bool). x || is_numbered (get_or st.args.s.now m.loop-r.at 0)) (sym t.bare_at.ensures ∙ c.loop-r-test.true), st.requires.1, st.requires.2)

loop-less : tie.Need-loop-r-smaller invariant-loop decreases-loop
loop-less c = let p = c.one_judged-r.ensures.0 in let i = c.one_judged-r.ensures.1.tail.here.inside in omega arith

loop-again : tie.Need-loop-r-preserved invariant-loop decreases-loop
loop-again c =
    let m = c.before.before.before in let st = m.before.before in
    judging-then st.args.s.now st.args.start (M.holds (pos 1) st.args.x.now st.args.q.now) st.args.so _ _ _ _ m.loop-r.invariant c.one_judged-r.ensures.1

returns : tie.Need-returns invariant-loop decreases-loop
returns c = c.before.before.loop-r.invariant

pub bare_judged_spec : {M : Type 1} → statement M
bare_judged_spec =
    tie.close
    (tie.spec
    invariant-loop
    decreases-loop
    loop-holds
    bare-at-requires
    one-judged-requires
    loop-less
    loop-again
    returns)
