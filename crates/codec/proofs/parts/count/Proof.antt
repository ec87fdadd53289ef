use mathlib.Core.Path.{sym, ap, subst}
use Prim.Native.Nat.{ℕ, ◌+◌, ◌-◌}
use native.Mathlib.Omega.{arith}
use lib.ListN.{length}
use Rattle.codec.proofs.Boundaries.{boundary-opened, boundary_end}
use Rattle.codec.proofs.Located.{Counting, counting-start, counting-next}
use Rattle.codec.proofs.parts.count.Statement.{statement}
use Rattle.codec.proofs.parts.count.Tie as tie

abbrev invariant-loop : tie.invariant-loop-at
invariant-loop s at₀ k₀ at k = Counting s at k

abbrev decreases-loop : tie.decreases-loop-at
decreases-loop s at₀ k₀ at k = length s - at

loop-holds : tie.Need-loop-at-init invariant-loop decreases-loop
loop-holds c = counting-start c.before.args.s.now c.before.requires

add-end-of : tie.Need-overflow_add-at invariant-loop decreases-loop
add-end-of c = omega arith

end-of-requires : tie.Need-end_of-at-requires invariant-loop decreases-loop
end-of-requires c κs = let m = c.before in let st = m.before.before in boundary-opened m.loop-at.invariant.n st.args.s.now m.loop-at.at m.loop-at.invariant.there c.loop-at-test.true

add-k : tie.Need-overflow_add-k invariant-loop decreases-loop
add-k c = let m = c.before.before in let f = m.loop-at.invariant.few in let h = c.before.loop-at-test.true in omega arith

loop-less : tie.Need-loop-at-smaller invariant-loop decreases-loop
loop-less c = let m = c.before.before in let e = c.end_of-at.ensures in let h = c.before.loop-at-test.true in omega arith

loop-again : tie.Need-loop-at-preserved invariant-loop decreases-loop
loop-again c = let m = c.before.before in let s = m.before.before.args.s.now in
    subst (λ (p : ℕ). Counting s p (m.loop-at.k + 1)) (sym c.end_of-at.ensures) (counting-next s m.loop-at.at m.loop-at.k m.loop-at.invariant c.before.loop-at-test.true)

returns : tie.Need-returns invariant-loop decreases-loop
returns c = let m = c.before in let s = m.before.before.args.s.now in
    let t = m.loop-at.invariant.total in let e = ap length (boundary_end s m.loop-at.at c.loop-at-test.false) in omega arith

pub count_spec : {M : Type 1} → statement M
count_spec =
    tie.close
    (tie.spec
    invariant-loop
    decreases-loop
    loop-holds
    add-end-of
    end-of-requires
    add-k
    loop-less
    loop-again
    returns)
