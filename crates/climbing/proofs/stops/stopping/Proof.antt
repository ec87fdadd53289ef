-- `climbing::stops::stopping` meets its contract. Assumes nothing.
use mathlib.Core.Path.{◌≡◌, sym, ◌∙◌}
use mathlib.Core.Bool.{Bool}
use Prim.Native.Nat.{ℕ, ◌-◌, ◌≤◌}
use native.Mathlib.Omega.{arith}
use borrow.Author.Rules.{rules}
use lib.ListN.{length}
use Rattle.tableau.specs.Rows as R
use Rattle.tableau.proofs.Searches as Q
use Rattle.wide_tableau.specs.Cells.{rows_of}
use Rattle.climbing.specs.Steps as D
use Rattle.climbing.proofs.stops.stopping.Statement.{statement}
use Rattle.climbing.proofs.stops.stopping.Tie as tie

abbrev invariant-loop : tie.invariant-loop-v
invariant-loop t place kinds j up v₀ v = (v ≤ length place) × (R.first (D.stops_at (rows_of t) place kinds j up) (length place - v) v ≡ R.first (D.stops_at (rows_of t) place kinds j up) (length place) 0)

abbrev decreases-loop : tie.decreases-loop-v
decreases-loop t place kinds j up v₀ v = length place - v

abbrev begun : tie.At-loop-v invariant-loop decreases-loop → tie.Start invariant-loop decreases-loop
begun c = c.before.before.before

-- the test of a variable
abbrev test : tie.Start invariant-loop decreases-loop → ℕ → Bool
test s v = D.stops_at (rows_of s.args.t.now) s.args.place.now s.args.kinds.now s.args.j s.args.up v

loop-holds : tie.Need-loop-v-init invariant-loop decreases-loop
loop-holds c = (omega arith, Q.first-start _ _)

stops-requires : tie.Need-stops-requires invariant-loop decreases-loop
stops-requires c κs = let s = begun c.before in (s.requires.0, s.requires.1, s.requires.2, c.loop-v-test.true)

returns : tie.Need-returns-then-stops invariant-loop decreases-loop
unfolding D.stopping
returns c =
    let h = c.before in let i = h.before in let l = i.before.loop-v in let s = begun i.before in
    Q.first-yes (test s) (length s.args.place.now) l.v i.loop-v-test.true (sym h.stops.ensures ∙ c.if-stops.true) ∙ l.invariant.1

add-v : tie.Need-overflow_add-v invariant-loop decreases-loop
add-v c = search rules

loop-less : tie.Need-loop-v-smaller invariant-loop decreases-loop
loop-less c = omega arith

loop-again : tie.Need-loop-v-preserved invariant-loop decreases-loop
loop-again c =
    let h = c.before in let i = h.before in let l = i.before.loop-v in let s = begun i.before in
    (omega arith, Q.first-no (test s) (length s.args.place.now) l.v i.loop-v-test.true (sym h.stops.ensures ∙ c.if-stops.false) ∙ l.invariant.1)

returns-2 : tie.Need-returns invariant-loop decreases-loop
unfolding D.stopping
returns-2 c =
    let l = c.before.loop-v in let s = begun c.before in
    Q.first-end (test s) (length s.args.place.now) l.v c.loop-v-test.false ∙ l.invariant.1

pub stopping_spec : {M : Type 1} → statement M
stopping_spec =
    tie.close
    (tie.spec
    invariant-loop
    decreases-loop
    loop-holds
    stops-requires
    returns
    add-v
    loop-less
    loop-again
    returns-2)
