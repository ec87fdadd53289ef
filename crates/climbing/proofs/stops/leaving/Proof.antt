-- `climbing::stops::leaving` meets its contract. Assumes nothing.
use mathlib.Core.Path.{◌≡◌, sym, ap, ap₂, ◌∙◌}
use mathlib.Core.Bool.{Bool, ◌&&◌, cond}
use Prim.Native.Nat.{ℕ, ◌-◌, ◌≤◌}
use native.Mathlib.Omega.{arith}
use borrow.Author.Rules.{rules}
use lib.ListN.{length}
use Rattle.wide_tableau.specs.Cells.{rows_of}
use Rattle.climbing.specs.Steps as D
use Rattle.climbing.proofs.Stopping.{Stops, stopping-stops, leaving-start, leaving-turn, leaving-end}
use Rattle.climbing.proofs.stops.leaving.Statement.{statement}
use Rattle.climbing.proofs.stops.leaving.Tie as tie
use Rattle.climbing.proofs.stops.leaving.Lts.{then-stops+then-sooner, then-stops+else-sooner, else-stops}

abbrev invariant-loop : tie.invariant-loop-v
invariant-loop t place kinds j up first best₀ v₀ best v =
    (v ≤ length place)
    × (Stops (rows_of t) place kinds j up best × (D.leaving_from (rows_of t) place kinds j up (length place - v) v best ≡ D.leaving (rows_of t) place kinds j up first))

abbrev decreases-loop : tie.decreases-loop-v
decreases-loop t place kinds j up first best₀ v₀ best v = length place - v

-- where the function began, and the tests of a variable
abbrev begun : tie.At-loop-v invariant-loop decreases-loop → tie.Start invariant-loop decreases-loop
begun c = c.before.before.before

abbrev test : tie.Start invariant-loop decreases-loop → ℕ → Bool
test s v = D.stops_at (rows_of s.args.t.now) s.args.place.now s.args.kinds.now s.args.j s.args.up v

abbrev earlier : tie.Start invariant-loop decreases-loop → ℕ → ℕ → Bool
earlier s v u = D.sooner_at (rows_of s.args.t.now) s.args.place.now s.args.kinds.now s.args.j v u

add-v : tie.Need-overflow_add-v invariant-loop decreases-loop
add-v c = search rules

loop-holds : tie.Need-loop-v-init invariant-loop decreases-loop
loop-holds c =
    let s = c.before.before in
    let rows = rows_of s.args.t.now in let place = s.args.place.now in let kinds = s.args.kinds.now in let j = s.args.j in let up = s.args.up in let u = s.args.first in
    (omega (arith, s.requires.3), ((s.requires.3, stopping-stops rows place kinds j up u s.requires.4 s.requires.3), leaving-start rows place kinds j up u))

stops-requires : tie.Need-stops-requires invariant-loop decreases-loop
stops-requires c κs = let s = begun c.before in (s.requires.0, s.requires.1, s.requires.2, c.loop-v-test.true)

sooner-requires : tie.Need-sooner-requires invariant-loop decreases-loop
sooner-requires c κs =
    let h = c.before in let i = h.before in let l = i.before.loop-v in let s = begun i.before in
    let rows = rows_of s.args.t.now in let place = s.args.place.now in
    let a : D.Stopped rows place l.v = s.requires.5 l.v i.loop-v-test.true (sym h.stops.ensures ∙ c.if-stops.true) in
    let b : D.Stopped rows place l.best = s.requires.5 l.best l.invariant.1.0.0 l.invariant.1.0.1 in
    search rules

add-v-2 : tie.Need-overflow_add-v-in-loop-v invariant-loop decreases-loop
add-v-2 c = search rules

loop-less : tie.Need-loop-v-smaller invariant-loop decreases-loop
loop-less c = let h = c.before.before.loop-v-test.true in omega arith

-- a turn takes v where it stops the move sooner
chosen : (c : tie.Joined-stops invariant-loop decreases-loop) →
    let i = c.before.before in let l = i.before.loop-v in let s = begun i.before in
    c.if-stops.best ≡ cond (test s l.v && earlier s l.v l.best) l.v l.best
chosen c =
    let h = c.before in let l = h.before.before.loop-v in let s = begun h.before.before in
    elim c.if-stops.branch [
      | then-stops+then-sooner w ↦ w.best-is ∙ sym (ap (λ (b : Bool). cond b l.v l.best) (ap₂ ◌&&◌ (sym h.stops.ensures ∙ w.if-stops.true) (sym w.sooner.ensures ∙ w.if-sooner.true)))
      | then-stops+else-sooner w ↦ w.best-is ∙ sym (ap (λ (b : Bool). cond b l.v l.best) (ap₂ ◌&&◌ (sym h.stops.ensures ∙ w.if-stops.true) (sym w.sooner.ensures ∙ w.if-sooner.false)))
      | else-stops w ↦ w.best-is ∙ sym (ap (λ (b : Bool). cond (b && earlier s l.v l.best) l.v l.best) (sym h.stops.ensures ∙ w.if-stops.false))
    ]

loop-again : tie.Need-loop-v-preserved invariant-loop decreases-loop
loop-again c =
    let i = c.before.before in let l = i.before.loop-v in let s = begun i.before in
    let turn = leaving-turn (rows_of s.args.t.now) s.args.place.now s.args.kinds.now s.args.j s.args.up s.args.first in
    (omega (arith, i.loop-v-test.true), turn l.v l.best c.if-stops.best i.loop-v-test.true (chosen c) l.invariant.1.0 l.invariant.1.1)

returns : tie.Need-returns invariant-loop decreases-loop
returns c =
    let l = c.before.loop-v in let s = begun c.before in
    leaving-end (rows_of s.args.t.now) s.args.place.now s.args.kinds.now s.args.j s.args.up (length s.args.place.now) l.v l.best c.loop-v-test.false ∙ l.invariant.1.1

pub leaving_spec : {M : Type 1} → statement M
leaving_spec =
    tie.close
    (tie.spec
    invariant-loop
    decreases-loop
    add-v
    loop-holds
    stops-requires
    sooner-requires
    add-v-2
    loop-less
    loop-again
    returns)
