-- `climbing::climb::climb` meets its contract. Assumes nothing.
use mathlib.Core.Path.{◌≡◌, refl, sym, ap, ◌∙◌}
use mathlib.Core.List.{List}
use mathlib.Core.Bool.{Bool}
use Prim.Native.Nat.{ℕ, ◌-◌, ◌<◌}
use native.Mathlib.Omega.{arith}
use borrow.Author.Rules.{rules}
use lib.ListN.{length, get_or}
use lib.IntN.{ℤ}
use Rattle.integers.specs.Size.{bound}
use Rattle.tableau.specs.Rows as R
use Rattle.wide_tableau.specs.Cells.{cells, rows_of, Sheet, Sheets}
use Rattle.wide_tableau.proofs.Sheets.{rows-length}
use Rattle.simplex.specs.Table as S
use Rattle.simplex.proofs.Moves as M
use Rattle.climbing.specs.declared.Step.TheVariants.{Ends, Turns as TurnsBy}
use Rattle.climbing.specs.Steps as D
use Rattle.climbing.proofs.Posing.{pivot-posed}
use Rattle.climbing.proofs.Climbing.{step-crosses, climb-ends, turns_left, climb-turns}
use Rattle.climbing.proofs.climb.climb.Statement.{statement}
use Rattle.climbing.proofs.climb.climb.Tie as tie

abbrev invariant-loop : tie.invariant-loop-x
invariant-loop t₀ goal₀ n place₀ kinds greatest from left₀ t goal place left =
    Sheets t × Sheet goal × D.Posed n (rows_of t) (cells goal) place kinds
    × (D.climb_with (bound 128) kinds greatest left (rows_of t) (cells goal) place ≡ D.climb_with (bound 128) kinds greatest from (rows_of t₀) (cells goal₀) place₀)
    × (length t ≡ length t₀) × (length place ≡ length place₀)

abbrev decreases-loop : tie.decreases-loop-x
decreases-loop t₀ goal₀ n place₀ kinds greatest from left₀ t goal place left = left

-- where the function began, and where a turn of the loop did
abbrev begun : tie.At-loop-x invariant-loop decreases-loop → tie.Start invariant-loop decreases-loop
begun c = c.before.before.before

abbrev turn : tie.After-step-s invariant-loop decreases-loop → tie.At-loop-x invariant-loop decreases-loop
turn c = c.before

module _ (c : tie.At-loop-x invariant-loop decreases-loop) where
  abbrev rows : List (List ℤ)
  rows = rows_of c.loop-x.t

  abbrev goal : List ℤ
  goal = cells c.loop-x.goal

  abbrev place : List ℕ
  place = c.loop-x.place

  abbrev kinds : List ℕ
  kinds = (begun c).args.kinds.now

  abbrev greatest : Bool
  greatest = (begun c).args.greatest

  abbrev left : ℕ
  left = c.loop-x.left

-- the turn that ends it
abbrev last : tie.In-Ends invariant-loop decreases-loop → tie.At-loop-x invariant-loop decreases-loop
last c = turn c.before

ends : (c : tie.In-Ends invariant-loop decreases-loop) → let a = last c in D.step_at (bound 128) (rows a) (goal a) (place a) (kinds a) (greatest a) (left a) ≡ Ends c.in-Ends.x
ends c = sym c.step-s.ensures ∙ c.in-Ends.is

-- a turn that goes on
module _ (c : tie.In-Turns invariant-loop decreases-loop) where
  abbrev here : tie.At-loop-x invariant-loop decreases-loop
  here = turn c.before

  abbrev v : ℕ
  v = c.in-Turns.v

  abbrev w : ℕ
  w = c.in-Turns.w

  turns : D.step_at (bound 128) (rows here) (goal here) (place here) (kinds here) (greatest here) (left here) ≡ TurnsBy v w
  turns = sym c.step-s.ensures ∙ c.in-Turns.is

  crosses : let n = (begun here).args.n in S.CrossingAt (bound 128) n (rows here) (place here) v w × R.FitAt (bound 128) n (goal here) (get_or (place here) w 0 - 64)
  crosses = step-crosses (bound 128) (begun here).args.n (rows here) (goal here) (place here) (kinds here) here.loop-x.invariant.2 (greatest here) (left here) v w turns

abbrev choice : tie.After-slice_known-in-Turns-1 invariant-loop decreases-loop → tie.In-Turns invariant-loop decreases-loop
choice c = c.before.before.before.before.before.before.before

loop-holds : tie.Need-loop-x-init invariant-loop decreases-loop
loop-holds c = let s = c.before.before in (s.requires.0, s.requires.1, s.requires.2, refl, refl, refl)

step-requires : tie.Need-step-s-requires invariant-loop decreases-loop
step-requires c κs = let l = c.loop-x in (l.invariant.0, l.invariant.1, l.invariant.2)

enum-known-s : tie.Need-enum_known-s invariant-loop decreases-loop
enum-known-s c = search rules

same_length : tie.Need-shape_of-t-in-Ends invariant-loop decreases-loop
same_length c = (last c).loop-x.invariant.4

same-length-2 : tie.Need-shape_of-place-in-Ends invariant-loop decreases-loop
same-length-2 c = (last c).loop-x.invariant.5

returns : tie.Need-returns-in-Ends invariant-loop decreases-loop
returns c =
    let a = last c in let l = a.loop-x in
    let q = sym (climb-ends (bound 128) (kinds a) (greatest a) (rows a) (goal a) (place a) (left a) _ (ends c)) ∙ l.invariant.3 in
    record { outcome-is = ap (λ (o : D.Climbed). o.outcome) q; goal_is = record { is = ap (λ (o : D.Climbed). o.goal) q; sheet = l.invariant.1 } }

enum-known-s-2 : tie.Need-enum_known-s-in-Turns-1 invariant-loop decreases-loop
enum-known-s-2 c = search rules

cross-requires : tie.Need-cross-requires invariant-loop decreases-loop
cross-requires c κs = let m = c.before.before.before in let l = (here m).loop-x in (l.invariant.0, l.invariant.1, (crosses m).0, (crosses m).1)

some_left : (c : tie.After-slice_known-in-Turns-1 invariant-loop decreases-loop) → 0 < left (here (choice c))
some_left c = let m = choice c in let a = here m in turns_left (bound 128) (kinds a) (greatest a) (rows a) (goal a) (place a) (left a) (v m) (w m) (turns m)

sub-left : tie.Need-overflow_sub-left invariant-loop decreases-loop
sub-left c = some_left c

loop-less : tie.Need-loop-x-smaller invariant-loop decreases-loop
loop-less c = let h = some_left c in omega arith

loop-again : tie.Need-loop-x-preserved invariant-loop decreases-loop
loop-again c =
    let m = choice c in let a = here m in let i = a.loop-x.invariant in
    let p = c.before.before.before in let e = p.cross.ensures in let et = e.0.is in let eg = e.1.is in let ep = e.2 in (
      e.0.sheets,
      e.1.sheet,
      rw (et, eg, ep) (pivot-posed _ (rows a) (goal a) (place a) (kinds a) (v m) (w m) i.2 (crosses m).0 (crosses m).1),
      rw (et, eg, ep) (climb-turns (bound 128) (kinds a) (greatest a) (rows a) (goal a) (place a) (left a) (v m) (w m) (turns m) ∙ i.3),
      sym (rows-length p.cross.new.t) ∙ ap length et ∙ M.rows-length (rows a) (place a) (v m) (w m) ∙ rows-length a.loop-x.t ∙ i.4,
      ap length ep ∙ M.pivot-length (place a) (v m) (w m) ∙ i.5,
    )

pub climb_spec : {M : Type 1} → statement M
climb_spec =
    tie.close
    (tie.spec
    invariant-loop
    decreases-loop
    loop-holds
    step-requires
    enum-known-s
    same_length
    same-length-2
    returns
    enum-known-s-2
    cross-requires
    sub-left
    loop-less
    loop-again)
