-- `climbing::point::reach` meets its contract. Assumes nothing.
use mathlib.Core.Path.{◌≡◌, refl, sym, ap, ◌∙◌}
use mathlib.Core.List.{List}
use Prim.Native.Nat.{ℕ, ◌-◌, ◌≤◌}
use native.Mathlib.Omega.{arith}
use borrow.Author.Rules.{rules}
use lib.ListN.{length, get_or}
use lib.IntN.{ℤ}
use Rattle.integers.specs.Size.{bound}
use Rattle.tableau.specs.Rows as R
use Rattle.wide_tableau.specs.Cells.{cells, rows_of, Sheet, Sheets}
use Rattle.wide_tableau.proofs.Sheets.{rows-length}
use Rattle.simplex.specs.declared.Move.TheVariants.{Stop, Pivot}
use Rattle.simplex.specs.Table as S
use Rattle.simplex.proofs.Moves as M
use Rattle.climbing.specs.Steps as C
use Rattle.climbing.proofs.Posing as P
use Rattle.climbing.proofs.point.reach.Statement.{statement}
use Rattle.climbing.proofs.point.reach.Tie as tie

abbrev invariant-loop : tie.invariant-loop-x
invariant-loop t₀ goal₀ n place₀ kinds left₀ t goal place left =
    Sheets t × Sheet goal × C.Posed n (rows_of t) (cells goal) place kinds
    × (C.reach_with (bound 128) kinds left (rows_of t) (cells goal) place ≡ C.reach_with (bound 128) kinds 200 (rows_of t₀) (cells goal₀) place₀)
    × (length t ≡ length t₀) × (length place ≡ length place₀) × (left ≤ 200)

abbrev decreases-loop : tie.decreases-loop-x
decreases-loop t₀ goal₀ n place₀ kinds left₀ t goal place left = left

-- where the function began, and where a turn of the loop did
abbrev begun : tie.At-loop-x invariant-loop decreases-loop → tie.Start invariant-loop decreases-loop
begun c = c.before.before.before

abbrev turn : tie.After-choose-m invariant-loop decreases-loop → tie.At-loop-x invariant-loop decreases-loop
turn c = c.before

module _ (c : tie.At-loop-x invariant-loop decreases-loop) where
  abbrev rows : List (List ℤ)
  rows = rows_of c.loop-x.t

  abbrev goal : List ℤ
  goal = cells c.loop-x.goal

  abbrev place : List ℕ
  place = c.loop-x.place

  abbrev kinds : List ℕ
  kinds = (begun c).args.kinds.now

  abbrev left : ℕ
  left = c.loop-x.left

-- the turn that stops
abbrev last : tie.In-Stop invariant-loop decreases-loop → tie.At-loop-x invariant-loop decreases-loop
last c = turn c.before

stops : (c : tie.In-Stop invariant-loop decreases-loop) → let a = last c in C.move_with (bound 128) (rows a) (goal a) (place a) (kinds a) (left a) ≡ Stop c.in-Stop.x
stops c = sym c.choose-m.ensures ∙ c.in-Stop.is

-- a turn that pivots
module _ (c : tie.In-Pivot invariant-loop decreases-loop) where
  abbrev here : tie.At-loop-x invariant-loop decreases-loop
  here = turn c.before

  abbrev v : ℕ
  v = c.in-Pivot.v

  abbrev w : ℕ
  w = c.in-Pivot.w

  pivots : C.move_with (bound 128) (rows here) (goal here) (place here) (kinds here) (left here) ≡ Pivot v w
  pivots = sym c.choose-m.ensures ∙ c.in-Pivot.is

  crosses : let n = (begun here).args.n in S.CrossingAt (bound 128) n (rows here) (place here) v w × R.FitAt (bound 128) n (goal here) (get_or (place here) w 0 - 64)
  crosses = P.move-crosses (bound 128) (begun here).args.n (rows here) (goal here) (place here) (kinds here) (left here) v w here.loop-x.invariant.2 pivots

abbrev choice : tie.After-slice_known-in-Pivot-1 invariant-loop decreases-loop → tie.In-Pivot invariant-loop decreases-loop
choice c = c.before.before.before.before.before.before.before

loop-holds : tie.Need-loop-x-init invariant-loop decreases-loop
loop-holds c = let s = c.before.before in (s.requires.0, s.requires.1, s.requires.2, refl, refl, refl, omega arith)

choose-requires : tie.Need-choose-m-requires invariant-loop decreases-loop
choose-requires c κs = let l = c.loop-x in (l.invariant.0, l.invariant.1, l.invariant.2)

enum-known-m : tie.Need-enum_known-m invariant-loop decreases-loop
enum-known-m c = search rules

sub-t16 : tie.Need-overflow_sub-result invariant-loop decreases-loop
sub-t16 c = (last c).loop-x.invariant.6

same_length : tie.Need-shape_of-t-in-Stop invariant-loop decreases-loop
same_length c = (last c).loop-x.invariant.4

same-length-2 : tie.Need-shape_of-place-in-Stop invariant-loop decreases-loop
same-length-2 c = (last c).loop-x.invariant.5

returns : tie.Need-returns-in-Stop invariant-loop decreases-loop
returns c =
    let a = last c in let l = a.loop-x in
    let q = sym (P.reach-stop (bound 128) (kinds a) (left a) (rows a) (goal a) (place a) _ (stops c)) ∙ l.invariant.3 in
    record {
      verdict_is = ap (λ (o : C.Ending). o.verdict) q;
      pivots_are = ap (λ (o : C.Ending). 200 - o.left) q;
      rows_are = record { is = ap (λ (o : C.Ending). o.rows) q; sheets = l.invariant.0 };
      goal_is = record { is = ap (λ (o : C.Ending). o.goal) q; sheet = l.invariant.1 };
      place_is = ap (λ (o : C.Ending). o.place) q;
    }

enum-known-m-2 : tie.Need-enum_known-m-in-Pivot-1 invariant-loop decreases-loop
enum-known-m-2 c = search rules

cross-requires : tie.Need-cross-requires invariant-loop decreases-loop
cross-requires c κs = let m = c.before.before.before in let l = (here m).loop-x in (l.invariant.0, l.invariant.1, (crosses m).0, (crosses m).1)

sub-left : tie.Need-overflow_sub-left invariant-loop decreases-loop
sub-left c = let m = choice c in let a = here m in P.move-left (bound 128) (kinds a) (left a) (rows a) (goal a) (place a) (v m) (w m) (pivots m)

loop-less : tie.Need-loop-x-smaller invariant-loop decreases-loop
loop-less c = let m = choice c in let a = here m in let h = P.move-left (bound 128) (kinds a) (left a) (rows a) (goal a) (place a) (v m) (w m) (pivots m) in omega arith

loop-again : tie.Need-loop-x-preserved invariant-loop decreases-loop
loop-again c =
    let m = choice c in let a = here m in let i = a.loop-x.invariant in
    let p = c.before.before.before in let e = p.cross.ensures in let et = e.0.is in let eg = e.1.is in let ep = e.2 in (
      e.0.sheets,
      e.1.sheet,
      rw (et, eg, ep) (P.pivot-posed _ (rows a) (goal a) (place a) (kinds a) (v m) (w m) i.2 (crosses m).0 (crosses m).1),
      rw (et, eg, ep) (P.reach-pivot (bound 128) (kinds a) (left a) (rows a) (goal a) (place a) (v m) (w m) (pivots m) ∙ i.3),
      sym (rows-length p.cross.new.t) ∙ ap length et ∙ M.rows-length (rows a) (place a) (v m) (w m) ∙ rows-length a.loop-x.t ∙ i.4,
      ap length ep ∙ M.pivot-length (place a) (v m) (w m) ∙ i.5,
      omega (arith, i.6),
    )

pub reach_spec : {M : Type 1} → statement M
reach_spec =
    tie.close
    (tie.spec
    invariant-loop
    decreases-loop
    loop-holds
    choose-requires
    enum-known-m
    sub-t16
    same_length
    same-length-2
    returns
    enum-known-m-2
    cross-requires
    sub-left
    loop-less
    loop-again)
