use mathlib.Core.Path.{◌≡◌, refl, sym, ap, ◌∙◌}
use Prim.Native.Nat.{◌+◌, ◌-◌, ◌≤◌}
use borrow.Author.Rules.{rules}
use native.Mathlib.Omega.{arith}
use lib.ListN.{length}
use Rattle.integers.specs.Size.{bound}
use Rattle.simplex.specs.declared.Move.TheVariants.{Stop, Pivot}
use Rattle.simplex.specs.Table.{move_of, run_table, built_table_at, pivot_built, pivot_rows, pivot_place, Fine, Crossing}
use Rattle.simplex.proofs.Moves.{run-stop, run-pivot, pivot-left, pivot-fine, crossing, pivot-length, rows-length}
use Rattle.simplex.proofs.Built.{built-stop, built-pivot, built-le}
use Rattle.simplex.proofs.run.run.Statement.{statement}
use Rattle.simplex.proofs.run.run.Tie as tie

abbrev invariant-loop : tie.invariant-loop-x
invariant-loop t₀ n place₀ kinds left₀ built₀ t place left built =
    Fine n t place kinds × (run_table kinds left t place ≡ run_table kinds 200 t₀ place₀)
    × (length t ≡ length t₀) × (length place ≡ length place₀) × (left ≤ 200)
    × (built + built_table_at (bound 64) kinds left t place ≡ built_table_at (bound 64) kinds 200 t₀ place₀)

abbrev decreases-loop : tie.decreases-loop-x
decreases-loop t₀ n place₀ kinds left₀ built₀ t place left built = left

-- where the function began, and where the turn of the loop that pivots began
abbrev begun : tie.At-loop-x invariant-loop decreases-loop → tie.Start invariant-loop decreases-loop
begun c = c.before.before.before

abbrev turn : tie.In-Pivot invariant-loop decreases-loop → tie.At-loop-x invariant-loop decreases-loop
turn c = c.before.before

abbrev choice : tie.After-slice_known-in-Pivot-1 invariant-loop decreases-loop → tie.In-Pivot invariant-loop decreases-loop
choice c = c.before.before.before.before.before.before

stops : (c : tie.In-Stop invariant-loop decreases-loop) →
    let a = c.before.before in let l = a.loop-x in
    move_of l.t l.place (begun a).args.kinds.now l.left ≡ Stop c.in-Stop.x
stops c = sym c.before.choose-m.ensures ∙ c.in-Stop.is

pivots : (c : tie.In-Pivot invariant-loop decreases-loop) →
    let l = (turn c).loop-x in
    move_of l.t l.place (begun (turn c)).args.kinds.now l.left ≡ Pivot c.in-Pivot.v c.in-Pivot.w
pivots c = sym c.before.choose-m.ensures ∙ c.in-Pivot.is

crosses : (c : tie.In-Pivot invariant-loop decreases-loop) →
    let l = (turn c).loop-x in Crossing (begun (turn c)).args.n l.t l.place c.in-Pivot.v c.in-Pivot.w
crosses c = let l = (turn c).loop-x in crossing _ l.t l.place _ l.left _ _ l.invariant.0 (pivots c)

-- what is still to be built, before the pivot
builds : (c : tie.In-Pivot invariant-loop decreases-loop) →
    let l = (turn c).loop-x in let v = c.in-Pivot.v in let w = c.in-Pivot.w in
    let still = built_table_at (bound 64) (begun (turn c)).args.kinds.now in
    still l.left l.t l.place
    ≡ pivot_built l.t l.place w + still (l.left - 1) (pivot_rows l.t l.place v w) (pivot_place l.place v w)
builds c = let l = (turn c).loop-x in built-pivot (bound 64) _ l.t l.place l.left _ _ (pivots c)

loop-holds : tie.Need-loop-x-init invariant-loop decreases-loop
loop-holds c = (c.before.before.requires, refl, refl, refl, omega arith, omega arith)

choose-requires : tie.Need-choose-m-requires invariant-loop decreases-loop
choose-requires c κs = c.loop-x.invariant.0

enum-known-m : tie.Need-enum_known-m invariant-loop decreases-loop
enum-known-m c = search rules

sub-t16 : tie.Need-overflow_sub-ended invariant-loop decreases-loop
sub-t16 c = let h = c.before.before.loop-x.invariant.4 in omega arith

same_length : tie.Need-shape_of-t-in-Stop invariant-loop decreases-loop
same_length c = c.before.before.loop-x.invariant.2

same-length-2 : tie.Need-shape_of-place-in-Stop invariant-loop decreases-loop
same-length-2 c = c.before.before.loop-x.invariant.3

returns : tie.Need-returns-in-Stop invariant-loop decreases-loop
returns c =
    let a = c.before.before in let l = a.loop-x in
    let kinds = (begun a).args.kinds.now in
    let q = sym (run-stop kinds l.left l.t l.place _ (stops c)) ∙ l.invariant.1 in
    let z = built-stop (bound 64) kinds l.t l.place l.left _ (stops c) in
    record {
      verdict_is = ap (λ o. o.verdict) q;
      pivots_are = ap (λ o. 200 - o.left) q;
      built_is = omega (arith, z, l.invariant.5);
      rows_are = ap (λ o. o.rows) q;
      place_is = ap (λ o. o.place) q;
    }

enum-known-m-2 : tie.Need-enum_known-m-in-Pivot-1 invariant-loop decreases-loop
enum-known-m-2 c = search rules

pivot-counted-requires : tie.Need-pivot_counted-built-requires invariant-loop decreases-loop
pivot-counted-requires c κs = crosses c.before.before

add-built : tie.Need-overflow_add-built invariant-loop decreases-loop
add-built c =
    let a = turn (choice c) in let s = begun a in
    let h = built-le (bound 64) s.args.kinds.now 200 s.args.t.now s.args.place.now s.requires.count in
    record { fits = omega (arith, h, a.loop-x.invariant.5, builds (choice c), c.before.before.before.pivot_counted-built.ensures.2) }

sub-left : tie.Need-overflow_sub-left invariant-loop decreases-loop
sub-left c = let l = (turn (choice c)).loop-x in pivot-left _ l.left l.t l.place _ _ (pivots (choice c))

loop-less : tie.Need-loop-x-smaller invariant-loop decreases-loop
loop-less c = let l = (turn (choice c)).loop-x in let h = pivot-left _ l.left l.t l.place _ _ (pivots (choice c)) in omega arith

loop-again : tie.Need-loop-x-preserved invariant-loop decreases-loop
loop-again c =
    let m = choice c in let l = (turn m).loop-x in let kinds = (begun (turn m)).args.kinds.now in
    let v = m.in-Pivot.v in let w = m.in-Pivot.w in
    let (et, ep, eb) = c.before.before.before.pivot_counted-built.ensures in
    rw (et, ep) (
      pivot-fine _ l.t l.place kinds v w l.invariant.0 (crosses m),
      run-pivot kinds l.left l.t l.place v w (pivots m) ∙ l.invariant.1,
      rows-length l.t l.place v w ∙ l.invariant.2,
      pivot-length l.place v w ∙ l.invariant.3,
      omega (arith, l.invariant.4),
      omega (arith, l.invariant.5, builds m, eb),
    )

pub run_spec : {M : Type 1} → statement M
run_spec =
    tie.close
    (tie.spec
    invariant-loop
    decreases-loop
    loop-holds
    choose-requires
    enum-known-m
    sub-t16
    same_length
    same-length-2
    returns
    enum-known-m-2
    pivot-counted-requires
    add-built
    sub-left
    loop-less
    loop-again)
