-- `carrying::going::go_on` meets its contract. Assumes nothing.
use mathlib.Core.Path.{◌≡◌, refl, sym, ap, ◌∙◌}
use Prim.Native.Nat.{◌+◌, ◌-◌, ◌≤◌}
use native.Mathlib.Omega.{arith}
use borrow.Author.Rules.{rules}
use lib.ListN.{length}
use Rattle.integers.specs.Size.{bound}
use Rattle.wide_tableau.specs.Cells.{rows_of, Sheets}
use Rattle.wide_tableau.proofs.Sheets.{rows-length}
use Rattle.simplex.specs.Table as S
use Rattle.simplex.proofs.Moves as M
use Rattle.simplex.proofs.Built.{built-stop, built-pivot, built-le}
use Rattle.simplex.specs.declared.Move.TheVariants.{Stop, Pivot}
use Rattle.carrying.proofs.going.go_on.Statement.{statement}
use Rattle.carrying.proofs.going.go_on.Tie as tie

abbrev invariant-loop : tie.invariant-loop-x
invariant-loop t₀ n place₀ kinds from left₀ built₀ t place left built =
    Sheets t × S.Fine n (rows_of t) place kinds
    × (S.run_table_at (bound 128) kinds left (rows_of t) place ≡ S.run_table_at (bound 128) kinds from (rows_of t₀) place₀)
    × (length t ≡ length t₀) × (length place ≡ length place₀) × (left ≤ 200)
    × (built + S.built_table_at (bound 128) kinds left (rows_of t) place ≡ S.built_table_at (bound 128) kinds from (rows_of t₀) place₀)

abbrev decreases-loop : tie.decreases-loop-x
decreases-loop t₀ n place₀ kinds from left₀ built₀ t place left built = left

-- where the function began, and where the turn of the loop that pivots began
abbrev begun : tie.At-loop-x invariant-loop decreases-loop → tie.Start invariant-loop decreases-loop
begun c = c.before.before.before

abbrev turn : tie.In-Pivot invariant-loop decreases-loop → tie.At-loop-x invariant-loop decreases-loop
turn c = c.before.before

abbrev choice : tie.After-slice_known-in-Pivot-1 invariant-loop decreases-loop → tie.In-Pivot invariant-loop decreases-loop
choice c = c.before.before.before.before.before.before

stops : (c : tie.In-Stop invariant-loop decreases-loop) →
    let a = c.before.before in let l = a.loop-x in
    S.move_at (bound 128) (rows_of l.t) l.place (begun a).args.kinds.now l.left ≡ Stop c.in-Stop.x
stops c = sym c.choose-m.ensures ∙ c.in-Stop.is

pivots : (c : tie.In-Pivot invariant-loop decreases-loop) →
    let l = (turn c).loop-x in let v = c.in-Pivot.v in let w = c.in-Pivot.w in
    S.move_at (bound 128) (rows_of l.t) l.place (begun (turn c)).args.kinds.now l.left ≡ Pivot v w
pivots c = sym c.choose-m.ensures ∙ c.in-Pivot.is

crosses : (c : tie.In-Pivot invariant-loop decreases-loop) →
    let l = (turn c).loop-x in let v = c.in-Pivot.v in let w = c.in-Pivot.w in
    S.CrossingAt (bound 128) (begun (turn c)).args.n (rows_of l.t) l.place v w
crosses c = let l = (turn c).loop-x in M.crossing_at (bound 128) _ (rows_of l.t) l.place _ l.left _ _ l.invariant.1 (pivots c)

-- what is still to be built, before the pivot
builds : (c : tie.In-Pivot invariant-loop decreases-loop) →
    let l = (turn c).loop-x in let v = c.in-Pivot.v in let w = c.in-Pivot.w in let t = rows_of l.t in
    let still = S.built_table_at (bound 128) (begun (turn c)).args.kinds.now in
    still l.left t l.place ≡ S.pivot_built t l.place w + still (l.left - 1) (S.pivot_rows t l.place v w) (S.pivot_place l.place v w)
builds c = let l = (turn c).loop-x in built-pivot (bound 128) _ (rows_of l.t) l.place l.left _ _ (pivots c)

loop-holds : tie.Need-loop-x-init invariant-loop decreases-loop
loop-holds c = let s = c.before.before in (s.requires.0, s.requires.1, refl, refl, refl, s.requires.2, omega arith)

choose-requires : tie.Need-choose-m-requires invariant-loop decreases-loop
choose-requires c κs = let l = c.loop-x in (l.invariant.0, l.invariant.1)

enum-known-m : tie.Need-enum_known-m invariant-loop decreases-loop
enum-known-m c = search rules

sub-t17 : tie.Need-overflow_sub-ended invariant-loop decreases-loop
sub-t17 c = c.loop-x.invariant.5

same_length : tie.Need-shape_of-t-in-Stop invariant-loop decreases-loop
same_length c = c.loop-x.invariant.3

same-length-2 : tie.Need-shape_of-place-in-Stop invariant-loop decreases-loop
same-length-2 c = c.loop-x.invariant.4

returns : tie.Need-returns-in-Stop invariant-loop decreases-loop
returns c =
    let a = c.before.before in let l = a.loop-x in let kinds = (begun a).args.kinds.now in
    let q = sym (M.run-stop_at (bound 128) kinds l.left (rows_of l.t) l.place _ (stops c)) ∙ l.invariant.2 in
    let z = built-stop (bound 128) kinds (rows_of l.t) l.place l.left _ (stops c) in
    record {
      went = record { verdict_is = ap (λ o. o.verdict) q; pivots_are = ap (λ o. 200 - o.left) q; built_is = omega (arith, z, l.invariant.6) };
      rows_are = record { is = ap (λ o. o.rows) q; sheets = l.invariant.0 };
      place_is = ap (λ o. o.place) q;
    }

enum-known-m-2 : tie.Need-enum_known-m-in-Pivot-1 invariant-loop decreases-loop
enum-known-m-2 c = search rules

pivot-requires : tie.Need-pivot-built-requires invariant-loop decreases-loop
pivot-requires c κs = let m = c.before.before in ((turn m).loop-x.invariant.0, crosses m)

add-built : tie.Need-overflow_add-built invariant-loop decreases-loop
add-built c =
    let a = turn (choice c) in let s = begun a in
    let h = built-le (bound 128) s.args.kinds.now s.args.from (rows_of s.args.t.now) s.args.place.now s.requires.1.count in
    record { fits = omega (arith, h, s.requires.2, a.loop-x.invariant.6, builds (choice c), c.before.before.before.pivot-built.ensures.2) }

sub-left : tie.Need-overflow_sub-left invariant-loop decreases-loop
sub-left c = let l = (turn (choice c)).loop-x in M.pivot-left_at (bound 128) _ l.left (rows_of l.t) l.place _ _ (pivots (choice c))

loop-less : tie.Need-loop-x-smaller invariant-loop decreases-loop
loop-less c = let l = (turn (choice c)).loop-x in let h = M.pivot-left_at (bound 128) _ l.left (rows_of l.t) l.place _ _ (pivots (choice c)) in omega arith

loop-again : tie.Need-loop-x-preserved invariant-loop decreases-loop
loop-again c =
    let m = choice c in let l = (turn m).loop-x in let kinds = (begun (turn m)).args.kinds.now in
    let v = m.in-Pivot.v in let w = m.in-Pivot.w in
    let p = c.before.before.before in let et = p.pivot-built.ensures.0.is in let ep = p.pivot-built.ensures.1 in let eb = p.pivot-built.ensures.2 in (
      p.pivot-built.ensures.0.sheets,
      rw (et, ep) (M.pivot-fine_at {W = 128} (omega arith) _ (rows_of l.t) l.place kinds v w l.invariant.1 (crosses m)),
      rw (et, ep) (M.run-pivot_at (bound 128) kinds l.left (rows_of l.t) l.place v w (pivots m) ∙ l.invariant.2),
      sym (rows-length p.pivot-built.new.t) ∙ ap length et ∙ M.rows-length (rows_of l.t) l.place v w ∙ rows-length l.t ∙ l.invariant.3,
      ap length ep ∙ M.pivot-length l.place v w ∙ l.invariant.4,
      omega (arith, l.invariant.5),
      rw (et, ep) (omega (arith, l.invariant.6, builds m, eb)),
    )

pub go_on_spec : {M : Type 1} → statement M
go_on_spec =
    tie.close
    (tie.spec
    invariant-loop
    decreases-loop
    loop-holds
    choose-requires
    enum-known-m
    sub-t17
    same_length
    same-length-2
    returns
    enum-known-m-2
    pivot-requires
    add-built
    sub-left
    loop-less
    loop-again)
