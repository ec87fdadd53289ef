-- `climbing::climb::step_in` meets its contract. Assumes nothing.
use mathlib.Core.Path.{◌≡◌, sym, ap, ◌∙◌, subst}
use mathlib.Core.List.{[]}
use mathlib.Core.Bool.{Bool, true, false, ◌&&◌, cond}
use Prim.Native.Nat.{ℕ, ◌-◌, ◌<◌}
use native.Mathlib.Omega.{arith}
use borrow.Author.Rules.{rules}
use borrow.Author.Tests.{not-true, not-false}
use lib.Dec.{T}
use lib.ListN.{length, get_or}
use Rattle.integers.specs.Size.{bound}
use Rattle.model.proofs.Count.{and_left, from-T}
use Rattle.tableau.specs.Rows as R
use Rattle.wide_tableau.specs.Cells.{cells, rows_of}
use Rattle.wide_tableau.proofs.Sheets.{rows_at, rows-length}
use Rattle.climbing.specs.Steps as D
use Rattle.climbing.specs.declared.Outcome.TheVariants as O
use Rattle.climbing.specs.declared.Step.TheVariants.{Ends, Turns as TurnsBy}
use Rattle.climbing.proofs.Stopping.{stops-small}
use Rattle.climbing.proofs.Climbing.{step-endless, step-long, step-last}
use Rattle.climbing.proofs.climb.step_in.Statement.{statement}
use Rattle.climbing.proofs.climb.step_in.Tie as tie

abbrev begun : tie.After-moves_up-up → tie.Start
begun c = c.before.before.before.before

-- the column that improves the value
column : (s : tie.Start) → get_or s.args.place.now s.args.w 0 - 64 < 16
column s = let h = s.requires.2.fine.near s.args.w s.requires.3 in let k = s.requires.4 in omega arith

placed : (s : tie.Start) → D.Placed (rows_of s.args.t.now) s.args.place.now s.args.kinds.now
placed s = record { same = s.requires.2.fine.same; spot = s.requires.2.fine.spot }

lines : (s : tie.Start) (k : ℕ) → k < length s.args.t.now → R.Line s.args.n (cells (get_or s.args.t.now k []))
lines s k l = let t = s.args.t.now in subst (R.Line s.args.n) (rows_at t k) (s.requires.2.fine.line k (subst (λ (n : ℕ). k < n) (sym (rows-length t)) l))

-- once step 4 was asked
last : (c : tie.After-fits) (b : Bool) → c.fits.result ≡ b →
    let k = c.before.before.before in let s = begun k.before in let j = get_or s.args.place.now s.args.w 0 - 64 in
    let rows = rows_of s.args.t.now in let place = s.args.place.now in let kinds = s.args.kinds.now in
    cond b (TurnsBy (D.leaving rows place kinds j k.before.moves_up-up.result k.stopping-first.result) s.args.w) (Ends O.Wide)
    ≡ D.step_in (bound 128) rows (cells s.args.goal.now) place kinds s.args.greatest s.args.left s.args.w
last c b h =
    let e = c.before.before in let k = e.before in let s = begun k.before in
    step-last (bound 128) (rows_of s.args.t.now) (cells s.args.goal.now) s.args.place.now s.args.kinds.now s.args.greatest s.args.left s.args.w
    k.before.moves_up-up.result k.stopping-first.result k.before.moves_up-up.ensures k.stopping-first.ensures b e.if-place-first.false c.before.if-left-eq0.false (sym c.fits.ensures ∙ h)

mul-j : tie.Need-offset_bounds-place-w
mul-j c = search rules

shared-slice-read-j : tie.Need-bounds-place-w
shared-slice-read-j c = search rules

sub-j : tie.Need-overflow_sub-j
sub-j c = search rules

moves-up-requires : tie.Need-moves_up-up-requires
moves-up-requires c κs = let s = c.before.before.before in (s.requires.1, column s)

stopping-requires : tie.Need-stopping-first-requires
stopping-requires c κs = let s = begun c in (s.requires.0, placed s, column s)

returns : tie.Need-returns-then-place-first
returns c =
    let k = c.before in let s = begun k.before in
    step-endless (bound 128) (rows_of s.args.t.now) (cells s.args.goal.now) s.args.place.now s.args.kinds.now s.args.greatest s.args.left s.args.w
    k.before.moves_up-up.result k.stopping-first.result k.before.moves_up-up.ensures k.stopping-first.ensures c.if-place-first.true

returns-2 : tie.Need-returns-then-left-eq0
returns-2 c =
    let e = c.before in let k = e.before in let s = begun k.before in
    step-long (bound 128) (rows_of s.args.t.now) (cells s.args.goal.now) s.args.place.now s.args.kinds.now s.args.greatest s.args.left s.args.w
    k.before.moves_up-up.result k.stopping-first.result k.before.moves_up-up.ensures k.stopping-first.ensures e.if-place-first.false c.if-left-eq0.true

fits-requires : tie.Need-fits-requires
fits-requires c κs = let s = begun c.before.before.before in (s.requires.0, s.requires.1, column s, lines s, s.requires.2.line)

returns-3 : tie.Need-returns-then-not-fits
returns-3 c = last c.before false (not-true _ c.if-not-fits.true-raw)

leaving-requires : tie.Need-leaving-v-requires
leaving-requires c κs =
    let b = c.before in let k = b.before.before.before in let s = begun k.before in
    let rows = rows_of s.args.t.now in let goal = cells s.args.goal.now in let j = get_or s.args.place.now s.args.w 0 - 64 in
    let x = R.narrow_rows_at (bound 128) j rows in let y = R.narrow_row_at (bound 128) j goal in
    let h : (x && y) ≡ true = sym b.fits.ensures ∙ not-false _ c.if-not-fits.false-raw in (
      s.requires.0,
      placed s,
      column s,
      b.before.before.if-place-first.false,
      k.stopping-first.ensures,
      stops-small rows s.args.place.now s.args.kinds.now j k.before.moves_up-up.result s.args.n s.requires.2.fine (from-T x (and_left x y (subst T (sym h) tt))),
    )

returns-4 : tie.Need-returns
returns-4 c =
    let b = c.before.before in
    ap (λ (v : ℕ). TurnsBy v (begun b.before.before.before.before).args.w) c.leaving-v.ensures ∙ last b true (not-false _ c.before.if-not-fits.false-raw)

pub step_in_spec : {M : Type 1} → statement M
step_in_spec =
    tie.close
    (tie.spec
    mul-j
    shared-slice-read-j
    sub-j
    moves-up-requires
    stopping-requires
    returns
    returns-2
    fits-requires
    returns-3
    leaving-requires
    returns-4)
