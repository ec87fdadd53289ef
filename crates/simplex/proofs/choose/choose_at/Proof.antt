use mathlib.Core.Path.{sym, ◌∙◌}
use mathlib.Core.Bool.{true, false}
use mathlib.Core.List.{[]}
use borrow.Author.Rules.{rules}
use native.Mathlib.Omega.{arith}
use lib.ListN.{get_or}
use Rattle.tableau.proofs.Searches.{column-spot}
use Rattle.simplex.proofs.Moves.{choose-dropped, choose-long, choose-last, row-spot}
use Rattle.simplex.proofs.choose.choose_at.Statement.{statement}
use Rattle.simplex.proofs.choose.choose_at.Tie as tie

mul-i : tie.Need-offset_bounds-place-v
mul-i c = search rules

shared-slice-read-i : tie.Need-bounds-place-v
shared-slice-read-i c = search rules

mul-helping : tie.Need-offset_bounds-t-i
mul-helping c =
    let s = c.before.before.before in
    let (f, (e, l)) = s.requires in
    let h = row-spot s.args.n s.args.t.now s.args.place.now s.args.kinds.now s.args.v f e l in omega (arith, f.count)

shared-slice-element-helping : tie.Need-bounds-t-i
shared-slice-element-helping c =
    let s = c.before.before.before in
    let (f, (e, l)) = s.requires in
    row-spot s.args.n s.args.t.now s.args.place.now s.args.kinds.now s.args.v f e l

helping-requires : tie.Need-helping-w-requires
helping-requires c κs = search rules

returns : tie.Need-returns-then-count-w
returns c =
    let s = c.before.before.before.before.before in
    let (f, (e, l)) = s.requires in
    choose-dropped s.args.t.now s.args.place.now s.args.kinds.now s.args.left s.args.v e l c.before.helping-w.result c.before.helping-w.ensures c.if-count-w.true

returns-2 : tie.Need-returns-then-left-eq0
returns-2 c =
    let s = c.before.before.before.before.before.before in
    let (f, (e, l)) = s.requires in
    choose-long s.args.t.now s.args.place.now s.args.kinds.now s.args.left s.args.v e l c.before.before.helping-w.result c.before.before.helping-w.ensures c.before.if-count-w.false c.if-left-eq0.true

mul-j : tie.Need-offset_bounds-place-w
mul-j c = search rules

shared-slice-read-j : tie.Need-bounds-place-w
shared-slice-read-j c = search rules

sub-j : tie.Need-overflow_sub-j
sub-j c =
    let s = c.before.before.before.before.before.before.before in
    let t = s.args.t.now in
    let place = s.args.place.now in
    (column-spot (get_or t (get_or place s.args.v 0) []) place s.args.kinds.now c.before.before.before.helping-w.result c.before.before.before.helping-w.ensures c.before.before.if-count-w.false).0

narrow-requires : tie.Need-narrow-requires
narrow-requires c κs =
    let f = c.before.before.before.before.before.before.before.requires.0 in
    (omega (arith, f.near c.before.before.before.helping-w.result c.before.before.if-count-w.false), f.line)

returns-3 : tie.Need-returns-then-narrow
returns-3 c =
    let s = c.before.before.before.before.before.before.before.before.before in
    let (f, (e, l)) = s.requires in
    let h = c.before.before.before.before.before.helping-w in
    choose-last s.args.t.now s.args.place.now s.args.kinds.now s.args.left s.args.v e l h.result h.ensures true c.before.before.before.before.if-count-w.false c.before.before.before.if-left-eq0.false (sym c.before.narrow.ensures ∙ c.if-narrow.true)

returns-4 : tie.Need-returns-else-narrow
returns-4 c =
    let s = c.before.before.before.before.before.before.before.before.before in
    let (f, (e, l)) = s.requires in
    let h = c.before.before.before.before.before.helping-w in
    choose-last s.args.t.now s.args.place.now s.args.kinds.now s.args.left s.args.v e l h.result h.ensures false c.before.before.before.before.if-count-w.false c.before.before.before.if-left-eq0.false (sym c.before.narrow.ensures ∙ c.if-narrow.false)

pub choose_at_spec : {M : Type 1} → statement M
choose_at_spec =
    tie.close
    (tie.spec
    mul-i
    shared-slice-read-i
    mul-helping
    shared-slice-element-helping
    helping-requires
    returns
    returns-2
    mul-j
    shared-slice-read-j
    sub-j
    narrow-requires
    returns-3
    returns-4)
