-- `states::adding::grow` meets its contract. Assumes nothing.
use Prim.Native.Nat.{◌+◌}
use Rattle.drafting.proofs.Sketches.{rule-whole}
use Rattle.drafting.specs.Sketch.{rule_row}
use Rattle.integers.specs.Size.{bound}
use Rattle.memory.specs.Memory.{Memory, memory}
use Rattle.model.specs.Values.{constraint_of}
use Rattle.states.proofs.Growing.{rows_taken, place-taken, open-laid}
use Rattle.states.proofs.Stepping.{grown-wide, grown-row}
use Rattle.states.specs.Parts.{Joins}
use Rattle.wide_tableau.specs.Cells.{cells, rows_of}
use borrow.Author.Tests.{not-true, not-false}
use lib.ListN.{take, length-set}
use mathlib.Core.Bool.{cond}
use mathlib.Core.Option.{none, some}
use mathlib.Core.Path.{◌≡◌, sym, ap, ◌∙◌}
use native.Mathlib.Omega.{arith}
use borrow.Author.Rules.{rules}
use Rattle.states.proofs.adding.grow.Statement.{statement}
use Rattle.states.proofs.adding.grow.Tie as tie

abbrev start : tie.After-draft → tie.Start
start c = c.before.before.before.before.before

-- the memory at first
abbrev first : tie.Start → Memory
first s = memory s.args.rows.now s.args.place.now s.args.kinds.now s.args.heads.now

-- the row that was drafted
drafts : (c : tie.Else-not-draft) → let d = c.before in let s = start d in
    rule_row (bound 128) s.args.k (rows_of (take s.args.m s.args.rows.now)) (take (8 + s.args.k + s.args.m) s.args.place.now) (constraint_of s.args.c) ≡ some (cells d.draft.new.row)
drafts c = let d = c.before in d.draft.ensures.is ∙ ap (λ b. cond b (some (cells d.draft.new.row)) none) (not-false d.draft.result c.if-not-draft.false-raw)

joins : (c : tie.Else-not-draft) → Joins (start c.before).args.k c.before.draft.new.row
joins c =
    let d = c.before in let s = start d in let e = d.draft.ensures in let o = s.requires.0 in
    let w = rule-whole s.args.k (rows_of (take s.args.m s.args.rows.now)) (take (8 + s.args.k + s.args.m) s.args.place.now) (open-laid o) (bound 128) (constraint_of s.args.c) (cells d.draft.new.row) (drafts c) in
    record { sheet = e.sheet; line = w.0; over = w.1 }

add-names : tie.Need-overflow_add-names
add-names c = search rules

add-names-2 : tie.Need-overflow_add-names-2
add-names-2 c = search rules

slice-reshare-prefix-draft : tie.Need-slice_bounds-draft-end
slice-reshare-prefix-draft c = search rules

slice-aggregate-draft : tie.Need-slice_bounds-draft-end-2
slice-aggregate-draft c = sym (rows_taken c.before.before.before.requires.0)

slice-reshare-prefix-draft-2 : tie.Need-slice_bounds-draft-end-3
slice-reshare-prefix-draft-2 c = search rules

slice-aggregate-draft-2 : tie.Need-slice_bounds-draft-end-4
slice-aggregate-draft-2 c = sym (place-taken c.before.before.before.requires.0)

draft-requires : tie.Need-draft-requires
draft-requires c κs = let s = c.before.before.before.before in (s.requires.0.stands.sheets, open-laid s.requires.0)

slice-write-heads : tie.Need-bounds-heads-4
slice-write-heads c = search rules

same_length : tie.Need-shape_of-rows-then-not-draft
same_length c = search rules

same-length-2 : tie.Need-shape_of-place-then-not-draft
same-length-2 c = search rules

same-length-3 : tie.Need-shape_of-heads-then-not-draft
same-length-3 c = search rules

returns : tie.Need-returns-then-not-draft
returns c = let d = c.before in let s = start d in grown-wide s.args.k s.args.m (constraint_of s.args.c) (first s) (d.draft.ensures.is ∙ ap (λ b. cond b (some (cells d.draft.new.row)) none) (not-true d.draft.result c.if-not-draft.true-raw))

kind-of-requires : tie.Need-kind_of-kind-requires
kind-of-requires c κs = search rules

go-with-requires : tie.Need-go_with-requires
go-with-requires c κs = let e = c.before.before.before.before in ((start e.before).requires.0, joins e)

slice-write-heads-2 : tie.Need-bounds-heads-4-2
slice-write-heads-2 c = search rules

add-heads : tie.Need-overflow_add-heads
add-heads c = search rules

slice-write-heads-3 : tie.Need-bounds-heads-3
slice-write-heads-3 c = let s = start c.before.before.before.before.before.before.before.before.before.before.before in simp length-set (omega (arith, s.requires.1))

same-length-4 : tie.Need-shape_of-rows
same-length-4 c = search rules

same-length-5 : tie.Need-shape_of-place
same-length-5 c = search rules

same-length-6 : tie.Need-shape_of-kinds
same-length-6 c = search rules

same-length-7 : tie.Need-shape_of-heads
same-length-7 c = search rules

returns-2 : tie.Need-returns
returns-2 c =
    let g = c.before.before.before.before.before in let k = g.before.before.before.before in let e = k.before in let d = e.before in let s = start d in
    grown-row s.args.k s.args.m k.kind_of-kind.result (constraint_of s.args.c) (first s) (cells d.draft.new.row) (drafts e) k.kind_of-kind.ensures g.go_with.ensures

pub grow_spec : {M : Type 1} → statement M
grow_spec =
    tie.close
    (tie.spec
    add-names
    add-names-2
    slice-reshare-prefix-draft
    slice-aggregate-draft
    slice-reshare-prefix-draft-2
    slice-aggregate-draft-2
    draft-requires
    slice-write-heads
    same_length
    same-length-2
    same-length-3
    returns
    kind-of-requires
    go-with-requires
    slice-write-heads-2
    add-heads
    slice-write-heads-3
    same-length-4
    same-length-5
    same-length-6
    same-length-7
    returns-2)
