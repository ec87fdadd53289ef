-- `states::adding::join` meets its contract. Assumes nothing.
use Prim.Native.Nat.{◌+◌}
use Rattle.memory.specs.Memory.{Memory, memory}
use Rattle.model.specs.Values.{constraint_of}
use Rattle.states.proofs.Growing.{opened}
use Rattle.states.proofs.Stepping.{joined-other, joined-point}
use lib.ListN.{length, get_or, length-set}
use mathlib.Core.Path.{◌≡◌, ◌∙◌}
use native.Mathlib.Omega.{arith}
use borrow.Author.Rules.{rules}
use Rattle.states.proofs.adding.join.Statement.{statement}
use Rattle.states.proofs.adding.join.Tie as tie

abbrev start : tie.After-slice_known-7-1 → tie.Start
start c = c.before.before.before.before.before.before.before

-- the memory at first
abbrev first : tie.Start → Memory
first s = memory s.args.rows.now s.args.place.now s.args.kinds.now s.args.heads.now

-- where the state says point, before and after the rule has joined
abbrev point : tie.After-grow → tie.Else-w-ne1
point c = c.before.before.before.before.before

abbrev grew : tie.After-heads-1 → tie.After-grow
grew c = c.before.before.before.before.before.before

-- the heads keep their number
long : (c : tie.After-heads-1) → length (grew c).grow.new.heads ≡ length (start (point (grew c)).before).args.heads.now
long c = let h = (start (point (grew c)).before).args.heads.now in c.heads-1.given ∙ length-set h 2 (get_or h 2 0 + 1)

slice-read-k : tie.Need-bounds-heads-1
slice-read-k c = search rules

slice-read-m : tie.Need-bounds-heads-3
slice-read-m c = search rules

slice-read-w : tie.Need-bounds-heads-4
slice-read-w c = search rules

slice-read-heads : tie.Need-bounds-heads-2
slice-read-heads c = search rules

add-heads : tie.Need-overflow_add-heads
add-heads c = search rules

slice-write-heads : tie.Need-bounds-heads-2-2
slice-write-heads c = search rules

said-of-requires : tie.Need-said_of-requires
said-of-requires c κs = search rules

same_length : tie.Need-shape_of-heads-then-w-ne1
same_length c = search rules

returns : tie.Need-returns-then-w-ne1
returns c = let t = c.before in let s = start t.before in joined-other (constraint_of s.args.c) (first s) t.if-w-ne1.true c.said_of.ensures

grow-requires : tie.Need-grow-requires
grow-requires c κs =
    let e = c.before.before.before.before in let s = start e.before in let h = s.args.heads.now in
    (opened (first s) s.requires.0 s.requires.1 s.requires.2, omega (arith, length-set h 2 (get_or h 2 0 + 1), s.requires.0.heads))

slice-read-now : tie.Need-bounds-heads-4-2
slice-read-now c = let a = c.before.before in omega (arith, long a, (start (point (grew a)).before).requires.0.heads)

said-of-requires-2 : tie.Need-said_of-requires-2
said-of-requires-2 c κs = search rules

same-length-2 : tie.Need-shape_of-rows
same-length-2 c = search rules

same-length-3 : tie.Need-shape_of-place
same-length-3 c = search rules

same-length-4 : tie.Need-shape_of-kinds
same-length-4 c = search rules

same-length-5 : tie.Need-shape_of-heads
same-length-5 c = long c.before.before.before

returns-2 : tie.Need-returns
returns-2 c =
    let a = c.before.before.before in let g = grew a in let e = point g in let s = start e.before in
    joined-point (constraint_of s.args.c) (first s) e.if-w-ne1.false g.grow.ensures c.said_of-2.ensures

pub join_spec : {M : Type 1} → statement M
join_spec =
    tie.close
    (tie.spec
    slice-read-k
    slice-read-m
    slice-read-w
    slice-read-heads
    add-heads
    slice-write-heads
    said-of-requires
    same_length
    returns
    grow-requires
    slice-read-now
    said-of-requires-2
    same-length-2
    same-length-3
    same-length-4
    same-length-5
    returns-2)
