-- `drafting::settle::settle` meets its contract. Assumes nothing.
use mathlib.Core.Path.{◌≡◌, sym, ap, ◌∙◌}
use mathlib.Core.Bool.{Bool, cond}
use mathlib.Core.Option.{none, some}
use Prim.Native.Nat.{◌+◌, ◌-◌, ◌≤◌}
use native.Mathlib.Omega.{arith}
use borrow.Author.Rules.{rules}
use borrow.Author.Tests.{not-true, not-false}
use Rattle.integers.specs.Size.{bound}
use Rattle.wide_tableau.specs.Cells.{rows_of, Sheet}
use Rattle.drafting.specs.Sketch.{sketch_of, settled_from, Sound}
use Rattle.drafting.proofs.Sketches.{settle-sound}
use Rattle.drafting.proofs.Making.{settle-start, settle-more, settle-wide, settle-end}
use Rattle.drafting.proofs.settle.settle.Statement.{statement}
use Rattle.drafting.proofs.settle.settle.Tie as tie

abbrev invariant-loop : tie.invariant-loop-v
invariant-loop row₀ waiting₀ t place k v₀ row waiting v =
    (v ≤ 8 + k) × Sheet row × Sheet waiting × Sound k (rows_of t) place (sketch_of row waiting)
    × (settled_from (bound 128) (rows_of t) place (8 + k - v) v (sketch_of row waiting) ≡ settled_from (bound 128) (rows_of t) place (8 + k) 0 (sketch_of row₀ waiting₀))

abbrev decreases-loop : tie.decreases-loop-v
decreases-loop row₀ waiting₀ t place k v₀ row waiting v = 8 + k - v

loop-holds : tie.Need-loop-v-init invariant-loop decreases-loop
loop-holds c =
    let s = c.before in
    (omega arith, s.requires.1, s.requires.2, s.requires.4, settle-start (bound 128) (rows_of s.args.t.now) s.args.place.now (8 + s.args.k) 0 (sketch_of s.args.row.now s.args.waiting.now))

add-loop : tie.Need-overflow_add-k invariant-loop decreases-loop
add-loop c = search rules

settle-at-requires : tie.Need-settle_at-requires invariant-loop decreases-loop
settle-at-requires c κs =
    let i = c.before.before in let l = i.before.loop-v in let s = i.before.before.before in
    (s.requires.0, l.invariant.1, l.invariant.2, s.requires.3, l.invariant.3, i.loop-v-test.true)

returns : tie.Need-returns-then-not-settle_at invariant-loop decreases-loop
returns c =
    let a = c.before in let i = a.before.before.before in let l = i.before.loop-v in let s = i.before.before.before in let e = a.settle_at.ensures in
    let o = sketch_of l.row l.waiting in let o' = sketch_of a.settle_at.new.row a.settle_at.new.waiting in
    record {
      is = sym l.invariant.4 ∙ settle-wide (bound 128) (rows_of s.args.t.now) s.args.place.now (8 + s.args.k) l.v o i.loop-v-test.true (e.is ∙ ap (λ (b : Bool). cond b (some o') none) (not-true a.settle_at.result c.if-not-settle_at.true-raw));
      sheet = e.sheet;
      waits = e.waits;
    }

add-v : tie.Need-overflow_add-v invariant-loop decreases-loop
add-v c = search rules

loop-less : tie.Need-loop-v-smaller invariant-loop decreases-loop
loop-less c = search rules

loop-again : tie.Need-loop-v-preserved invariant-loop decreases-loop
loop-again c =
    let a = c.before in let i = a.before.before.before in let l = i.before.loop-v in let s = i.before.before.before in let e = a.settle_at.ensures in
    let rows = rows_of s.args.t.now in let place = s.args.place.now in let o = sketch_of l.row l.waiting in let o' = sketch_of a.settle_at.new.row a.settle_at.new.waiting in
    let q = e.is ∙ ap (λ (b : Bool). cond b (some o') none) (not-false a.settle_at.result c.if-not-settle_at.false-raw) in (
      omega arith,
      e.sheet,
      e.waits,
      settle-sound s.args.k rows place s.requires.3 (bound 128) l.v o o' i.loop-v-test.true l.invariant.3 q,
      settle-more (bound 128) rows place (8 + s.args.k) l.v o o' i.loop-v-test.true q ∙ l.invariant.4,
    )

returns-2 : tie.Need-returns invariant-loop decreases-loop
returns-2 c =
    let l = c.before.loop-v in let s = c.before.before.before in
    record {
      is = sym l.invariant.4 ∙ settle-end (bound 128) (rows_of s.args.t.now) s.args.place.now (8 + s.args.k) l.v (sketch_of l.row l.waiting) c.loop-v-test.false;
      sheet = l.invariant.1;
      waits = l.invariant.2;
    }

pub settle_spec : {M : Type 1} → statement M
settle_spec =
    tie.close
    (tie.spec
    invariant-loop
    decreases-loop
    loop-holds
    add-loop
    settle-at-requires
    returns
    add-v
    loop-less
    loop-again
    returns-2)
