-- `drafting::begin::begin` meets its contract. Assumes nothing.
use mathlib.Core.Path.{◌≡◌, sym, ap, ◌∙◌}
use Prim.Native.Nat.{◌+◌, ◌-◌, ◌≤◌}
use native.Mathlib.Omega.{arith}
use borrow.Author.Rules.{rules}
use lib.ListN.{get_or}
use lib.IntN.{ℤ}
use mir.Syntax.{w32}
use mir.Val.{to_z, of_z}
use mir.Facts.{to_z-of_z}
use Rattle.model.specs.Values.{constraint_of}
use Rattle.wide_tableau.specs.Cells.{Sheet}
use Rattle.drafting.specs.Sketch.{sketch_of, put_at, put_from, begun}
use Rattle.drafting.proofs.Making.{put-start, put-more, put-end}
use Rattle.drafting.proofs.begin.begin.Statement.{statement}
use Rattle.drafting.proofs.begin.begin.Tie as tie

abbrev invariant-loop : tie.invariant-loop-v
invariant-loop c k place row₀ waiting₀ z v₀ row waiting v = (v ≤ 8 + k) × Sheet row × Sheet waiting × (put_from (constraint_of c) place (8 + k - v) v (sketch_of row waiting) ≡ begun k place (constraint_of c))

abbrev decreases-loop : tie.decreases-loop-v
decreases-loop c k place row₀ waiting₀ z v₀ row waiting v = 8 + k - v

bare-requires : tie.Need-bare-requires invariant-loop decreases-loop
bare-requires c κs = search rules

loop-holds : tie.Need-loop-v-init invariant-loop decreases-loop
loop-holds c =
    let o = c.before.before.before in let s = o.before.before in let r = constraint_of s.args.c in let e = c.bare.ensures in (
      omega arith,
      e.sheet,
      e.waits,
      put-start r s.args.place.now s.args.k (sketch_of c.bare.new.row c.bare.new.waiting) (to_z w32 (of_z w32 r.constant)) e.is (to_z-of_z {w = w32} {z = r.constant} (record { sfits = o.struct_told-1.given.1.1.0.1 })),
    )

add-loop : tie.Need-overflow_add-k invariant-loop decreases-loop
add-loop c = search rules

coefficient-requires : tie.Need-coefficient-x-requires invariant-loop decreases-loop
coefficient-requires c κs = search rules

mul-i : tie.Need-offset_bounds-place-v invariant-loop decreases-loop
mul-i c = search rules

shared-slice-read-i : tie.Need-bounds-place-v invariant-loop decreases-loop
shared-slice-read-i c = search rules

put-requires : tie.Need-put-requires invariant-loop decreases-loop
put-requires c κs =
    let x = c.before.before.before in let i = x.before in let l = i.before.loop-v in let s = i.before.before.before.before.before.before.before in
    (l.invariant.1, l.invariant.2, omega (arith, i.loop-v-test.true, s.requires.0), s.requires.2 l.v i.loop-v-test.true, x.coefficient-x.ensures.1)

add-v : tie.Need-overflow_add-v invariant-loop decreases-loop
add-v c = search rules

loop-less : tie.Need-loop-v-smaller invariant-loop decreases-loop
loop-less c = search rules

loop-again : tie.Need-loop-v-preserved invariant-loop decreases-loop
loop-again c =
    let x = c.before.before.before.before in let i = x.before in let l = i.before.loop-v in let s = i.before.before.before.before.before.before.before in
    let r = constraint_of s.args.c in let place = s.args.place.now in let n = 8 + s.args.k in let v = l.v in let o = sketch_of l.row l.waiting in (
      omega arith,
      c.put.ensures.sheet,
      c.put.ensures.waits,
      ap (put_from r place (n - (v + 1)) (v + 1)) (c.put.ensures.is ∙ ap (λ (z : ℤ). put_at v (get_or place v 0) z o) x.coefficient-x.ensures.0)
          ∙ put-more r place n v o i.loop-v-test.true ∙ l.invariant.3,
    )

returns : tie.Need-returns invariant-loop decreases-loop
returns c =
    let l = c.before.loop-v in let s = c.before.before.before.before.before.before.before in
    record {
      is = sym (put-end (constraint_of s.args.c) s.args.place.now (8 + s.args.k) l.v (sketch_of l.row l.waiting) c.loop-v-test.false) ∙ l.invariant.3;
      sheet = l.invariant.1;
      waits = l.invariant.2;
    }

pub begin_spec : {M : Type 1} → statement M
begin_spec =
    tie.close
    (tie.spec
    invariant-loop
    decreases-loop
    bare-requires
    loop-holds
    add-loop
    coefficient-requires
    mul-i
    shared-slice-read-i
    put-requires
    add-v
    loop-less
    loop-again
    returns)
