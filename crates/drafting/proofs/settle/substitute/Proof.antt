-- `drafting::settle::substitute` meets its contract. Assumes nothing.
use mathlib.Core.Path.{◌≡◌, ap, ◌∙◌}
use Prim.Native.Nat.{◌<◌}
use borrow.Author.Rules.{rules}
use lib.IntN.{neg_ℤ}
use Rattle.integers.specs.Gcd.{gcd}
use Rattle.wide.specs.Wide.{size, value_of}
use Rattle.wide_tableau.specs.Cells.{cells}
use Rattle.drafting.specs.Sketch.{divided_by, substituted, sketch_of}
use Rattle.drafting.proofs.Making as K
use Rattle.drafting.proofs.settle.substitute.Statement.{statement}
use Rattle.drafting.proofs.settle.substitute.Tie as tie

abbrev copied : tie.After-clear → tie.After-wipe
copied c = c.before.before.before.before.before

abbrev start : tie.After-clear → tie.Start
start c = (copied c).before.before.before.before

abbrev first : tie.After-combine-h → tie.After-combine-g
first c = c.before.before.before

parts : (c : tie.After-clear) → let s = start c in let n = c.before.before.before in
    K.Parts s.args.v (cells s.args.r.now) (sketch_of s.args.row.now s.args.waiting.now) (value_of (copied c).before.before.before.cell_at-m.result) (value_of n.negate-c.result) (value_of c.before.before.zero-z.result) (cells (copied c).wipe.new.r) (cells c.clear.new.r)
parts c =
    let z = c.before.before in let n = z.before in
    record {
      divisor_is = (copied c).before.before.before.cell_at-m.ensures.0;
      row_is = (copied c).wipe.ensures.is;
      by = n.negate-c.ensures.0 ∙ ap neg_ℤ n.before.cell_at-b.ensures.0;
      none = z.zero-z.ensures.0;
      others = c.clear.ensures.is;
    }

lowest : (c : tie.After-gcd-d) → let y = c.before in let x = first y in let s = start x.before.before.before in
    (0 < size c.gcd-d.result) × (divided_by (size c.gcd-d.result) (sketch_of x.combine-g.new.r y.combine-h.new.r) ≡ substituted s.args.v (cells s.args.r.now) (sketch_of s.args.row.now s.args.waiting.now))
lowest c =
    let y = c.before in let x = first y in let k = x.before.before.before in
    let e : size c.gcd-d.result ≡ gcd (size x.combine-g.result) (size y.combine-h.result) = c.gcd-d.ensures in
    K.lowest-is (parts k) (start k).requires.4 x.combine-g.ensures.is y.combine-h.ensures.is (size c.gcd-d.result) (size x.combine-g.result) (size y.combine-h.result) e x.combine-g.ensures.divisor_is y.combine-h.ensures.divisor_is

cell-at-requires : tie.Need-cell_at-m-requires
cell-at-requires c κs = search rules

wipe-requires : tie.Need-wipe-requires
wipe-requires c κs = search rules

add-cell-at : tie.Need-overflow_add-v
add-cell-at c = search rules

cell-at-requires-2 : tie.Need-cell_at-b-requires
cell-at-requires-2 c κs = search rules

negate-requires : tie.Need-negate-c-requires
negate-requires c κs = search rules

zero-requires : tie.Need-zero-z-requires
zero-requires c κs = search rules

clear-requires : tie.Need-clear-requires
clear-requires c κs = search rules

combine-requires : tie.Need-combine-g-requires
combine-requires c κs =
    let k = c.before.before in let s = start k in let h = s.requires.4 in let p = parts k in
    (s.requires.0, (copied k).wipe.ensures.sheet, h.ready.whole.line, K.row_line p h, h.small, K.row_small p h, K.divisor-near p h, K.by_near p h)

combine-requires-2 : tie.Need-combine-h-requires
combine-requires-2 c κs =
    let k = c.before.before.before.before.before in let h = (start k).requires.4 in let p = parts k in
    (k.clear.ensures.sheet, (copied k).wipe.ensures.sheet, K.others-line p h, K.row_line p h, K.others-small p h, K.row_small p h, K.divisor-near p h, K.none-near p h)

gcd-requires : tie.Need-gcd-d-requires
gcd-requires c κs = search rules

lower-requires : tie.Need-lower-requires
lower-requires c κs =
    let g = c.before.before in let y = g.before in let x = first y in let k = x.before.before.before in
    let o = K.combined-whole (parts k) (start k).requires.4 x.combine-g.ensures.is y.combine-h.ensures.is in
    (x.combine-g.ensures.sheet, y.combine-h.ensures.sheet, o.line, o.waits, (lowest g).0)

returns : tie.Need-returns
returns c =
    let e = c.lower.ensures in
    record { is = e.is ∙ (lowest c.before.before.before).1; sheet = e.sheet; waits = e.waits }

pub substitute_spec : {M : Type 1} → statement M
substitute_spec =
    tie.close
    (tie.spec
    cell-at-requires
    wipe-requires
    add-cell-at
    cell-at-requires-2
    negate-requires
    zero-requires
    clear-requires
    combine-requires
    combine-requires-2
    gcd-requires
    lower-requires
    returns)
