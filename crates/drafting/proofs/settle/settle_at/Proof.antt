-- `drafting::settle::settle_at` meets its contract. Assumes nothing.
use mathlib.Core.Path.{◌≡◌, sym, ap, ◌∙◌, subst}
use mathlib.Core.List.{List}
use Prim.Native.Nat.{◌+◌, ◌<◌}
use native.Mathlib.Omega.{arith}
use borrow.Author.Rules.{rules}
use lib.ListN.{length, get_or}
use lib.IntN.{ℤ, pos}
use lib.Signed.{◌<ℤ◌}
use Rattle.integers.specs.Size.{bound}
use Rattle.model.specs.Sets.{is_zero}
use Rattle.wide.specs.Wide.{size}
use Rattle.tableau.specs.Rows.{den, Line}
use Rattle.wide_tableau.specs.Cells.{cells, rows_of}
use Rattle.wide_tableau.proofs.Sheets.{rows_at, rows-length}
use Rattle.wide_tableau.proofs.Signs.{zero_is, zero-no}
use Rattle.drafting.specs.Sketch.{sketch_of, replaced_by}
use Rattle.drafting.proofs.Making.{settled-none, settled-one}
use Rattle.drafting.proofs.settle.settle_at.Statement.{statement}
use Rattle.drafting.proofs.settle.settle_at.Tie as tie

abbrev start : tie.After-is_zero → tie.Start
start c = c.before.before.before.before

tested : (c : tie.After-is_zero) → let s = start c in c.is_zero.result ≡ is_zero (get_or (cells s.args.waiting.now) (s.args.v + 2) (pos 0))
tested c =
    let b = c.before.before in
    c.is_zero.ensures ∙ zero_is b.cell_at-b.result.neg (size b.cell_at-b.result.magnitude) ∙ ap is_zero b.cell_at-b.ensures.0

-- what waits is a row
inside : (c : tie.Else-is_zero) → let s = start c.before in get_or s.args.place.now s.args.v 0 < length s.args.t.now
inside c =
    let s = start c.before in
    let h = s.requires.4.spot s.args.v s.requires.5 (zero-no _ (sym (tested c.before) ∙ c.if-is_zero.false)) in
    omega (arith, h, rows-length s.args.t.now)

add-cell-at : tie.Need-overflow_add-v
add-cell-at c = search rules

cell-at-requires : tie.Need-cell_at-b-requires
cell-at-requires c κs = search rules

is-zero-requires : tie.Need-is_zero-requires
is-zero-requires c κs = search rules

returns : tie.Need-returns-then-is_zero
returns c =
    let z = c.before in let s = start z in
    record {
      is = settled-none (bound 128) (rows_of s.args.t.now) s.args.place.now s.args.v (sketch_of s.args.row.now s.args.waiting.now) (sym (tested z) ∙ c.if-is_zero.true);
      sheet = s.requires.1;
      waits = s.requires.2;
    }

mul-i : tie.Need-offset_bounds-place-v
mul-i c = search rules

shared-slice-read-i : tie.Need-bounds-place-v
shared-slice-read-i c = search rules

add-replace : tie.Need-overflow_add-k
add-replace c = search rules

mul-replace : tie.Need-offset_bounds-t-i
mul-replace c = let h = inside c.before.before.before in search rules

shared-slice-element-replace : tie.Need-bounds-t-i
shared-slice-element-replace c = let h = inside c.before.before.before in search rules

replace-requires : tie.Need-replace-requires
replace-requires c κs =
    let e = c.before.before.before in let s = start e.before in let i = get_or s.args.place.now s.args.v 0 in let h = inside e in let t = s.args.t.now in
    let b : i < length (rows_of t) = omega (arith, h, rows-length t) in
    (s.requires.1, s.requires.2, s.requires.0.at i h, omega (arith, s.requires.5, s.requires.3.few), record { whole = s.requires.4.whole; line = subst (Line (s.args.k + 10)) (rows_at t i) (s.requires.3.line i b); over = subst (λ (l : List ℤ). pos 0 <ℤ den l) (rows_at t i) (s.requires.3.over i b) })

returns-2 : tie.Need-returns
returns-2 c =
    let e = c.before.before.before.before in let z = e.before in let s = start z in let t = s.args.t.now in let o = sketch_of s.args.row.now s.args.waiting.now in let v = s.args.v in
    record {
      is = settled-one (bound 128) (rows_of t) s.args.place.now v o (sym (tested z) ∙ e.if-is_zero.false) ∙ ap (λ (l : List ℤ). replaced_by (bound 128) v l o) (rows_at t (get_or s.args.place.now v 0)) ∙ c.replace.ensures.is;
      sheet = c.replace.ensures.sheet;
      waits = c.replace.ensures.waits;
    }

pub settle_at_spec : {M : Type 1} → statement M
settle_at_spec =
    tie.close
    (tie.spec
    add-cell-at
    cell-at-requires
    is-zero-requires
    returns
    mul-i
    shared-slice-read-i
    add-replace
    mul-replace
    shared-slice-element-replace
    replace-requires
    returns-2)
