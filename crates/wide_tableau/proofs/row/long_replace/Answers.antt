use Rattle.std.proofs.Common.{◌+◌, sym, ap, ◌∙◌, subst, List, set, pos, neg_ℤ, ◌<ℤ◌}
use Rattle.std.specs.Prelude.{ℤ}
use mathlib.Core.Path.{ap₂}
use Rattle.wide_tableau.specs.Cells.{cells}
use Rattle.wide.specs.Wide.{value_of}
use Rattle.integers.specs.Z.{Within}
use Rattle.integers.specs.Size.{bound}
use Prim.Native.Nat.{zero-le}
use Rattle.tableau.specs.Rows as R
use Rattle.tableau.proofs.Lines as L
use Rattle.wide_tableau.proofs.row.long_replace.Goals as goal

pub combine-g-requires : goal.combine-g-requires
combine-g-requires c =
    let r = cells c.args.r.now in
    let j = c.args.j in
    let e = c.clear.ensures.is in
    let o = c.negate-b.ensures.0 ∙ ap neg_ℤ c.cell_at.ensures.0 ∙ sym (L.minus_is (R.entry r j)) in (
      c.clear.ensures.sheet,
      c.requires.1,
      subst (R.Line c.args.n) (sym e) (L.clear-line c.args.n r (j + 2) c.requires.3),
      c.requires.4,
      subst (λ (l : List ℤ). R.Small (bound 128) l) (sym e) (L.set-small (bound 128) r (j + 2) (pos 0) (record { size = zero-le }) c.requires.5),
      c.requires.6,
      c.requires.8,
      subst (Within (bound 128)) (sym o) (L.within-minus (c.requires.5 (j + 2))),
    )

pub reduce_by-requires : goal.reduce_by-requires
reduce_by-requires c =
    let r = cells c.args.r.now in
    let q = cells c.args.q.now in
    let j = c.args.j in
    let n = c.args.n in
    let m = value_of c.args.m in
    let l = set r (j + 2) (pos 0) in
    let b = value_of c.negate-b.result in
    let hl = L.clear-line n r (j + 2) c.requires.3 in
    let f = c.combine-g.ensures.is ∙ ap (λ (l : List ℤ). R.combine_rows m b l q) c.clear.ensures.is in (
      c.combine-g.ensures.sheet,
      subst (R.Line n) (sym f) (L.combine-line n m b l q hl c.requires.4),
      subst (λ (x : List ℤ). pos 0 <ℤ R.den x) (sym f) (L.combine-den n m b l q hl c.requires.4 c.requires.9 (subst (λ (x : ℤ). pos 0 <ℤ x) (sym (L.set-den r j (pos 0))) c.requires.10) c.requires.7),
      c.combine-g.ensures.divisor_is ∙ ap R.divisor (sym c.combine-g.ensures.is),
    )

pub returns : goal.returns
unfolding R.replace_row
returns c =
    let r = cells c.args.r.now in
    let q = cells c.args.q.now in
    let m = value_of c.args.m in
    let o = c.negate-b.ensures.0 ∙ ap neg_ℤ c.cell_at.ensures.0 ∙ sym (L.minus_is (R.entry r c.args.j)) in
    record {
      is = c.reduce_by.ensures.is ∙ ap R.reduce_row (c.combine-g.ensures.is ∙ ap₂ (λ (b : ℤ) (l : List ℤ). R.combine_rows m b l q) o c.clear.ensures.is);
      sheet = c.reduce_by.ensures.sheet;
    }
