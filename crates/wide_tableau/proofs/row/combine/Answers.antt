use Rattle.std.proofs.Common.{◌≡◌, ℕ, ◌+◌, sym, refl, ap, ◌∙◌, subst, List, get_or, drop, pos, ◌-ℤ◌, ◌*ℤ◌, arith}
use Rattle.std.specs.Prelude.{ℤ}
use mathlib.Core.Path.{ap₂}
use Rattle.wide_tableau.specs.Cells.{cells}
use Rattle.wide.specs.Wide.{size, value_of}
use Rattle.integers.specs.Z.{Within}
use Rattle.integers.specs.Size.{bound}
use Rattle.tableau.specs.Rows as R
use Rattle.tableau.proofs.Lines as L
use Rattle.wide_tableau.proofs.row.combine.Goals as goal

pub loop-i-init : goal.loop-i-init
loop-i-init c = record { sheet = c.requires.0; combined = L.up_to-none _ _; divided = refl }

pub determinant-z-requires : goal.determinant-z-requires
determinant-z-requires c =
    let i = c.loop-i.i in
    let r = cells c.args.r.now in
    let e : get_or (cells c.loop-i.r) i (pos 0) ≡ get_or r i (pos 0) = ap (λ (t : List ℤ). get_or t i (pos 0)) c.loop-i.invariant.combined ∙ L.up_to-next _ i r (pos 0) in (
      subst (Within (bound 128)) (sym (c.cell_at.ensures.0 ∙ e)) (c.requires.4 i),
      c.requires.6,
      c.requires.7,
      subst (Within (bound 128)) (sym c.cell_at-in-loop-i.ensures.0) (c.requires.5 i),
    )

pub loop-i-preserved : goal.loop-i-preserved
unfolding L.mul_sub
loop-i-preserved c =
    let i = c.loop-i.i in
    let r = cells c.args.r.now in
    let q = cells c.args.q.now in
    let m = value_of c.args.m in
    let b = value_of c.args.b in
    let l = cells c.loop-i.r in
    let z : value_of c.determinant-z.result ≡ get_or l i (pos 0) *ℤ m -ℤ b *ℤ get_or q i (pos 0) =
    c.determinant-z.ensures.0 ∙ ap₂ (λ (u v : ℤ). u *ℤ m -ℤ b *ℤ v) c.cell_at.ensures.0 c.cell_at-in-loop-i.ensures.0 in
    let e : get_or l i (pos 0) ≡ get_or r i (pos 0) = ap (λ (t : List ℤ). get_or t i (pos 0)) c.loop-i.invariant.combined ∙ L.up_to-next _ i r (pos 0) in
    let f = c.requires.2 in
    record {
      sheet = c.set_cell.ensures.sheet;
      combined = c.set_cell.ensures.is ∙ L.up_to-more (pos 0) (L.mul_sub m b q) i r l _ (omega (arith, f.fit, f.long)) c.loop-i.invariant.combined z;
      divided =
          ap (λ (g : ℕ). R.divisor_from g (drop (i + 1) (R.combine_rows m b r q))) c.divisor_with-g.ensures
          ∙ L.divisor-more c.args.n m b r q f c.requires.3 i (size c.loop-i.g) _ (omega arith) (z ∙ ap (λ (u : ℤ). u *ℤ m -ℤ b *ℤ get_or q i (pos 0)) e)
          ∙ c.loop-i.invariant.divided;
    }

pub returns : goal.returns
returns c =
    let n = c.args.n in
    let i = c.loop-i.i in
    let r = cells c.args.r.now in
    let q = cells c.args.q.now in
    let m = value_of c.args.m in
    let b = value_of c.args.b in
    record {
      is = c.loop-i.invariant.combined ∙ L.up_to-combine m b n i r q c.requires.2 c.requires.3 (omega arith) (omega (arith, c.requires.2.fit));
      sheet = c.loop-i.invariant.sheet;
      divisor_is = L.divisor-all n m b r q c.requires.2 c.requires.3 i (size c.loop-i.g) (omega arith) c.loop-i.invariant.divided;
    }
