use Rattle.std.proofs.Common.{◌≡◌, ℕ, sym, ap, ◌∙◌, Bool, cond}
use Rattle.std.specs.Prelude.{ℤ}
use Rattle.wide_tableau.specs.Cells.{cells}
use Rattle.wide.specs.Wide.{size, value_of}
use lib.Dec.{eqb}
use Rattle.model.specs.Sets.{is_zero}
use Rattle.wide.specs.Wide.{signed}
use Rattle.wide_tableau.proofs.Signs.{zero_is, zero-no}
use Rattle.tableau.specs.Rows as R
use Rattle.wide_tableau.proofs.pivot.rebuild.Goals as goal

-- what the test of the entry tells
found : (s : Bool) (n : ℕ) (z : ℤ) (b : Bool) → b ≡ eqb n 0 → signed s n ≡ z → is_zero z ≡ b
found s n z b h e = sym (h ∙ zero_is s n ∙ ap is_zero e)

pub returns-then-is_zero : goal.returns-then-is_zero
unfolding R.rebuild_row
returns-then-is_zero c =
    let r = cells c.args.r.now in
    let x = c.cell_at.result in
    let e = found x.neg (size x.magnitude) (R.entry r c.args.j) _ c.is_zero.ensures c.cell_at.ensures.0 ∙ c.if-is_zero.true in (
      record { is = sym (ap (λ (b : Bool). cond b r (R.replace_row r c.args.j (value_of c.args.m) (cells c.args.q.now))) e); sheet = c.requires.0 },
      sym (ap (λ (b : Bool). cond {A = ℕ} b 0 1) e),
    )

pub replace-requires : goal.replace-requires
replace-requires c =
    let x = c.cell_at.result in
    let f = zero-no _ (found x.neg (size x.magnitude) (R.entry (cells c.args.r.now) c.args.j) _ c.is_zero.ensures c.cell_at.ensures.0 ∙ c.if-is_zero.false) in
    let r = c.requires.3 in
    let d = c.requires.4 in
    (c.requires.0, c.requires.1, c.requires.2, r.line, d.line, r.small f, d.small, d.none, d.near, d.over, r.dens f)

pub returns : goal.returns
unfolding R.rebuild_row
returns c =
    let r = cells c.args.r.now in
    let x = c.cell_at.result in
    let e = found x.neg (size x.magnitude) (R.entry r c.args.j) _ c.is_zero.ensures c.cell_at.ensures.0 ∙ c.if-is_zero.false in (
      record { is = c.replace.ensures.is ∙ sym (ap (λ (b : Bool). cond b r (R.replace_row r c.args.j (value_of c.args.m) (cells c.args.q.now))) e); sheet = c.replace.ensures.sheet },
      sym (ap (λ (b : Bool). cond {A = ℕ} b 0 1) e),
    )
