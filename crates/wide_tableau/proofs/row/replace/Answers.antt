use Rattle.std.proofs.Common.{◌≡◌, sym, ap, ◌∙◌, subst, List, get_or, pos, ◌<ℤ◌}
use Rattle.std.specs.Prelude.{ℤ}
use mathlib.Core.Path.{ap₂}
use Rattle.wide_tableau.specs.Cells.{cells, Becomes}
use Rattle.integers.specs.Z.{Within}
use Rattle.integers.specs.Size.{bound}
use mir.Syntax.{w64}
use mir.Val.{SFits, to_z, of_z}
use mir.Facts.{to_z-of_z}
use Rattle.tableau.specs.Rows as R
use Rattle.wide_tableau.proofs.row.replace.Goals as goal

divisor_is : (z m : ℤ) → SFits w64 z → z ≡ m → to_z w64 (of_z w64 z) ≡ m
divisor_is z m h e = to_z-of_z h ∙ e

pub replace-requires : goal.replace-requires
replace-requires c =
    let h = c.all_narrow.ensures c.if-all_narrow.true in
    let es = sym h.0.is in
    let ep = sym h.1.is in
    let em = sym (divisor_is _ _ (record { sfits = c.narrow.type_inv }) c.narrow.ensures) in
    record {
      j_bound = c.requires.2;
      line = subst (R.Line c.args.n) es c.requires.3;
      line_2 = subst (R.Line c.args.n) ep c.requires.4;
      small = subst (R.Small (bound 64)) es h.0.small;
      small_2 = subst (R.Small (bound 64)) ep h.1.small;
      pos_value = subst (λ (l : List ℤ). get_or l 0 (pos 0) ≡ pos 0) ep c.requires.7;
      within = subst (Within (bound 64)) em h.2;
      pos_bound = subst (λ (z : ℤ). pos 0 <ℤ z) em c.requires.9;
      pos_bound_2 = subst (λ (l : List ℤ). pos 0 <ℤ R.den l) es c.requires.10;
    }

pub returns-then-all_narrow : goal.returns-then-all_narrow
returns-then-all_narrow c =
    let j = c.args.j in
    let h = c.all_narrow.ensures c.if-all_narrow.true in
    let e = divisor_is _ _ (record { sfits = c.narrow.type_inv }) c.narrow.ensures in
    subst (Becomes _)
    (c.replace.ensures ∙ ap₂ (λ (l m : List ℤ). R.replace_row l j (to_z w64 (of_z w64 c.narrow.result)) m) h.0.is h.1.is
    ∙ ap (λ (z : ℤ). R.replace_row (cells c.args.r.now) j z (cells c.args.q.now)) e)
    c.carry_row.ensures
