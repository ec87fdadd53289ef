use Rattle.std.proofs.Common.{◌≡◌, sym, ap, ◌+◌, get_or, pos, true, false}
use Rattle.std.specs.Int.Signed.{lt_z}
use Rattle.tableau.specs.Rows.{turn_row, turn_by}
use Rattle.tableau.proofs.Lines.{back, wider, within-minus}
use Rattle.tableau.proofs.row.turn.Goals as goal

pub returns-then-a-lt0 : goal.returns-then-a-lt0
unfolding turn_row
returns-then-a-lt0 c =
    let ha = wider (c.requires.small (c.args.j + 2)) in
    let hd = wider (c.requires.small 0) in
    let t : lt_z (get_or c.args.r.now (c.args.j + 2) (pos 0)) (pos 0) ≡ true = simp (back ha) at c.if-a-lt0.true in
    rw (back ha, back hd, back (within-minus ha), back (within-minus hd)) (sym (ap (λ b. turn_by b c.args.r.now c.args.j) t))

pub returns-else-a-lt0 : goal.returns-else-a-lt0
unfolding turn_row
returns-else-a-lt0 c =
    let ha = wider (c.requires.small (c.args.j + 2)) in
    let hd = wider (c.requires.small 0) in
    let t : lt_z (get_or c.args.r.now (c.args.j + 2) (pos 0)) (pos 0) ≡ false = simp (back ha) at c.if-a-lt0.false in
    rw (back ha, back hd, c.negate.ensures) (sym (ap (λ b. turn_by b c.args.r.now c.args.j) t))
