use Rattle.std.proofs.Common.{◌≡◌, pos, ◌∙◌, subst, rules}
use mir.Syntax.{w32, w64}
use mir.Val.{SFits, to_z, of_z}
use mir.Facts.{to_z-of_z}
use Rattle.model.specs.Values.{constraint_of}
use Rattle.simplex.specs.Table.{Started}
use Rattle.simplex.proofs.Fills.{constraint-is}
use Rattle.simplex.proofs.fill.constraint_row.Goals as goal

pub returns : goal.returns
returns c =
    let r = c.args.c in
    let l = c.row_of.new.r in
    let fits : SFits w32 r.constant = search rules in
    let constant : to_z w64 (of_z w64 c.from.result) ≡ r.constant = to_z-of_z {w = w64} (record { sfits = c.from.type_inv }) ∙ c.from.ensures ∙ to_z-of_z fits in
    constraint-is c.args.k (constraint_of r) l c.copy.new.r c.requires (subst (λ z. Started c.args.k z (pos 1) r.axes l) constant c.row_of.ensures) c.copy.ensures
