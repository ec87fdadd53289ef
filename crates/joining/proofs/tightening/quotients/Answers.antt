use Rattle.std.proofs.Common.{◌≡◌, ◌∙◌, ap, length, get_or, pos, SFits, w16, rules, arith}
use Rattle.std.proofs.lemmas.Int.{to_z-of_z}
use Rattle.model.proofs.Lists.{up_to-none, up_to-more, up_to-each, each, each_at}
use Rattle.joining.specs.Joining.{down_by}
use Rattle.joining.proofs.tightening.quotients.Goals as goal

pub loop-x-init : goal.loop-x-init
loop-x-init c = up_to-none _ _

pub loop-x-preserved : goal.loop-x-preserved
loop-x-preserved c =
    let l : length c.args.xs ≡ 8 = search rules in
    let x = get_or c.loop-x.x-items c.loop-x.x-index (pos 0) in
    let f : SFits w16 x = search rules in
    up_to-more (pos 0) (each (down_by c.args.g)) c.loop-x.x-index c.args.xs c.loop-x.x-items _ (omega arith) c.loop-x.invariant
    (to_z-of_z w16 _ (record { sfits = c.quotient.type_inv }) ∙ c.quotient.ensures ∙ ap (down_by c.args.g) (to_z-of_z w16 x f) ∙ each_at (down_by c.args.g) c.loop-x.x-index x)

pub returns : goal.returns
returns c =
    let l : length c.args.xs ≡ 8 = search rules in
    c.loop-x.invariant ∙ up_to-each (down_by c.args.g) c.loop-x.x-index c.args.xs (omega arith)
