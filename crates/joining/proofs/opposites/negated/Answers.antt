use Rattle.std.proofs.Common.{◌≡◌, ◌∙◌, ap, T, length, get_or, pos, neg_ℤ, ◌-ℤ◌, SFits, w16, rules, arith}
use Rattle.std.proofs.lemmas.Int.{to_z-of_z}
use Rattle.codec.specs.Bytes.{coefficient}
use Rattle.model.proofs.Count.{all-at}
use Rattle.model.proofs.Lists.{up_to-none, up_to-more, up_to-next, up_to-each, each, each_at}
use Rattle.joining.proofs.Placing.{minus_is, minus-fits}
use Rattle.joining.proofs.opposites.negated.Goals as goal

pub loop-x-init : goal.loop-x-init
loop-x-init c = up_to-none _ _

pub overflow_sub-x : goal.overflow_sub-x
overflow_sub-x c =
    let l : length c.args.xs ≡ 8 = search rules in
    let i = c.loop-x.x-index in
    let x = get_or c.loop-x.x-items i (pos 0) in
    let f : SFits w16 x = search rules in
    let e : x ≡ get_or c.args.xs i (pos 0) = ap (λ l. get_or l i (pos 0)) c.loop-x.invariant ∙ up_to-next (each neg_ℤ) i c.args.xs (pos 0) in
    let t : T (coefficient x) = rw e (all-at coefficient c.args.xs i (pos 0) (omega arith) c.requires) in
    rw (to_z-of_z w16 x f) (minus-fits x t)

pub loop-x-preserved : goal.loop-x-preserved
loop-x-preserved c =
    let l : length c.args.xs ≡ 8 = search rules in
    let x = get_or c.loop-x.x-items c.loop-x.x-index (pos 0) in
    let f : SFits w16 x = search rules in
    let g = overflow_sub-x c in
    up_to-more (pos 0) (each neg_ℤ) c.loop-x.x-index c.args.xs c.loop-x.x-items _ (omega arith) c.loop-x.invariant
    (to_z-of_z w16 _ g ∙ ap (λ y. pos 0 -ℤ y) (to_z-of_z w16 x f) ∙ minus_is x ∙ each_at neg_ℤ c.loop-x.x-index x)

pub returns : goal.returns
returns c =
    let l : length c.args.xs ≡ 8 = search rules in
    c.loop-x.invariant ∙ up_to-each neg_ℤ c.loop-x.x-index c.args.xs (omega arith)
