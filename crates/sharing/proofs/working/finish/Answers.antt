use Rattle.std.proofs.Common.{◌≡◌, ◌∙◌, ap, sym, subst, length, get_or, replicate, ◌≤◌, pos, ◌+◌, SFits, w64, rules}
use Rattle.std.proofs.lemmas.Int.{to_z-of_z}
use Rattle.tableau.specs.Rows.{violated_by}
use Rattle.sharing.proofs.Appending.{rejoined, point-more, dropped-more, finish-fine, finish-run}
use Rattle.sharing.proofs.working.finish.Goals as goal

pub returns-then-not-is_violated : goal.returns-then-not-is_violated
returns-then-not-is_violated c =
    let f : SFits w64 (get_or c.args.r 1 (pos 0)) = search rules in
    sym (point-more c.requires.calm 1 c.args.left (ap (violated_by 1) (sym (to_z-of_z w64 _ f)) ∙ sym c.is_violated.ensures ∙ c.if-not-is_violated.true))

pub returns-then-v-w : goal.returns-then-v-w
returns-then-v-w c =
    let f : SFits w64 (get_or c.args.r 1 (pos 0)) = search rules in
    sym (dropped-more c.requires.calm 1 c.args.left (ap (violated_by 1) (sym (to_z-of_z w64 _ f)) ∙ sym c.is_violated.ensures ∙ c.if-not-is_violated.false) (subst (λ i. c.args.v ≤ i) c.helping-w.ensures c.if-v-w.true))

pub rest-requires : goal.rest-requires
rest-requires c =
    let x = c.copy_from_slice in
    let y = c.copy_from_slice-2 in
    let z = c.copy_from_slice-3 in
    finish-fine c.requires.calm 1 _ _ _ x.ensures.after y.ensures.after z.ensures.after
    (rejoined c.args.m x.new.self c.args.spare.now x.auto.self ∙ c.requires.spare_len) (rejoined c.args.v y.new.self (replicate 80 0) y.auto.self) (rejoined c.args.v z.new.self (replicate 80 0) z.auto.self)

pub returns : goal.returns
returns c =
    let x = c.copy_from_slice in
    let y = c.copy_from_slice-2 in
    let z = c.copy_from_slice-3 in
    c.rest.ensures ∙ finish-run c.requires.calm 1 _ _ _ x.ensures.after y.ensures.after z.ensures.after
    (rejoined c.args.m x.new.self c.args.spare.now x.auto.self ∙ c.requires.spare_len) (rejoined c.args.v y.new.self (replicate 80 0) y.auto.self) (rejoined c.args.v z.new.self (replicate 80 0) z.auto.self) c.args.left
