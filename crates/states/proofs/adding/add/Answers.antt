-- Each way out of an addition, by the definition's cases.
use Rattle.std.proofs.Common.{refl, sym, ap, ◌∙◌}
use Rattle.std.proofs.lemmas.Result.{err_from_is_err_and}
use Rattle.model.proofs.Refused.{number-some}
use Rattle.memory.specs.Memory.{memory}
use Rattle.rules.specs.Rules.{rule_of}
use Rattle.states.specs.Calls.{says, joined_in}
use Rattle.states.proofs.Growing.{number_passed}
use Rattle.states.proofs.Stepping.{add-unfit, add-unsound, add-refused, add_done}
use Rattle.states.proofs.adding.add.Goals as goal

pub returns-then-not-fits : goal.returns-then-not-fits
returns-then-not-fits c = add-unfit _ _ (sym c.if-not-fits.ensures)

pub returns-then-not-sound : goal.returns-then-not-sound
returns-then-not-sound c = add-unsound _ _ (sym c.if-not-fits.ensures) (sym c.if-not-sound.ensures)

pub returns-in_err-check_rule : goal.returns-in_err-check_rule
returns-in_err-check_rule c =
    let p = err_from_is_err_and c.from_residual.result c.from_residual.ensures.1 in
    rw (p.1, p.2) (add-refused _ _ (sym c.if-not-fits.ensures) (sym c.if-not-sound.ensures) _ c.in_err-check_rule.ensures (number-some _))

pub constraint_of-c-requires : goal.constraint_of-c-requires
constraint_of-c-requires c =
    let p = number_passed _ _ _ (rule_of c.args.rule) (sym c.in_ok-check_rule.ensures) in
    (p.0, p.1)

pub returns : goal.returns
returns c =
    let y = memory c.args.rows.now c.args.place.now c.args.kinds.now c.args.heads.now in
    add_done _ _ (sym c.if-not-fits.ensures) (sym c.if-not-sound.ensures) _ c.in_ok-check_rule.ensures refl (c.join.ensures ∙ ap (λ x. says (joined_in x y)) c.constraint_of-c.ensures)
