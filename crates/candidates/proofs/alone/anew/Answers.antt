use Rattle.std.proofs.Common.{◌≡◌, ◌∙◌, ap, ◌≤◌, length, rules, arith}
use Rattle.model.specs.Values.{constraint_of}
use Rattle.algebra.specs.Cut as C
use Rattle.candidates.proofs.Catching.{put_last}
use Rattle.candidates.proofs.alone.anew.Goals as goal

pub returns : goal.returns
returns c =
    let l : length c.args.w.constraints ≡ 48 = search rules in
    let k = c.requires.0.cons in
    let h : c.args.w.cons ≤ 48 = omega arith in
    c.is_kept.ensures ∙ ap C.is_kept c.test_basic.ensures.verdict_is ∙ ap C.keeps (c.put-q.ensures.is ∙ put_last c.args.w l h (constraint_of c.args.o))
