use Rattle.std.proofs.Common.{◌≡◌, ◌+◌, ◌∙◌, cond, take, rules, arith}
use Rattle.std.proofs.Math.ListN.{set}
use Rattle.cutting.proofs.Steps.{steps-stored}
use Rattle.cutting.proofs.pieces.mark.Goals as goal

pub returns : goal.returns
returns c =
    let a = c.args in
    let p : c.from.result ≡ cond a.k.above 1 0 = search rules in
    let q : c.from-2.result ≡ cond a.k.below 1 0 = search rules in
    let u = c.step.ensures in
    let v = c.step-2.ensures in
    record {
      steps_are =
          (λ i. take (a.n + p i + q i) (set (set a.steps.now a.n (u i)) (a.n + p i) (v i)))
          ∙ steps-stored a.steps.now a.n (a.at + a.at + 1) (a.at + a.at + 0) a.k.above a.k.below c.requires.1;
      count = omega arith;
    }
