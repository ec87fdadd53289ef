use Rattle.std.proofs.Common.{◌≡◌, ◌∙◌, sym, map, length, take, rules, arith}
use Rattle.std.proofs.lemmas.List.{length-map, length-take}
use Rattle.model.specs.Values.{division_of}
use Rattle.joining.proofs.Placing.{division_here, seek-hit, seek-other, seek-taken, seek-end}
use Rattle.joining.proofs.divisions.seek.Goals as goal
use Rattle.joining.proofs.divisions.seek.Goals.{else-not-taken-i-via-then-not-taken-i+else-same, else-not-taken-i-via-else-not-taken-i}

pub returns-then-same : goal.returns-then-same
returns-then-same c =
    let l : length c.args.ds ≡ 8 = search rules in
    let here = division_here c.args.ds c.args.n c.loop-i.i (omega arith) (omega arith) in
    record {
      found = λ used shown. c.loop-i.invariant used shown ∙ seek-hit _ _ used _ c.loop-i.i here (sym c.same.ensures ∙ c.if-same.true) (sym (shown c.loop-i.i c.loop-i-test.true) ∙ c.if-not-taken-i.true);
      within = c.loop-i-test.true;
    }

pub loop-i-preserved : goal.loop-i-preserved
loop-i-preserved c = λ used shown.
    let l : length c.args.ds ≡ 8 = search rules in
    let here = division_here c.args.ds c.args.n c.loop-i.i (omega arith) (omega arith) in
    c.loop-i.invariant used shown ∙ elim c.else-not-taken-i.branch [
      | else-not-taken-i-via-then-not-taken-i+else-same w ↦ seek-other _ _ used _ c.loop-i.i here (sym w.same.ensures ∙ w.if-same.false)
      | else-not-taken-i-via-else-not-taken-i w ↦ seek-taken _ _ used _ c.loop-i.i here (sym (shown c.loop-i.i c.loop-i-test.true) ∙ w.if-not-taken-i.false)
    ]

pub returns : goal.returns
returns c =
    let l : length c.args.ds ≡ 8 = search rules in
    let D = map division_of (take c.args.n c.args.ds) in
    let w : length D ≡ c.loop-i.i = simp (length-map, length-take) (omega arith) in
    record { found = λ used shown. c.loop-i.invariant used shown ∙ seek-end _ used D c.loop-i.i w; within = tt }
