use Rattle.std.proofs.Common.{rules}
use Rattle.results.specs.Outcome.{outcome_is}
use Rattle.results.proofs.Chained.{finish-over, finish-long, finish-given}
use Rattle.results.proofs.results.finish.Goals as goal

pub returns-then-not-s : goal.returns-then-not-s
returns-then-not-s c = record { answers = finish-over c.args.s c.args.out.now c.refuse.new.out (outcome_is c.refuse.result) (search rules) c.refuse.ensures }

pub returns-then-out-at : goal.returns-then-out-at
returns-then-out-at c =
    record { answers = finish-long c.args.s c.args.out.now c.refuse-then-out-at.new.out (outcome_is c.refuse-then-out-at.result) (search rules) c.if-out-at.true c.refuse-then-out-at.ensures }

pub returns : goal.returns
returns c = record { answers = finish-given c.args.s c.args.out.now c.clear.new.out (search rules) c.if-out-at.false c.clear.ensures }
