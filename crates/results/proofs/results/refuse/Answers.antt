use Rattle.model.specs.Refused.{number_of}
use Rattle.results.proofs.Chained.{refused-is}
use Rattle.results.proofs.results.refuse.Goals as goal

pub returns : goal.returns
returns c = refused-is (number_of c.args.refusal) c.args.out.now c.clear.new.out c.clear.ensures
