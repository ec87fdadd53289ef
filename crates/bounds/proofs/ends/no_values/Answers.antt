use Rattle.std.proofs.Common.{refl}
use Rattle.bounds.proofs.Reading.{zeros-all}
use Rattle.bounds.proofs.ends.no_values.Goals as goal

pub returns : goal.returns
returns c = (refl, zeros-all)
