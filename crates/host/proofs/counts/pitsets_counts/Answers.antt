use Rattle.std.proofs.Common.{rules}
use Rattle.host.proofs.counts.pitsets_counts.Goals as goal

pub returns : goal.returns
returns c = record { answer = record { number = search rules; prefixes = search rules }; counts = search rules }
