use Rattle.std.proofs.Common.{rules}
use Rattle.probe.proofs.counts.probe_count.Goals as goal

pub returns : goal.returns
returns c = record { number = search rules; members = search rules; prefixes = search rules }
