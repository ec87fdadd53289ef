use Rattle.std.proofs.Common.{rules}
use Rattle.probe.proofs.counts.probe_counts.Goals as goal

pub returns : goal.returns
returns c =
    record {
      answer = record { number = search rules; members = search rules; prefixes = search rules };
      counts = search rules;
    }
