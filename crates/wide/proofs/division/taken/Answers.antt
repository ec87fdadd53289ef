use Rattle.std.proofs.Common.{lit<}
use Rattle.wide.proofs.Digits.{once}
use Rattle.wide.proofs.division.taken.Goals as goal

pub returns-then-less : goal.returns-then-less
returns-then-less c = record { part_is = once _; some = lit< tt; holds = c.requires }
