use Rattle.std.proofs.Common.{ℕ, ◌+◌, ap, ◌∙◌}
use Rattle.std.proofs.Math.ListN.{set}
use Rattle.memory.specs.Memory.{newest, last}
use Rattle.memory.proofs.ranks.newest.Goals as goal

pub returns : goal.returns
unfolding newest
returns c = ap (λ (n : ℕ). set c.lower.new.ranks c.args.name (n + 1)) c.marks.ensures.0 ∙ ap (last c.args.name) c.lower.ensures
