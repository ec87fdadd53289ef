use Rattle.std.proofs.Common.{map}
use Rattle.memory.specs.Memory.{forgotten}
use Rattle.memory.proofs.Counts.{put-ranks}
use Rattle.memory.proofs.ranks.forget_after.Goals as goal

pub returns : goal.returns
returns c = put-ranks (map (forgotten c.args.rank)) c.args.heads.now c.forget.new.ranks c.forget.ensures
