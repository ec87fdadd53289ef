use Rattle.memory.specs.Memory.{newest}
use Rattle.memory.proofs.Counts.{put-ranks}
use Rattle.memory.proofs.ranks.mark_newest.Goals as goal

pub returns : goal.returns
returns c = put-ranks (newest c.args.name) c.args.heads.now c.newest.new.ranks c.newest.ensures
