use Rattle.counting.proofs.Summing.{added-same}
use Rattle.counting.proofs.levels.noted_all.Goals as goal

pub returns-else-c-p : goal.returns-else-c-p
returns-else-c-p c = let a = c.args in added-same a.c a.p.low a.p.k a.i a.m _ _ c.if-c-p.false c.noted.ensures
