use Rattle.candidates.proofs.Catching.{follow-none, follow-last, follow-on}
use Rattle.candidates.proofs.survivors.follow.Goals.{then-not-joins-via-then-not-joins}
use Rattle.candidates.proofs.survivors.follow.Goals.{then-not-joins-via-else-not-joins+then-left-eq0}
use Rattle.candidates.proofs.survivors.follow.Goals as goal

pub returns-then-not-joins : goal.returns-then-not-joins
returns-then-not-joins c = elim c.then-not-joins.branch [
  | then-not-joins-via-then-not-joins w ↦ follow-none w.if-not-joins.true
  | then-not-joins-via-else-not-joins+then-left-eq0 w ↦ follow-last w.if-left-eq0.true
]

pub returns : goal.returns
returns c = follow-on c.if-not-joins.false c.if-left-eq0.false c.grow.ensures
