use Rattle.codec.specs.Places.{set_from}
use Rattle.subtraction.proofs.Firsts.{first-level}
use Rattle.operations.proofs.Meeting.{first-void, first-emits}
use Rattle.operations.proofs.pairs.meet_divided.Goals as goal

pub meet_all-requires : goal.meet_all-requires
meet_all-requires c = (first-level _ _ c.in-Some.ensures c.requires.0, c.requires.1, c.requires.2)

pub returns-in-Some : goal.returns-in-Some
returns-in-Some c = first-emits c.in-Some.ensures c.args.out.now c.args.s (set_from c.args.b.now 0) c.meet_all.ensures

pub returns-in-None : goal.returns-in-None
returns-in-None c = first-void c.in-None.ensures c.args.out.now c.args.s c.requires.1 (set_from c.args.b.now 0)
