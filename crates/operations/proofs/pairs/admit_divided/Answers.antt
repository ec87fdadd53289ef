use Rattle.operations.proofs.Meeting.{admit-void, admit-sound, admit-tested}
use Rattle.operations.proofs.pairs.admit_divided.Goals as goal

pub emit_kept-requires : goal.emit_kept-requires
emit_kept-requires c = let tightened = admit-sound c.in-Some.ensures c.requires.0 in let given = c.requires.0 in (search (tightened, given), c.requires.1, c.requires.2)

pub returns-in-Some : goal.returns-in-Some
returns-in-Some c = admit-tested c.in-Some.ensures c.args.out.now c.args.s c.emit_kept.ensures

pub returns-in-None : goal.returns-in-None
returns-in-None c = admit-void c.in-None.ensures c.args.out.now c.args.s c.requires.1
