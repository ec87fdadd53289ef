use Rattle.std.proofs.Common.{SFits, w32, rules}
use Rattle.std.proofs.lemmas.Int.{to_z-of_z}
use Rattle.joining.proofs.Placing.{above-room}
use Rattle.joining.proofs.opposites.above.Goals as goal

pub overflow_sub-result : goal.overflow_sub-result
overflow_sub-result c =
    let f : SFits w32 c.args.c.constant = search rules in
    rw (to_z-of_z w32 _ f) (above-room _ f c.requires.constant)
