use Rattle.std.proofs.Common.{lt_of_le_of_lt, SFits, w16, w64}
use Rattle.std.proofs.lemmas.Int.{to_z-of_z}
use Rattle.joining.proofs.Dividing.{down-mag}
use Rattle.joining.proofs.tightening.quotient.Goals as goal

pub overflow_cast-result : goal.overflow_cast-result
overflow_cast-result c =
    let n : SFits w64 c.from.result = record { sfits = c.from.type_inv } in
    let q : SFits w64 c.floor_div.result = record { sfits = c.floor_div.type_inv } in
    rw (to_z-of_z w64 _ q, c.floor_div.ensures, to_z-of_z w64 _ n, c.from.ensures, to_z-of_z w16 _ c.ranges.x)
    (record { sfits = lt_of_le_of_lt (down-mag _ c.args.x) c.ranges.x.sfits })
