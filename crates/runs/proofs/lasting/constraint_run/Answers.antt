use Rattle.std.proofs.Common.{◌<◌, length, arith}
use Rattle.bounds.proofs.Extremes.{back-within}
use Rattle.bounds.proofs.Sides.{row_loose}
use Rattle.runs.proofs.Upward.{reach-less}
use Rattle.runs.proofs.lasting.constraint_run.Goals as goal

pub guess-m-requires : goal.guess-m-requires
guess-m-requires c =
    let a = c.args in let p = c.requires in let few = p.1.few in let axis : a.k < 8 = omega (arith, p.0.axis) in (
      row_loose a.s.now (length a.low.now) a.r.now p.1.few p.0.row,
      p.2,
      record { axis = axis; from_size = back-within (omega arith) c.gap-from.ensures.size; to_size = back-within (omega arith) c.gap-to.ensures.size },
      p.3,
      p.5,
    )

pub lasts-requires : goal.lasts-requires
lasts-requires c =
    let p = c.requires in
    (p.0, p.1, p.3, reach-less c.args.k c.args.high.now c.guess-m.result c.args.most c.guess-m.ensures.1 p.4, c.guess-m.ensures.0)
