use Rattle.std.proofs.Common.{[], ◌∷◌, refl, sym, ◌∙◌, arith}
use Rattle.records.proofs.Emitting.{put_one, put-past}
use Rattle.records.proofs.writing.emit_opening.Goals as goal
use Rattle.records.proofs.writing.emit_opening.Goals.{then-at-out, else-at-out}

pub returns : goal.returns
returns c =
    record {
      ends = refl;
      bytes =
          elim c.if-at-out.branch [
            | then-at-out w ↦ w.out-is ∙ sym (put_one c.args.at 17 c.args.out.now)
            | else-at-out w ↦ w.out-is ∙ sym (put-past c.args.at (17 ∷ []) c.args.out.now (omega arith))
          ];
    }
