use Rattle.std.proofs.Common.{◌≡◌, take, refl, sym, ◌∙◌, arith, rules, length-take-le}
use Rattle.records.specs.Writing.{put}
use Rattle.records.proofs.Emitting.{put-mid, put-past, put-cut}
use Rattle.records.proofs.writing.copy_bytes.Goals as goal
use Rattle.records.proofs.writing.copy_bytes.Goals.{then-at-out, else-at-out}

-- what the table has no room for makes no difference
pub returns : goal.returns
returns c =
    let l = c.args.from.now in let o = c.args.out.now in let at = c.args.at in
    record {
      ends = refl;
      bytes =
          elim c.if-at-out.branch [
            | then-at-out w ↦
                let n = w.min-n.result in
                let e = length-take-le n l (omega arith) in
                let part : c.if-at-out.out ≡ put at (take n l) o = w.out-is ∙ put-mid at _ (take n l) w.copy_from_slice.new.self o (search rules) (omega arith) (omega arith) in
                part ∙ put-cut at n l o (omega arith) (λ h. omega arith)
            | else-at-out w ↦ w.out-is ∙ sym (put-past at l o (omega arith))
          ];
    }
