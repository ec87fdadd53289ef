use Rattle.std.proofs.Common.{◌≡◌, length, sym, ◌∙◌, arith}
use Rattle.codec.specs.Places.{division_width}
use Rattle.model.specs.Values.{division_of}
use Rattle.records.proofs.Emitting.{emitted-of, division_bytes, put-fresh}
use Rattle.records.proofs.writing.emit_division.Goals as goal

pub returns-clause-bytes : goal.returns-clause-bytes
returns-clause-bytes c =
    let e = c.args.e in let p = c.put_division-2.ensures in let x = p.bytes.ends in let y = p.size in
    let n : length (division_bytes e) ≡ division_width (division_of e) = omega arith in
    let l : c.put_division-2.new.out ≡ division_bytes e = p.bytes.bytes ∙ put-fresh (division_bytes e) _ (sym n) in
    emitted-of l c.copy_bytes.ensures
