use Rattle.std.proofs.Common.{◌≡◌, refl, ap, ◌/◌, take, ◌∙◌, rules}
use Rattle.std.proofs.Math.Seq.{take_at}
use Rattle.codec.specs.Bytes.{bytes_of, signed_bytes}
use Rattle.records.specs.Writing.{Emitted}
use Rattle.records.proofs.Emitting.{emitted-of, emitted-more, bytes_4}
use Rattle.records.proofs.writing.put_division.Goals as goal

pub returns-clause-bytes : goal.returns-clause-bytes
returns-clause-bytes c =
    let e = c.args.e in
    let b : c.to_le_bytes.result ≡ bytes_of 4 e.divisor = search rules in
    let low = ap (take 2) (b ∙ bytes_4 e.divisor) ∙ take_at (bytes_of 2 e.divisor) (bytes_of 2 (e.divisor / 65536)) 2 refl in
    let p₂ = emitted-of low c.put-p-2.ensures in
    let p₃ : Emitted (signed_bytes 4 e.constant) c.put-p-2.new.out c.put-p-2.result c.put-p-3.result c.put-p-3.new.out = emitted-of (search rules) c.put-p-3.ensures in
    emitted-more (emitted-more (emitted-more c.put-p.ensures p₂) p₃) c.put_coefficients.ensures.bytes
