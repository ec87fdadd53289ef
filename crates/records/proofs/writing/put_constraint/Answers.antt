use Rattle.std.proofs.Common.{rules}
use Rattle.codec.specs.Bytes.{signed_bytes}
use Rattle.records.specs.Writing.{Emitted}
use Rattle.records.proofs.Emitting.{emitted-of, emitted-more}
use Rattle.records.proofs.writing.put_constraint.Goals as goal

pub returns-clause-bytes : goal.returns-clause-bytes
returns-clause-bytes c =
    let r = c.args.r in
    let p₂ : Emitted (signed_bytes 4 r.constant) c.put_head-p.new.out c.put_head-p.result c.put-p.result c.put-p.new.out = emitted-of (search rules) c.put-p.ensures in
    emitted-more c.put_head-p.ensures.bytes (emitted-more (emitted-more p₂ c.put_coefficients-p.ensures.bytes) c.put_coefficients.ensures.bytes)
