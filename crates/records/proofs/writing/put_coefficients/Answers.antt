use Rattle.std.proofs.Common.{◌≡◌, [], ◌<◌, ◌≤◌, length, get_or, pos, arith, rules, ap, take_all}
use Rattle.model.specs.Lists.{concat_map}
use Rattle.codec.specs.Bytes.{signed_bytes}
use Rattle.records.proofs.Emitting.{emitted-of, emitted-none, emitted-next}
use Rattle.records.proofs.writing.put_coefficients.Goals as goal

pub loop-x-init : goal.loop-x-init
loop-x-init c = record { place = omega arith; bytes = emitted-none _ _ }

pub loop-x-preserved : goal.loop-x-preserved
loop-x-preserved c =
    let a = c.args.a in let i = c.loop-x.x-index in
    let l : i < length a = search rules in
    let e : c.to_le_bytes.result ≡ signed_bytes 2 (get_or a i (pos 0)) = search rules in
    let x = c.put-p.ensures.ends in
    record { place = omega (arith, ap length e); bytes = emitted-next (signed_bytes 2) a (pos 0) i [] _ l e c.loop-x.invariant.bytes c.put-p.ensures }

pub returns-clause-bytes : goal.returns-clause-bytes
returns-clause-bytes c =
    let a = c.args.a in let l : length a ≤ c.loop-x.x-index = search rules in
    emitted-of (ap (concat_map (signed_bytes 2)) (take_all _ a l)) c.loop-x.invariant.bytes
