use Rattle.std.proofs.Common.{refl, arith, rules}
use Rattle.records.proofs.Emitting.{put-mid}
use Rattle.records.proofs.writing.put.Goals as goal

pub returns : goal.returns
returns c = record { ends = refl; bytes = put-mid c.args.at _ c.args.bytes.now c.copy_from_slice.new.self c.args.out.now (search rules) (omega arith) (omega arith) }
