use Rattle.std.proofs.Common.{◌∙◌, not, nat_eq}
use Rattle.codec.specs.Bytes.{coefficient}
use Rattle.codec.proofs.Flags.{from_start, looked}
use Rattle.codec.proofs.Parsing.{coefficient-is}
use Rattle.codec.proofs.checking.plain.Goals as goal

pub loop-i-init : goal.loop-i-init
loop-i-init c = from_start coefficient c.args.t.now c.args.p

pub loop-i-preserved : goal.loop-i-preserved
loop-i-preserved c =
    looked coefficient c.args.t.now c.args.p c.loop-i.i c.u16_at.result c.loop-i-test.true c.u16_at.ensures.is c.loop-i.ok (not (nat_eq c.u16_at.result 32768)) (coefficient-is _ c.u16_at.ensures.small)
    ∙ c.loop-i.invariant
