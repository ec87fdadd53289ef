use Rattle.std.proofs.Common.{List, ℕ, ◌&&◌, ◌∙◌, ◌+◌, ◌-◌, ap, get_or, nat_le}
use Rattle.model.specs.Sets.{is_zero}
use Rattle.codec.proofs.Flags.{from, later, looked-absent}
use Rattle.codec.proofs.checking.zeros.Goals as goal

pub loop-i-preserved : goal.loop-i-preserved
loop-i-preserved c =
    let s = c.args.t.now in let p = c.args.p in let n = c.args.n in let i = c.loop-i.i in let v = c.u16_at.result in
    ap (λ (m : ℕ). (c.loop-i.ok && nat_le v m) && from is_zero s p (later n (i + 1))) (c.from.ensures ∙ ap (λ (l : List ℕ). get_or l (8 - n + i) 0) c.requires.2)
    ∙ looked-absent s p n i v c.requires.1 c.loop-i-test.true c.u16_at.ensures.is c.u16_at.ensures.small c.loop-i.ok
    ∙ c.loop-i.invariant
