use Rattle.std.proofs.Common.{sym, subst, ◌+◌, arith}
use Rattle.codec.specs.Parts.{Started}
use Rattle.codec.proofs.Boundaries.{boundary-opened}
use Rattle.codec.proofs.Valid.{bytes_of}
use Rattle.codec.proofs.Located.{started-first, started-next, started-last}
use Rattle.codec.proofs.parts.start_of.Goals as goal

pub loop-j-init : goal.loop-j-init
loop-j-init c = started-first c.args.s.now c.requires

pub returns-then-s-at : goal.returns-then-s-at
returns-then-s-at c =
    started-last c.args.s.now c.loop-j.j c.loop-j.at (bytes_of c.args.s.now (λ x. omega (arith, c.type_inv.s x))) c.loop-j.invariant c.args.i c.if-s-at.true (omega (arith, c.loop-j-test.true))

pub end_of-at-requires : goal.end_of-at-requires
end_of-at-requires c = let t = c.loop-j.invariant in boundary-opened t.n c.args.s.now c.loop-j.at t.there c.if-s-at.false

pub loop-j-preserved : goal.loop-j-preserved
loop-j-preserved c =
    subst (Started c.args.s.now (c.loop-j.j + 1)) (sym c.end_of-at.ensures) (started-next c.args.s.now c.loop-j.j c.loop-j.at (bytes_of c.args.s.now (λ x. omega (arith, c.type_inv.s x))) c.loop-j.invariant c.if-s-at.false)
