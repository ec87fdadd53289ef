use Rattle.std.proofs.Common.{◌<◌, arith}
use Rattle.codec.proofs.Valid.{bytes_of}
use Rattle.search.proofs.Lives.{laying-start, laying-opened, laying-free, laying-next, laying-end}
use Rattle.search.proofs.windows.laid.Goals as goal

pub loop-at-init : goal.loop-at-init
loop-at-init c = let s = c.args.s.now in laying-start s c.args.rows.now (bytes_of s (λ x. omega (arith, c.type_inv.s x))) c.requires.0 c.requires.1

pub bounds-rows-b : goal.bounds-rows-b
bounds-rows-b c =
    let l = c.loop-at in let e = l.invariant.places in
    let free : l.b < 32 = laying-free c.args.s.now l.rows l.at l.b l.invariant c.loop-at-test.true in omega arith

pub end_of-at-requires : goal.end_of-at-requires
end_of-at-requires c = let l = c.loop-at in laying-opened c.args.s.now l.rows l.at l.b l.invariant c.loop-at-test.true

pub loop-at-preserved : goal.loop-at-preserved
loop-at-preserved c =
    let s = c.args.s.now in let l = c.loop-at in let h = c.loop-at-test.true in let f = c.fresh in
    laying-next s l.rows l.at l.b l.invariant h f.result f.ensures.place (λ n o. f.ensures.row s n o (laying-opened s l.rows l.at l.b l.invariant h)) c.end_of-at.result c.end_of-at.ensures

pub returns : goal.returns
returns c = let l = c.loop-at in laying-end c.args.s.now l.rows l.at l.b l.invariant c.loop-at-test.false
