use Rattle.std.proofs.Common.{refl, ap, ◌∙◌, cond, false, leb, bit_or, get_or, drop, ◌+◌, pos, nat_abs, rules, arith}
use mir.Syntax.{w64}
use mir.Val.{SFits}
use mir.Facts.{to_z-of_z}
use Rattle.integers.specs.Size.{bound}
use Rattle.tableau.specs.Rows.{small as small_of}
use Rattle.tableau.proofs.Searches.{small-more, small-end, cond-self}
use Rattle.tableau.proofs.search.small.Goals as goal

pub loop-x-init : goal.loop-x-init
loop-x-init c = refl

pub loop-x-preserved : goal.loop-x-preserved
loop-x-preserved c =
    let i = c.loop-x.x-index in
    let r = c.args.r.now in
    let x : SFits w64 (get_or r i (pos 0)) = search rules in
    ap (λ n. cond (leb (bit_or c.loop-x.bits n) (bound 64)) (small_of (drop (i + 1) r)) false) (c.unsigned_abs-bits.ensures.value ∙ ap nat_abs (to_z-of_z x))
    ∙ small-more r i c.loop-x.bits (omega (arith, c.requires.long)) ∙ c.loop-x.invariant

pub returns : goal.returns
returns c =
    cond-self (leb c.loop-x.bits (bound 64))
    ∙ ap (λ b. cond (leb c.loop-x.bits (bound 64)) b false) (small-end (bound 64) c.args.n c.loop-x.x-index c.args.r.now c.requires (omega (arith, c.requires.fit)))
    ∙ c.loop-x.invariant
