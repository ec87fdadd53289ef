use Rattle.std.proofs.Common.{◌≡◌, length, get_or, ap, ◌∙◌, arith, rules}
use lib.IntN.{pos, negsuc}
use mir.Syntax.{w32}
use mir.Val.{SFits}
use Rattle.integers.specs.Mach.{to_z_of_z}
use Rattle.boxes.specs.Box.{side_rule}
use Rattle.coverage.proofs.Laying.{laying-start, laying-next, laying-end, low-within, opposite-is}
use Rattle.coverage.proofs.boxing.boxed.Goals as goal

pub loop-i-init : goal.loop-i-init
loop-i-init c = let a = c.args in laying-start a.n a.low a.high c.no_rules-rules.result c.no_rules-rules.ensures

pub loop-i-preserved : goal.loop-i-preserved
loop-i-preserved c =
    let a = c.args in let i = c.loop-i.i in
    let l : length a.low ≡ 8 = search rules in let h : length a.high ≡ 8 = search rules in
    let fl : SFits w32 (get_or a.low i (pos 0)) = record { sfits = omega arith } in let fh : SFits w32 (get_or a.high i (pos 0)) = record { sfits = omega arith } in
    laying-next a.n a.low a.high c.requires.0 l h c.loop-i.invariant c.loop-i-test.true c.side_rule.result c.side_rule-in-loop-i.result
    (c.side_rule.ensures ∙ ap (side_rule i (pos 1)) (opposite-is (get_or a.low i (pos 0)) fl (low-within a.n a.low a.high c.requires.1 i)))
    (c.side_rule-in-loop-i.ensures ∙ ap (side_rule i (negsuc 0)) (to_z_of_z {w = w32} fh))

pub returns : goal.returns
returns c =
    let a = c.args in
    let l : length a.low ≡ 8 = search rules in let h : length a.high ≡ 8 = search rules in
    laying-end a.n a.low a.high c.requires.0 l h c.loop-i.invariant (omega arith) _
