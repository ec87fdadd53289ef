use Rattle.std.proofs.Common.{◌≡◌, length, take, get_or, pos, ap, arith, rules, w64}
use Rattle.std.proofs.lemmas.List.{length-take}
use Rattle.std.proofs.Math.Seq.{take-length}
use mir.Val.{SFits}
use Rattle.std.proofs.lemmas.Int.{to_z-of_z}
use Rattle.model.specs.Lists.{concat_map}
use Rattle.listing.specs.Text.{number}
use Rattle.listing.proofs.Writing.{writes-none, writes-same, integers-more}
use Rattle.listing.proofs.text.coordinates.Goals as goal

pub loop-z-init : goal.loop-z-init
loop-z-init c = writes-none c.args.out.now c.args.at (omega arith)

pub integer-end-requires : goal.integer-end-requires
integer-end-requires c = let s = c.loop-z.invariant.short in omega (arith, length-take c.args.n c.args.p)

pub loop-z-preserved : goal.loop-z-preserved
loop-z-preserved c =
    let l = c.loop-z in let n = c.integer-end in let zs = take c.args.n c.args.p in
    let f : SFits w64 (get_or zs l.z-index (pos 0)) = search rules in
    integers-more zs c.args.out.now l.out n.new.out l.z-index c.args.at l.end n.result _ c.loop-z-test.true (to_z-of_z _ _ f) l.invariant n.ensures

pub returns : goal.returns
returns c =
    let l = c.loop-z in let zs = take c.args.n c.args.p in
    let e : l.z-index ≡ length zs = omega arith in
    writes-same (omega (arith, length-take c.args.n c.args.p)) (ap (concat_map number) (rw e (take-length zs))) l.invariant
