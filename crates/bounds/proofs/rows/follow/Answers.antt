use Rattle.std.proofs.Common.{◌≡◌, ◌+◌, ◌<◌, ℤ, pos, length, to_z, w64, arith, sym, ap, ap₂, subst, ◌∙◌}
use Rattle.std.proofs.Math.ListN.{set}
use Rattle.integers.specs.Mach.{to_z_of_z, result_is}
use Rattle.integers.specs.Size.{within-fits}
use Rattle.bounds.specs.Rows.{Followed}
use Rattle.bounds.proofs.Extremes.{back-within}
use Rattle.bounds.proofs.Sides.{row_loose}
use Rattle.bounds.proofs.Following.{followed-still, followed-moved}
use Rattle.bounds.proofs.rows.follow.Goals as goal

pub returns-then-to-eq0 : goal.returns-then-to-eq0
returns-then-to-eq0 c =
    let a = c.args in
    let low : c.gap-from.result ≡ pos 0 = sym (result_is w64 c.gap-from.result c.gap-from.type_inv) ∙ ap (to_z w64) c.if-from-eq0.true in
    let high : c.gap-to.result ≡ pos 0 = sym (result_is w64 c.gap-to.result c.gap-to.type_inv) ∙ ap (to_z w64) c.if-to-eq0.true in
    followed-still a.s.now a.j a.k a.low.now a.high.now a.r.now c.requires.0 (sym c.gap-from.ensures.is ∙ low) (sym c.gap-to.ensures.is ∙ high)

pub shift-requires : goal.shift-requires
shift-requires c =
    let few = c.requires.1.few in let axis : c.args.j < 8 = omega (arith, c.requires.2) in (
      row_loose c.args.s.now (length c.args.low.now) c.args.r.now few c.requires.0,
      record { axis = axis; from_size = back-within (omega arith) c.gap-from.ensures.size; to_size = back-within (omega arith) c.gap-to.ensures.size },
    )

pub returns : goal.returns
returns c =
    let a = c.args in let j = a.j in
    let l = to_z_of_z {w = w64} (within-fits (omega arith) (c.requires.1.lows.at j)) in let h = to_z_of_z {w = w64} (within-fits (omega arith) (c.requires.1.highs.at j)) in
    subst (Followed a.s.now j a.k a.low.now a.high.now a.r.now) (sym (ap₂ (λ (u v : ℤ). set (set c.shift.new.r (56 + j) u) (120 + j) v) l h))
    (followed-moved a.s.now j a.k a.low.now a.high.now a.r.now c.shift.new.r _ _ c.requires.0 c.requires.1 c.requires.2
    (result_is w64 c.gap-from.result c.gap-from.type_inv ∙ c.gap-from.ensures.is) (result_is w64 c.gap-to.result c.gap-to.type_inv ∙ c.gap-to.ensures.is) c.shift.ensures)
