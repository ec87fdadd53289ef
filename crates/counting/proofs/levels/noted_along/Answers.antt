use Rattle.std.proofs.Common.{◌≡◌, ◌+◌, ℕ, List, get_or, refl, sym, ap, ◌∙◌, subst, arith}
use lib.IntN.{ℤ, pos, ◌+ℤ◌}
use lib.ListN.{set}
use lib.Seq.{get_or-set_same}
use mir.Syntax.{w64}
use mir.Val.{to_z, of_z}
use Rattle.integers.specs.Z.{Within}
use Rattle.integers.specs.Mach.{to_z_of_z, result_is}
use Rattle.integers.specs.Size.{within-fits}
use Rattle.bounds.proofs.Extremes.{back-within}
use Rattle.counting.proofs.Summing.{added_next, line-room}
use Rattle.counting.proofs.levels.noted_along.Goals as goal

pub raise-requires : goal.raise-requires
raise-requires c =
    let a = c.args in let p = a.p in let l = c.loop-x in let h = c.loop-x-test.true in
    let e : to_z w64 (of_z w64 c.value_at-v.result) ≡ get_or p.low p.k (pos 0) +ℤ pos (a.i + l.x) = result_is w64 c.value_at-v.result c.value_at-v.type_inv ∙ c.value_at-v.ensures ∙ ap (λ (n : ℕ). get_or p.low p.k (pos 0) +ℤ pos (a.i + n)) c.from.ensures in (
      back-within (omega arith) c.requires.1,
      subst (Within 1048576) (sym e) (c.requires.2.at l.x h),
      line-room a.c p.low p.k a.i l.x a.m _ _ l.invariant c.requires.3 h,
    )

pub loop-x-preserved : goal.loop-x-preserved
loop-x-preserved c =
    let a = c.args in let p = a.p in let l = c.loop-x in let h = c.loop-x-test.true in let o = c.requires.2.axis in let q = c.requires.2.lows in
    let here : ℤ = get_or p.low p.k (pos 0) +ℤ pos (a.i + l.x) in
    let e : to_z w64 (of_z w64 c.value_at-v.result) ≡ here = result_is w64 c.value_at-v.result c.value_at-v.type_inv ∙ c.value_at-v.ensures ∙ ap (λ (n : ℕ). get_or p.low p.k (pos 0) +ℤ pos (a.i + n)) c.from.ensures in
    let point : List ℤ = set p.low p.k here in
    let on : get_or point a.c.axis (pos 0) ≡ to_z w64 (of_z w64 c.value_at-v.result) =
    ap (λ (j : ℕ). get_or point j (pos 0)) c.requires.0 ∙ get_or-set_same p.low p.k here (pos 0) (omega arith) ∙ sym e in
    added_next a.c p.low p.k a.i l.x _ _ _ point refl l.invariant (c.raise.ensures.notes a.c point (sym (to_z_of_z {w = w64} (within-fits (omega arith) c.requires.1))) on)
