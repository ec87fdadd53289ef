use Rattle.std.proofs.Common.{◌≡◌, Bool, ◌&&◌, true, false, ◌+◌, ◌-◌, refl, ap, subst₂, get_or, List, ℤ, pos, ◌≤ℤ◌, SFits, rules}
use Rattle.std.specs.Int.{w16}
use Rattle.integers.specs.Mach.{b-of, is_le, clash}
use Rattle.codec.proofs.Ranges.{Between, next-each}
use Rattle.codec.proofs.accepting.Spread.is_in_range.Goals as goal

left : (a b : Bool) → (a && b) ≡ true → a ≡ true
left true b e = refl
left false b e = clash e refl

right : (a b : Bool) → (a && b) ≡ true → b ≡ true
right true b e = e
right false b e = clash e refl

pub loop-i-preserved : goal.loop-i-preserved
loop-i-preserved c =
    let n = c.args.n in let i = c.loop-i.i in let low = c.args.self.now.low in let high = c.args.self.now.high in let ranges = c.args.ranges.now in
    let f : SFits w16 (get_or ranges (8 - n + i) (pos 0)) = search rules in
    let g : SFits w16 (get_or low i (pos 0)) = search rules in
    let h : SFits w16 (get_or high i (pos 0)) = search rules in
    let k : SFits w16 (get_or ranges (24 - n + i) (pos 0)) = search rules in
    λ e. next-each (Between n low high) i (c.loop-i.invariant (left _ _ (left _ _ e))) (
      subst₂ ◌≤ℤ◌ (ap (λ (z : List ℤ). get_or z (8 - n + i) (pos 0)) c.requires.1) refl (is_le (b-of f) (b-of g) (right _ _ (left _ _ e))),
      subst₂ ◌≤ℤ◌ refl (ap (λ (z : List ℤ). get_or z (24 - n + i) (pos 0)) c.requires.1) (is_le (b-of h) (b-of k) (right _ _ e)),
    )
