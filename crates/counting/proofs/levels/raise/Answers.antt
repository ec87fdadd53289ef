use Rattle.std.proofs.Common.{◌≡◌, [], ◌∷◌, ℕ, sym, ap, ap₂, ◌∙◌, arith}
use lib.IntN.{ℤ, pos, nat_abs, ◌+ℤ◌, ◌-ℤ◌}
use lib.Signed.{◌≤ℤ◌, ◌<ℤ◌}
use mir.Syntax.{w64}
use mir.Val.{to_z, of_z}
use Rattle.integers.specs.Z.{Within}
use Rattle.integers.specs.Lin.{le, lt, eq, lin, lia-le, lia-eq, lia-nat, lia-no}
use Rattle.integers.specs.Mach.{to_z_of_z, b-of, is_le, is_gt}
use Rattle.integers.specs.Order.{pos-nonneg}
use Rattle.integers.specs.Size.{within-mono, within-sub, within-fits, nat_abs-nonneg}
use Rattle.counting.proofs.Summing.{noted-at, noted-none}
use Rattle.counting.proofs.levels.raise.Goals as goal

-- the place of a value from the first one on
abbrev place : ℤ → ℤ → ℕ
place first value = nat_abs (to_z w64 (of_z w64 (to_z w64 (of_z w64 value) -ℤ to_z w64 (of_z w64 first))))

value-at : (first value : ℤ) → Within 1048576 first → Within 1048576 value → first ≤ℤ value → value ≡ first +ℤ pos (place first value)
value-at first value a b l =
    let size : Within 2097152 (value -ℤ first) = within-mono (omega arith) (within-sub b a) in
    let apart : to_z w64 (of_z w64 value) -ℤ to_z w64 (of_z w64 first) ≡ value -ℤ first = ap₂ ◌-ℤ◌ (to_z_of_z {w = w64} (within-fits (omega arith) b)) (to_z_of_z {w = w64} (within-fits (omega arith) a)) in
    let is : to_z w64 (of_z w64 (to_z w64 (of_z w64 value) -ℤ to_z w64 (of_z w64 first))) ≡ value -ℤ first = ap (λ (z : ℤ). to_z w64 (of_z w64 z)) apart ∙ to_z_of_z {w = w64} (within-fits (omega arith) size) in
    let far : pos (nat_abs (value -ℤ first)) ≡ value -ℤ first = nat_abs-nonneg (lia-le (first ∷ value ∷ []) (le l ∷ []) (search lin depth 30) (omega arith)) in
    let n = nat_abs (value -ℤ first) in
    lia-eq (first ∷ value ∷ pos n ∷ []) (eq far ∷ []) {b = first +ℤ pos n} (search lin depth 30) (omega arith)
    ∙ ap (λ (m : ℕ). first +ℤ pos m) (sym (ap nat_abs is))

pub returns-then-j-each : goal.returns-then-j-each
returns-then-j-each c =
    let a = c.args in
    let l : a.f ≤ℤ a.v = is_le (b-of c.ranges.f) (b-of c.ranges.v) c.if-f-v.true in
    let is = value-at a.f a.v c.requires.0 c.requires.1 l in
    record { notes = λ d p ef ev. noted-at d p a.m a.each.now (place a.f a.v) c.if-j-each.true (ev ∙ is ∙ ap (λ (z : ℤ). z +ℤ pos (place a.f a.v)) (sym ef)) }

pub returns-else-j-each : goal.returns-else-j-each
returns-else-j-each c =
    let a = c.args in let o = c.if-j-each.false in
    let l : a.f ≤ℤ a.v = is_le (b-of c.ranges.f) (b-of c.ranges.v) c.if-f-v.true in
    let is = value-at a.f a.v c.requires.0 c.requires.1 l in
    record {
      notes = λ d p ef ev. noted-none d p a.m a.each.now
          (λ j h q. let y = sym ev ∙ q ∙ ap (λ (z : ℤ). z +ℤ pos j) ef in
          let z : j ≡ place a.f a.v = lia-nat (a.f ∷ a.v ∷ pos j ∷ pos (place a.f a.v) ∷ []) (eq y ∷ eq is ∷ []) (search lin depth 30) (omega arith) in omega arith);
    }

pub returns-else-f-v : goal.returns-else-f-v
returns-else-f-v c =
    let a = c.args in let l : a.v <ℤ a.f = is_gt (b-of c.ranges.f) (b-of c.ranges.v) c.if-f-v.false in
    record {
      notes = λ d p ef ev. noted-none d p a.m a.each.now
          (λ j h q. let y = sym ev ∙ q ∙ ap (λ (z : ℤ). z +ℤ pos j) ef in lia-no (a.f ∷ a.v ∷ pos j ∷ []) (lt l ∷ eq y ∷ le (pos-nonneg j) ∷ []) (search lin depth 30) (omega arith));
    }
