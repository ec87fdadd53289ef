use Rattle.std.proofs.Common.{◌≡◌, ◌≤◌, ◌<◌, ◌+◌, ◌-◌, ◌*◌, ◌^◌, ℕ, List, Bool, true, false, length, get_or, refl, take, drop, arith, rules, sym, ap, subst, ◌∙◌}
use Rattle.std.proofs.Math.Seq.{length-take-le, get_or-take}
use mir.Val.{bool_byte}
use Rattle.fleet.specs.Fleet.{bit, mask_of}
use Rattle.fleet.specs.Looking.{itself}
use Rattle.fleet.proofs.Masks.{mask_none, mask_fits, mask-turn}
use Rattle.fleet.proofs.marks.mask_of.Goals as goal

pub loop-i-init : goal.loop-i-init
loop-i-init c =
    let l : length c.args.flags ≡ 64 = search rules in
    record { size = l; is = mask_none itself (take c.args.k c.args.flags) c.args.k (omega (arith, length-take-le c.args.k c.args.flags (omega arith))) }

-- the flags of the points, and the mask after a turn
module _ (k i m b : ℕ) (flags : List Bool) (h : 0 < i) (l : i ≤ k) (few : k ≤ 64) (z : length flags ≡ 64) (e : m ≡ mask_of itself (drop i (take k flags)))
    (q : b ≡ bit (get_or flags (i - 1) false)) where
  turn : m * 2 + b ≡ mask_of itself (drop (i - 1) (take k flags))
  turn =
      let a = length-take-le k flags (omega arith) in
      mask-turn itself (take k flags) i m b false h (omega arith) e (q ∙ ap bit (sym (get_or-take k flags (i - 1) false (omega arith))))

  fits : m * 2 + b < 2 ^ 64
  fits = let a = length-take-le k flags (omega arith) in subst (λ (v : ℕ). v < 2 ^ 64) (sym turn) (mask_fits itself (take k flags) (i - 1) (omega arith))

byte : (b : Bool) → bool_byte b ≡ bit b
byte true = refl
byte false = refl

pub overflow_mul-mask : goal.overflow_mul-mask
overflow_mul-mask c =
    let v = c.loop-i.invariant in
    let f = fits c.args.k c.loop-i.i c.loop-i.mask (bit (get_or c.args.flags (c.loop-i.i - 1) false)) c.args.flags c.loop-i-test.true c.loop-i.auto.i c.requires v.size v.is refl in
    record { fits = omega arith }

pub overflow_add-mask : goal.overflow_add-mask
overflow_add-mask c =
    let v = c.loop-i.invariant in
    record { fits = fits c.args.k c.loop-i.i c.loop-i.mask c.from.result c.args.flags c.loop-i-test.true c.loop-i.auto.i c.requires v.size v.is (c.from.ensures ∙ byte (get_or c.args.flags (c.loop-i.i - 1) false)) }

pub loop-i-preserved : goal.loop-i-preserved
loop-i-preserved c =
    let v = c.loop-i.invariant in
    record { size = v.size; is = turn c.args.k c.loop-i.i c.loop-i.mask c.from.result c.args.flags c.loop-i-test.true c.loop-i.auto.i c.requires v.size v.is (c.from.ensures ∙ byte (get_or c.args.flags (c.loop-i.i - 1) false)) }
