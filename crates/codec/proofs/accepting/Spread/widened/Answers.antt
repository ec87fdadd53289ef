use Rattle.std.proofs.Common.{◌≡◌, sym, ◌∙◌, subst₂, length-set, get_or, ℤ, pos, ◌≤ℤ◌, SFits, to_z, of_z, arith, rules}
use Rattle.std.specs.Int.{w16}
use Rattle.integers.specs.Mach.{to_z_of_z, result_is}
use Rattle.integers.specs.Order.{≤ℤ-trans}
use Rattle.codec.specs.Accepting.{number_at}
use Rattle.codec.proofs.Ranges.{under_same, written-before, written-there}
use Rattle.codec.proofs.accepting.Spread.widened.Goals as goal

abbrev over : ℤ → ℤ → Type 0
over a b = b ≤ℤ a

pub loop-i-init : goal.loop-i-init
loop-i-init c = record {
  low_length = search rules;
  high_length = search rules;
  low = under_same c.args.self.low;
  high = under_same c.args.self.high;
  over = λ j h. absurd (omega arith);
  upto = λ j h. absurd (omega arith);
}

pub loop-i-preserved : goal.loop-i-preserved
loop-i-preserved c =
    let s = c.args.s.now in let p = c.args.p in let i = c.loop-i.i in let low = c.loop-i.self.low in let high = c.loop-i.self.high in let inv = c.loop-i.invariant in
    let f : SFits w16 (get_or low i (pos 0)) = search rules in
    let g : SFits w16 (get_or high i (pos 0)) = search rules in
    let e : to_z w16 (of_z w16 c.i16_at-v.result) ≡ number_at s p i = result_is w16 _ c.i16_at-v.type_inv ∙ c.i16_at-v.ensures in
    let x : to_z w16 (of_z w16 c.min.result) ≡ c.min.result = result_is w16 _ c.min.type_inv in
    let y : to_z w16 (of_z w16 c.max.result) ≡ c.max.result = result_is w16 _ c.max.type_inv in
    let k = subst₂ ◌≤ℤ◌ (sym x) e c.min.ensures.other_bound in
    let o = subst₂ ◌≤ℤ◌ (sym x) (to_z_of_z f) c.min.ensures.self_bound in
    let u = subst₂ ◌≤ℤ◌ e (sym y) c.max.ensures.other_bound in
    let v = subst₂ ◌≤ℤ◌ (to_z_of_z g) (sym y) c.max.ensures.self_bound in
    record {
      low_length = length-set _ _ _ ∙ inv.low_length;
      high_length = length-set _ _ _ ∙ inv.high_length;
      low = record { each = written-before ◌≤ℤ◌ (λ a b d. ≤ℤ-trans) low c.args.self.low (number_at s p) i _ inv.low_length c.loop-i-test.true k o inv.low.each };
      high = record { each = written-before over (λ a b d q r. ≤ℤ-trans r q) high c.args.self.high (number_at s p) i _ inv.high_length c.loop-i-test.true u v inv.high.each };
      over = written-there ◌≤ℤ◌ (λ a b d. ≤ℤ-trans) low c.args.self.low (number_at s p) i _ inv.low_length c.loop-i-test.true k o inv.over;
      upto = written-there over (λ a b d q r. ≤ℤ-trans r q) high c.args.self.high (number_at s p) i _ inv.high_length c.loop-i-test.true u v inv.upto;
    }
