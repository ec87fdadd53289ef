-- Which table holds a point first.
use mathlib.Core.Path.{◌≡◌, sym, ap, ap₂, ◌∙◌}
use mathlib.Core.Bool.{Bool, true, false, cond}
use mathlib.Core.List.{List}
use Prim.Native.Nat.{ℕ}
use lib.IntN.{ℤ}
use lib.ListN.{take}
use Rattle.model.specs.Sets.{Set}
use Rattle.codec.specs.Bytes.{Answer, refused, decode, number}
use Rattle.codec.specs.Places.{set_from}
use Rattle.std.proofs.Common.{Result, Ok, Err}
use Rattle.std.specs.Result.{is_ok}
use Rattle.std.proofs.lemmas.Bool.{true≢false}
use Rattle.model.specs.declared.refusal.Refusal.{Refusal}
use Rattle.model.specs.Refused.{number_of, number_in}
use Rattle.codec.proofs.Refusing.{refused-by}
use Rattle.codec.proofs.Boundaries.{decode_is}
use Rattle.query.specs.Member.{point_fits}
use Rattle.query.specs.Holder.{first_holding, nobody, in_either, holder_of, on_both, holder_bytes}

-- ---- what an answer has by the test of the result that stands for it
pub refused-some : {A B : Type 0} (r : Result A Refusal) (a : Answer B) → false ≡ is_ok r → number_in r ≡ number a → (m : ℕ) × (a ≡ refused m)
refused-some (Ok x) a t e = absurd (true≢false (sym t))
refused-some (Err r) a t e = (number_of r, refused-by r a e)

pub accepted-some : {A : Type 0} (r : Result A Refusal) (k : ℕ) → true ≡ is_ok r → number_in r ≡ k → k ≡ 0
accepted-some (Ok x) k t e = sym e
accepted-some (Err r) k t e = absurd (true≢false t)

module _ (n : ℕ) (a b : List ℕ) (x : List ℤ) where
  pub bad-first : (m : ℕ) → decode n a ≡ refused m → nobody ≡ holder_bytes n a b x
  unfolding holder_bytes
  bad-first m e = sym (ap (λ (s : Answer Set). on_both (holder_of n x) s (decode n b)) e)

  pub bad-second : (m : ℕ) → number (decode n a) ≡ 0 → decode n b ≡ refused m → nobody ≡ holder_bytes n a b x
  unfolding holder_bytes
  bad-second m z e = sym (ap₂ (on_both (holder_of n x)) (decode_is n a z) e)

  pub bad-point : number (decode n a) ≡ 0 → number (decode n b) ≡ 0 → point_fits n x ≡ false → nobody ≡ holder_bytes n a b x
  unfolding holder_bytes
  bad-point z w e =
      sym (ap₂ (on_both (holder_of n x)) (decode_is n a z) (decode_is n b w)
      ∙ ap (λ (c : Bool). cond c (in_either (first_holding 1 (take n x) (set_from a 0)) (first_holding 1 (take n x) (set_from b 0))) nobody) e)

  pub good : number (decode n a) ≡ 0 → number (decode n b) ≡ 0 → point_fits n x ≡ true
      → in_either (first_holding 1 (take n x) (set_from a 0)) (first_holding 1 (take n x) (set_from b 0)) ≡ holder_bytes n a b x
  unfolding holder_bytes
  good z w e =
      sym (ap₂ (on_both (holder_of n x)) (decode_is n a z) (decode_is n b w)
      ∙ ap (λ (c : Bool). cond c (in_either (first_holding 1 (take n x) (set_from a 0)) (first_holding 1 (take n x) (set_from b 0))) nobody) e)
