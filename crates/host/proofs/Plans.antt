-- What a refusal's number says of a call on a state (document 02, request 8): minus that number is the refusal, and every word of the four
-- tables is as it was.
use mathlib.Core.Path.{◌≡◌, sym, ap, ◌∙◌}
use mathlib.Core.List.{List}
use Prim.Native.Nat.{ℕ, zero, suc}
use lib.IntN.{ℤ, negsuc}
use Rattle.model.specs.Sets.{Constraint}
use Rattle.codec.proofs.Decoded.{no_way}
use Rattle.memory.specs.Memory.{Memory}
use Rattle.states.specs.Calls.{Step, Saying, Point, Empty, Wide, Long, Refused, Misused, start_step, add_step, mark_step, back_step}
use Rattle.states.proofs.Left.{start-leaves, add-leaves, mark-leaves, back-leaves}
use Rattle.answers.specs.Numbers.{said_number, StateHosted}

-- ---- a number below 0

minus-refused : (k : ℕ) (x : Saying) → negsuc k ≡ said_number x → x ≡ Refused (suc k)
minus-refused k Misused e = let z : ◌≡◌ {A = ℕ} 0 1 = cc in no_way z
minus-refused k Point e = let z : ◌≡◌ {A = ℕ} 0 1 = cc in no_way z
minus-refused k Empty e = let z : ◌≡◌ {A = ℕ} 0 1 = cc in no_way z
minus-refused k Wide e = let z : ◌≡◌ {A = ℕ} 0 1 = cc in no_way z
minus-refused k Long e = let z : ◌≡◌ {A = ℕ} 0 1 = cc in no_way z
minus-refused k (Refused zero) e = let z : ◌≡◌ {A = ℕ} 0 1 = cc in no_way z
minus-refused k (Refused (suc m)) e = let q : k ≡ m = cc in ap (λ (i : ℕ). Refused (suc i)) (sym q)

pub state-refused : {y : Memory} (k : ℕ) (a : Step) → StateHosted a (negsuc k) y → a.said ≡ Refused (suc k)
state-refused k a h = minus-refused k a.said h.number

-- "A refused call leaves state and marks as they were"
module _ (k : ℕ) (y : Memory) {after : Memory} where
  pub start-kept : (n : ℕ) (xs : List ℤ) → StateHosted (start_step n xs y) (negsuc k) after → after ≡ y
  start-kept n xs h = h.words ∙ start-leaves y (suc k) n xs (state-refused k (start_step n xs y) h)

  pub add_kept : (r : Constraint) → StateHosted (add_step r y) (negsuc k) after → after ≡ y
  add_kept r h = h.words ∙ add-leaves y (suc k) r (state-refused k (add_step r y) h)

  pub mark-kept : (name : ℕ) → StateHosted (mark_step name y) (negsuc k) after → after ≡ y
  mark-kept name h = h.words ∙ mark-leaves y (suc k) name (state-refused k (mark_step name y) h)

  pub back-kept : (name : ℕ) → StateHosted (back_step name y) (negsuc k) after → after ≡ y
  back-kept name h = h.words ∙ back-leaves y (suc k) name (state-refused k (back_step name y) h)
