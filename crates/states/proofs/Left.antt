-- "A refused call leaves state and marks as they were" (document 02, request 8): every word of the memory, whatever it holds. Assumes nothing.
use mathlib.Core.Path.{◌≡◌, refl}
use mathlib.Core.Bool.{Bool, true, false, ◌&&◌, cond}
use mathlib.Core.List.{List}
use Prim.Native.Nat.{ℕ, zero, suc, ◌+◌, ◌/◌, ◌%◌}
use native.Mathlib.Omega.{arith}
use lib.Dec.{leb, eqb}
use lib.IntN.{ℤ}
use lib.ListN.{length, get_or}
use Rattle.model.specs.Sets.{Constraint}
use Rattle.planning.specs.State.{start_refusal}
use Rattle.memory.specs.Memory.{Memory, fitting, head_at}
use Rattle.memory.specs.Sound.{is_word, sound}
use Rattle.states.specs.Calls.{Point, Empty, Wide, Long, Refused, Misused}
use Rattle.rules.specs.Rules.{rule_number}
use Rattle.rules.specs.Divisions.{divisions_in}
use Rattle.states.specs.Calls.{Step, stepped, said_of, word_number, marked_in, mark_step, back_in, back_step, start_end, start_by, start_step, joined_in, add_by, add_step}

-- a word is no refusal
word-no : {X : Type 0} (w n : ℕ) → said_of w ≡ Refused n → X
word-no {X} w n e = at (eqb w 1) (eqb w 2) (eqb w 3) (eqb w 4) e
  where
    clash : ◌≡◌ {A = ℕ} 0 1 → X
    clash z = absurd (omega arith)

    at : (a b c d : Bool) → cond a Point (cond b Empty (cond c Wide (cond d Long Misused))) ≡ Refused n → X
    at true b c d e = let z : ◌≡◌ {A = ℕ} 0 1 = cc in clash z
    at false true c d e = let z : ◌≡◌ {A = ℕ} 0 1 = cc in clash z
    at false false true d e = let z : ◌≡◌ {A = ℕ} 0 1 = cc in clash z
    at false false false true e = let z : ◌≡◌ {A = ℕ} 0 1 = cc in clash z
    at false false false false e = let z : ◌≡◌ {A = ℕ} 0 1 = cc in clash z

module _ (y : Memory) (n : ℕ) where
  -- a step that is refused leaves y
  abbrev Leaves : Step → Type 0
  Leaves s = s.said ≡ Refused n → s.memory ≡ y

  pub mark-leaves : (k : ℕ) → (mark_step k y).said ≡ Refused n → (mark_step k y).memory ≡ y
  unfolding mark_step
  mark-leaves k = at (leb k 15) (fitting y && is_word (head_at 0 4 y))
    where
      at : (a b : Bool) → Leaves (cond a (cond b (stepped (said_of (head_at 0 4 y)) (marked_in k y)) (stepped Misused y)) (stepped (Refused 18) y))
      at true true e = word-no (head_at 0 4 y) n e
      at true false e = refl
      at false b e = refl

  pub back-leaves : (k : ℕ) → (back_step k y).said ≡ Refused n → (back_step k y).memory ≡ y
  unfolding back_step
  back-leaves k = at (leb k 15) (fitting y) (eqb rank 0) (is_word (head_at (k + 1) 4 y))
    where
      rank : ℕ
      rank = get_or y.heads (85 + k) 0

      at : (a b c d : Bool) → Leaves (cond a (cond b (cond c (stepped (Refused 18) y) (cond d (stepped (said_of (head_at (k + 1) 4 y)) (back_in k rank y)) (stepped Misused y))) (stepped Misused y)) (stepped (Refused 18) y))
      at true true true d e = refl
      at true true false true e = word-no (head_at (k + 1) 4 y) n e
      at true true false false e = refl
      at true false c d e = refl
      at false b c d e = refl

  pub start-leaves : (m : ℕ) (xs : List ℤ) → (start_step m xs y).said ≡ Refused n → (start_step m xs y).memory ≡ y
  unfolding start_step
  start-leaves m xs = at (fitting y && eqb (length xs % 10) 0) (start_refusal m (divisions_in (length xs / 10) xs))
    where
      k : ℕ
      k = length xs / 10

      at : (a : Bool) (r : ℕ) → Leaves (cond a (start_by r m k (divisions_in k xs) y) (stepped Misused y))
      at true zero e = word-no (word_number (start_end k (divisions_in k xs)).verdict) n e
      at true (suc r) e = refl
      at false r e = refl

  pub add-leaves : (r : Constraint) → (add_step r y).said ≡ Refused n → (add_step r y).memory ≡ y
  unfolding add_step
  add-leaves r = at (fitting y && sound y) (rule_number (head_at 0 0 y) (head_at 0 1 y) (head_at 0 2 y) r)
    where
      at : (a : Bool) (x : ℕ) → Leaves (cond a (add_by x r y) (stepped Misused y))
      at true zero e = word-no (head_at 0 4 (joined_in r y)) n e
      at true (suc x) e = refl
      at false x e = refl
