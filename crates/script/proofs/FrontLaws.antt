-- The command at the front, by the tests that the code makes.
use mathlib.Core.Path.{◌≡◌, refl, ap, ap₂, ◌∙◌}
use mathlib.Core.Bool.{Bool, true, false, not, ◌&&◌, cond}
use mathlib.Core.List.{List, [], ◌∷◌}
use Prim.Native.Nat.{ℕ, zero, suc, ◌+◌, ◌≤◌, ◌<◌}
use native.Mathlib.Omega.{arith}
use borrow.Author.Tests.{lt-ltb, le-ltb, le-leb, lt-leb}
use lib.Dec.{ltb, leb, eqb}
use lib.ListN.{length, get_or}
use Rattle.std.proofs.Common.{Option, Some, None}
use Rattle.codec.specs.Bytes.{Answer, refused, gives, first_failing}
use Rattle.session.specs.Script.{fixed_width, load_length, command_width, in_place, ending}
use Rattle.session.specs.Turns.{cut_off, front_of}

pub front-none : (axes : ℕ) (e : Bool) (s : List ℕ) → length s ≡ 0 → front_of axes e s ≡ cut_off e
unfolding front_of ending
front-none axes e [] h = refl
front-none axes e (b ∷ s) h = absurd (omega arith)

abbrev tests : Bool → Bool → Bool → ℕ
tests p q r = first_failing ((p, 2) ∷ (q, 15) ∷ (r, 3) ∷ [])

front_by : (axes : ℕ) (e : Bool) (b : ℕ) (s : List ℕ) (p q r : Bool) → ltb 0 (fixed_width b) ≡ p → in_place axes b ≡ q → leb (command_width (b ∷ s)) (suc (length s)) ≡ r
    → front_of axes e (b ∷ s) ≡ elim (tests p q r) [ zero ↦ gives (Some (command_width (b ∷ s))) | suc k ↦ cond (eqb (suc k) 3 && not e) (gives None) (refused (suc k)) ]
unfolding front_of ending
front_by axes e b s p q r x y z =
    ap (λ (m : ℕ). elim m [ zero ↦ gives (Some (command_width (b ∷ s))) | suc k ↦ cond (eqb (suc k) 3 && not e) (gives None) (refused (suc k)) ])
    (ap₂ (λ (p q : Bool). tests p q (leb (command_width (b ∷ s)) (suc (length s)))) x y ∙ ap (tests p q) z)

module _ (axes : ℕ) (e : Bool) where
  pub front-unknown : (s : List ℕ) (w : ℕ) → ¬ (length s ≡ 0) → w ≡ fixed_width (get_or s 0 0) → w ≡ 0 → front_of axes e s ≡ refused 2
  front-unknown [] w n x h = absurd (n refl)
  front-unknown (b ∷ s) w n x h = front_by axes e b s false (in_place axes b) (leb (command_width (b ∷ s)) (suc (length s))) (le-ltb 0 (fixed_width b) (omega arith)) refl refl

  pub front-place : (s : List ℕ) (w : ℕ) → ¬ (length s ≡ 0) → w ≡ fixed_width (get_or s 0 0) → ¬ (w ≡ 0) → in_place axes (get_or s 0 0) ≡ false → front_of axes e s ≡ refused 15
  front-place [] w n x h q = absurd (n refl)
  front-place (b ∷ s) w n x h q = front_by axes e b s true false (leb (command_width (b ∷ s)) (suc (length s))) (lt-ltb 0 (fixed_width b) (omega arith)) q refl

  pub front_cut : (s : List ℕ) (w : ℕ) → ¬ (length s ≡ 0) → w ≡ fixed_width (get_or s 0 0) → ¬ (w ≡ 0) → in_place axes (get_or s 0 0) ≡ true → length s < command_width s → front_of axes e s ≡ cut_off e
  front_cut [] w n x h q l = absurd (n refl)
  front_cut (b ∷ s) w n x h q l = front_by axes e b s true true false (lt-ltb 0 (fixed_width b) (omega arith)) q (lt-leb (command_width (b ∷ s)) (suc (length s)) l)

  pub front-whole : (s : List ℕ) (w : ℕ) → ¬ (length s ≡ 0) → w ≡ fixed_width (get_or s 0 0) → ¬ (w ≡ 0) → in_place axes (get_or s 0 0) ≡ true → command_width s ≤ length s → front_of axes e s ≡ gives (Some (command_width s))
  front-whole [] w n x h q l = absurd (n refl)
  front-whole (b ∷ s) w n x h q l = front_by axes e b s true true true (lt-ltb 0 (fixed_width b) (omega arith)) q (le-leb (command_width (b ∷ s)) (suc (length s)) l)

pub width_of : (s : List ℕ) (w l : ℕ) → ¬ (length s ≡ 0) → w ≡ fixed_width (get_or s 0 0) → l ≡ cond (eqb (get_or s 0 0) 0x40) (load_length s) 0 → w + l ≡ command_width s
width_of [] w l n x y = absurd (n refl)
width_of (b ∷ s) w l n x y = ap₂ (λ (i j : ℕ). i + j) x y
