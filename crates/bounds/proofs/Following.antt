-- A row follows a box: one side, and all sides but one.
use mathlib.Core.Path.{◌≡◌, refl, sym, ap, ◌∙◌, subst}
use mathlib.Core.List.{List, [], ◌∷◌}
use Prim.Native.Nat.{ℕ, ◌+◌, ◌≤◌, ◌<◌}
use native.Mathlib.Omega.{arith}
use lib.IntN.{ℤ, pos, ◌-ℤ◌}
use lib.ListN.{length, get_or, set, length-set}
use lib.Seq.{get_or-set_same, get_or-set_other}
use Rattle.integers.specs.Z.{Within}
use Rattle.integers.specs.Lin.{eq, lin, lia-eq}
use Rattle.bounds.specs.Ends.{Ends}
use Rattle.bounds.specs.Rows.{row_forms, Row, Shifted, Followed}
use Rattle.bounds.proofs.Shifting.{row_moved}

module _ (s : List ℕ) (j k : ℕ) (low high r : List ℤ) (g : Row s (length low) r) where
  pub followed-still : get_or low j (pos 0) -ℤ get_or r (56 + j) (pos 0) ≡ pos 0 → get_or high j (pos 0) -ℤ get_or r (120 + j) (pos 0) ≡ pos 0 → Followed s j k low high r r
  followed-still a b =
      record {
        row = g;
        place = refl;
        low_side = λ n. lia-eq (get_or low j (pos 0) ∷ get_or r (56 + j) (pos 0) ∷ []) (eq a ∷ []) (search lin depth 30) (omega arith);
        high_side = λ n. lia-eq (get_or high j (pos 0) ∷ get_or r (120 + j) (pos 0) ∷ []) (eq b ∷ []) (search lin depth 30) (omega arith);
        lows = λ i h n. refl;
        highs = λ i h n. refl;
      }

module _ (s : List ℕ) (j k : ℕ) (low high r₀ r : List ℤ) (f t : ℤ) (g : Row s (length low) r₀) (e : Ends low high 1048576) (h : j < length low)
    (ef : f ≡ get_or low j (pos 0) -ℤ get_or r₀ (56 + j) (pos 0)) (et : t ≡ get_or high j (pos 0) -ℤ get_or r₀ (120 + j) (pos 0)) (m : Shifted (row_forms s r₀) j f t 56 r₀ r) where
  abbrev one : List ℤ
  one = set r (56 + j) (get_or low j (pos 0))

  abbrev next : List ℤ
  next = set one (120 + j) (get_or high j (pos 0))

  axis : j < 8
  axis = let a = e.few in omega arith

  long : length r ≡ 129
  long = m.places ∙ g.places

  other : (x : ℕ) → (x ≡ 56 + j → ⊥) → (x ≡ 120 + j → ⊥) → get_or next x (pos 0) ≡ get_or r x (pos 0)
  other x u v = get_or-set_other one (120 + j) x (get_or high j (pos 0)) (pos 0) v ∙ get_or-set_other r (56 + j) x (get_or low j (pos 0)) (pos 0) u

  low-now : get_or next (56 + j) (pos 0) ≡ get_or low j (pos 0)
  low-now = let a = axis in let b = long in get_or-set_other one (120 + j) (56 + j) (get_or high j (pos 0)) (pos 0) (λ q. omega arith) ∙ get_or-set_same r (56 + j) (get_or low j (pos 0)) (pos 0) (omega arith)

  high-now : get_or next (120 + j) (pos 0) ≡ get_or high j (pos 0)
  high-now = let a = axis in let b = long in let c = length-set r (56 + j) (get_or low j (pos 0)) in get_or-set_same one (120 + j) (get_or high j (pos 0)) (pos 0) (omega arith)

  low-others : (i : ℕ) → i < 8 → (i ≡ j → ⊥) → get_or next (56 + i) (pos 0) ≡ get_or r₀ (56 + i) (pos 0)
  low-others i l n = let a = axis in other (56 + i) (λ q. n (omega arith)) (λ q. omega arith) ∙ m.kept (56 + i) (λ q. omega arith) (λ q. omega arith)

  high_others : (i : ℕ) → i < 8 → (i ≡ j → ⊥) → get_or next (120 + i) (pos 0) ≡ get_or r₀ (120 + i) (pos 0)
  high_others i l n = let a = axis in other (120 + i) (λ q. omega arith) (λ q. n (omega arith)) ∙ m.kept (120 + i) (λ q. omega arith) (λ q. omega arith)

  place-now : get_or next 128 (pos 0) ≡ get_or r₀ 128 (pos 0)
  place-now = let a = axis in other 128 (λ q. omega arith) (λ q. omega arith) ∙ m.kept 128 (λ q. omega arith) (λ q. omega arith)

  pub followed-moved : Followed s j k low high r₀ next
  followed-moved =
      let a = axis in
      record {
        row = row_moved s (length low) j f t r₀ next g e.few h (length-set one (120 + j) (get_or high j (pos 0)) ∙ length-set r (56 + j) (get_or low j (pos 0)) ∙ long) place-now
            (ef ∙ ap (λ (z : ℤ). z -ℤ get_or r₀ (56 + j) (pos 0)) (sym low-now)) (et ∙ ap (λ (z : ℤ). z -ℤ get_or r₀ (120 + j) (pos 0)) (sym high-now))
            (subst (Within 1048576) (sym low-now) (e.lows.at j)) (subst (Within 1048576) (sym high-now) (e.highs.at j)) low-others high_others
            (λ i l. other i (λ q. omega arith) (λ q. omega arith) ∙ m.least i l) (λ i l. other (64 + i) (λ q. omega arith) (λ q. omega arith) ∙ m.greatest i l);
        place = place-now;
        low_side = λ n. low-now;
        high_side = λ n. high-now;
        lows = low-others;
        highs = high_others;
      }

-- ---- the loop over the sides
pub record Settling (s : List ℕ) (k : ℕ) (low high r₀ r : List ℤ) (j : ℕ) : Type 0 where
  pub row : Row s (length low) r
  pub most : j ≤ length low
  pub place : get_or r 128 (pos 0) ≡ get_or r₀ 128 (pos 0)
  pub lows : (i : ℕ) → i < j → (i ≡ k → ⊥) → get_or r (56 + i) (pos 0) ≡ get_or low i (pos 0)
  pub highs : (i : ℕ) → i < j → (i ≡ k → ⊥) → get_or r (120 + i) (pos 0) ≡ get_or high i (pos 0)
