-- Rows of two-word cells: reading and storing a number, and a table's rows. Assumes nothing.
use mathlib.Core.Path.{◌≡◌, refl, sym, ap, ap₂, ◌∙◌}
use mathlib.Core.Bool.{Bool, ◌&&◌}
use mathlib.Core.List.{List, [], ◌∷◌, map}
use Prim.Native.Nat.{ℕ, zero, suc, ◌+◌, ◌^◌, ◌<◌}
use native.Mathlib.Omega.{arith}
use native.Mathlib.Nat.{not-suc-le-zero}
use lib.Dec.{lit<}
use lib.ListN.{length, get_or, set, length-set, length-map}
use lib.IntN.{ℤ, pos, nat_abs}
use Rattle.std.specs.List.{list_all}
use Rattle.model.proofs.Lists.{map-set}
use Rattle.wide.specs.Wide.{cell, high_of, low_of}
use Rattle.wide.proofs.Sizes.{cell-back}
use Rattle.wide_tableau.specs.Cells.{cells, words, Sheet, Becomes, rows_of, Sheets}

dbl : (i : ℕ) → suc i + suc i ≡ suc (suc (i + i))
dbl i = omega arith

dbl1 : (i : ℕ) → suc i + suc i + 1 ≡ suc (suc (i + i + 1))
dbl1 i = omega arith

pub cells_at : (r : List ℕ) (i : ℕ) → i + i + 1 < length r → get_or (cells r) i (pos 0) ≡ cell (get_or r (i + i) 0) (get_or r (i + i + 1) 0)
unfolding cells
cells_at [] i h = absurd (not-suc-le-zero h)
cells_at (a ∷ []) i h = absurd (omega arith)
cells_at (a ∷ (b ∷ r)) zero h = refl
cells_at (a ∷ (b ∷ r)) (suc i) h = cells_at r i (omega arith) ∙ ap₂ (λ (m n : ℕ). cell (get_or (a ∷ (b ∷ r)) m 0) (get_or (a ∷ (b ∷ r)) n 0)) (sym (dbl i)) (sym (dbl1 i))

cells-set : (r : List ℕ) (i x y : ℕ) → i + i + 1 < length r → cells (set (set r (i + i) x) (i + i + 1) y) ≡ set (cells r) i (cell x y)
unfolding cells
cells-set [] i x y h = absurd (not-suc-le-zero h)
cells-set (a ∷ []) i x y h = absurd (omega arith)
cells-set (a ∷ (b ∷ r)) zero x y h = refl
cells-set (a ∷ (b ∷ r)) (suc i) x y h = ap₂ (λ (m n : ℕ). cells (set (set (a ∷ (b ∷ r)) m x) n y)) (dbl i) (dbl1 i) ∙ ap (λ (l : List ℤ). cell a b ∷ l) (cells-set r i x y (omega arith))

words-set : (l : List ℤ) (i : ℕ) (v : ℤ) → words (set l i v) ≡ set (set (words l) (i + i) (high_of v)) (i + i + 1) (low_of v)
unfolding words
words-set [] i v = refl
words-set (z ∷ l) zero v = refl
words-set (z ∷ l) (suc i) v =
    ap (λ (r : List ℕ). high_of z ∷ (low_of z ∷ r)) (words-set l i v)
    ∙ sym (ap₂ (λ (m n : ℕ). set (set (words (z ∷ l)) m (high_of v)) n (low_of v)) (dbl i) (dbl1 i))

cells-length : (r : List ℕ) (n : ℕ) → length r ≡ n + n → length (cells r) ≡ n
unfolding cells
cells-length [] zero e = refl
cells-length [] (suc n) e = absurd (omega arith)
cells-length (a ∷ []) n e = absurd (omega arith)
cells-length (a ∷ (b ∷ r)) zero e = absurd (omega arith)
cells-length (a ∷ (b ∷ r)) (suc n) e = ap suc (cells-length r n (omega arith))

pub sheet-long : (r : List ℕ) → Sheet r → length (cells r) ≡ 18
sheet-long r h = cells-length r 18 h.long

in-row : (i : ℕ) (r : List ℕ) → length r ≡ 36 → i < 18 → i + i + 1 < length r
in-row i r e h = omega arith

-- the number at place i
pub sheet-at : (r : List ℕ) (i : ℕ) → Sheet r → i < 18 → get_or (cells r) i (pos 0) ≡ cell (get_or r (i + i) 0) (get_or r (i + i + 1) 0)
sheet-at r i h k = cells_at r i (in-row i r h.long k)

-- a number stored
pub sheet-set : (r : List ℕ) (i : ℕ) (v : ℤ) (h l : ℕ) → Sheet r → i < 18 → nat_abs v < 2 ^ 127 → h ≡ high_of v → l ≡ low_of v → Becomes (set (set r (i + i) h) (i + i + 1) l) (set (cells r) i v)
sheet-set r i v h l s k b e f =
    let c : cells (set (set r (i + i) h) (i + i + 1) l) ≡ set (cells r) i v =
    cells-set r i h l (in-row i r s.long k) ∙ ap (set (cells r) i) (ap₂ cell e f ∙ cell-back 9223372036854775808 18446744073709551616 (lit< tt) v b) in
    record {
      is = c;
      sheet = record {
        long = length-set (set r (i + i) h) (i + i + 1) l ∙ length-set r (i + i) h ∙ s.long;
        plain =
            ap words c ∙ words-set (cells r) i v ∙ ap (λ (u : List ℕ). set (set u (i + i) (high_of v)) (i + i + 1) (low_of v)) s.plain
            ∙ ap₂ (λ (x y : ℕ). set (set r (i + i) x) (i + i + 1) y) (sym e) (sym f);
      };
    }

-- ---- a table

pub rows-set : (t : List (List ℕ)) (k : ℕ) (r : List ℕ) → rows_of (set t k r) ≡ set (rows_of t) k (cells r)
rows-set t k r = map-set cells t k r

pub rows_at : (t : List (List ℕ)) (k : ℕ) → get_or (rows_of t) k [] ≡ cells (get_or t k [])
unfolding cells
rows_at [] k = refl
rows_at (x ∷ t) zero = refl
rows_at (x ∷ t) (suc k) = rows_at t k

pub rows-length : (t : List (List ℕ)) → length (rows_of t) ≡ length t
rows-length t = length-map t cells

-- a test of every row, by the rows' numbers
pub all-through : (f : List ℕ → List ℤ) (p : List ℤ → Bool) (t : List (List ℕ)) → list_all p (map f t) ≡ list_all (λ r. p (f r)) t
all-through f p [] = refl
all-through f p (r ∷ t) = ap (λ b. p (f r) && b) (all-through f p t)

sheets-go : (t : List (List ℕ)) (i : ℕ) (r : List ℕ) → ((k : ℕ) → k < length t → Sheet (get_or t k [])) → Sheet r → (k : ℕ) → k < length (set t i r) → Sheet (get_or (set t i r) k [])
sheets-go [] i r h s k l = h k l
sheets-go (x ∷ t) zero r h s zero l = s
sheets-go (x ∷ t) zero r h s (suc k) l = h (suc k) l
sheets-go (x ∷ t) (suc i) r h s zero l = h 0 (omega arith)
sheets-go (x ∷ t) (suc i) r h s (suc k) l = sheets-go t i r (λ k l. h (suc k) (omega arith)) s k (omega arith)

pub sheets-set : (t : List (List ℕ)) (i : ℕ) (r : List ℕ) → Sheets t → Sheet r → Sheets (set t i r)
sheets-set t i r h s = record { at = sheets-go t i r h.at s }
