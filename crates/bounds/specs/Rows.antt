-- Rows of ends. A row is of one basic set and one box: it has the least and the greatest value of the axes' part of each division and constraint, the box
-- itself, and the place of the basic set.
use Rattle.std.specs.Prelude.{◌≡◌, List, [], ◌++◌, map, ℕ, ◌+◌, ◌≤◌, ◌<◌, ℤ, pos, nat_abs, ◌+ℤ◌, length, take, drop, get_or}
use Rattle.integers.specs.Z.{Within}
use Rattle.model.specs.Limits.{most_axes, most_coordinate}
use Rattle.model.specs.Sets.{Division, Constraint}
use Rattle.codec.specs.Bytes.{constraint_body}
use Rattle.codec.specs.Places.{basic_at, body_at, constraint_at, Whole, Opened}
use Rattle.bounds.specs.Sizes.{most_axes_part}
use Rattle.bounds.specs.Ends.{best, gain}

abbrev pub division_axes : Division → List ℤ
division_axes e = e.axes

abbrev pub constraint_axes : Constraint → List ℤ
constraint_axes c = c.axes

-- the coefficients of the axes of divisions and constraints, in their order
abbrev pub forms_of : List Division → List Constraint → List (List ℤ)
forms_of es cs = map division_axes es ++ map constraint_axes cs

-- the place of a row's basic set
abbrev pub start_of : List ℤ → ℕ
start_of r = nat_abs (get_or r 128 (pos 0))

-- the forms of its basic set in the bytes s
abbrev pub row_forms : List ℕ → List ℤ → List (List ℤ)
row_forms s r = forms_of (basic_at s (start_of r)).divisions (basic_at s (start_of r)).constraints

-- the lows and highs of n sides of its box
abbrev pub lows_of : ℕ → List ℤ → List ℤ
lows_of n r = take n (drop 56 r)

abbrev pub highs_of : ℕ → List ℤ → List ℤ
highs_of n r = take n (drop 120 r)

-- a row whose ends are of a size that sums keep within 64 bits
pub record Loose (s : List ℕ) (r : List ℤ) : Type 0 where
  pub places : length r ≡ 129
  pub place : get_or r 128 (pos 0) ≡ pos (start_of r)
  pub opened : Opened s (start_of r)
  pub least : (i : ℕ) → i < 56 → Within most_axes_part (get_or r i (pos 0))
  pub greatest : (i : ℕ) → i < 56 → Within most_axes_part (get_or r (64 + i) (pos 0))

-- a row that is right for its box, of n axes
pub record Row (s : List ℕ) (n : ℕ) (r : List ℤ) : Type 0 where
  pub places : length r ≡ 129
  pub place : get_or r 128 (pos 0) ≡ pos (start_of r)
  pub opened : Opened s (start_of r)
  pub lows : (j : ℕ) → j < most_axes → Within most_coordinate (get_or r (56 + j) (pos 0))
  pub highs : (j : ℕ) → j < most_axes → Within most_coordinate (get_or r (120 + j) (pos 0))
  pub least : (i : ℕ) → i < 56 → get_or r i (pos 0) ≡ best (get_or (row_forms s r) i []) (lows_of n r) (highs_of n r)
  pub greatest : (i : ℕ) → i < 56 → get_or r (64 + i) (pos 0) ≡ best (get_or (row_forms s r) i []) (highs_of n r) (lows_of n r)

-- the first m ends of each kind moved, all else as it was
pub record Shifted (forms : List (List ℤ)) (k : ℕ) (from to : ℤ) (m : ℕ) (r₀ r : List ℤ) : Type 0 where
  pub places : length r ≡ length r₀
  pub least : (i : ℕ) → i < m → get_or r i (pos 0) ≡ get_or r₀ i (pos 0) +ℤ gain k from to (get_or forms i [])
  pub greatest : (i : ℕ) → i < m → get_or r (64 + i) (pos 0) ≡ get_or r₀ (64 + i) (pos 0) +ℤ gain k to from (get_or forms i [])
  pub kept : (x : ℕ) → (x < 64 → m ≤ x) → (64 ≤ x → 64 + m ≤ x) → get_or r x (pos 0) ≡ get_or r₀ x (pos 0)

-- the side of axis j follows the box from low to high, unless j is k; the others are as they were
pub record Followed (s : List ℕ) (j k : ℕ) (low high r₀ r : List ℤ) : Type 0 where
  pub row : Row s (length low) r
  pub place : get_or r 128 (pos 0) ≡ get_or r₀ 128 (pos 0)
  pub low_side : (j ≡ k → ⊥) → get_or r (56 + j) (pos 0) ≡ get_or low j (pos 0)
  pub high_side : (j ≡ k → ⊥) → get_or r (120 + j) (pos 0) ≡ get_or high j (pos 0)
  pub lows : (i : ℕ) → i < most_axes → (i ≡ j → ⊥) → get_or r (56 + i) (pos 0) ≡ get_or r₀ (56 + i) (pos 0)
  pub highs : (i : ℕ) → i < most_axes → (i ≡ j → ⊥) → get_or r (120 + i) (pos 0) ≡ get_or r₀ (120 + i) (pos 0)

-- a row whose box is that from low to high but for axis k
pub record Settled (s : List ℕ) (k : ℕ) (low high r : List ℤ) : Type 0 where
  pub row : Row s (length low) r
  pub axis : k < length low
  pub lows : (i : ℕ) → i < length low → (i ≡ k → ⊥) → get_or r (56 + i) (pos 0) ≡ get_or low i (pos 0)
  pub highs : (i : ℕ) → i < length low → (i ≡ k → ⊥) → get_or r (120 + i) (pos 0) ≡ get_or high i (pos 0)

-- number i of the row is that of the constraint at a place
pub record Numbered (s : List ℕ) (r : List ℤ) (at i : ℕ) : Type 0 where
  pub whole : Whole s at
  pub body : constraint_body ≤ length (body_at s at)
  pub few : i < 56
  pub form : get_or (row_forms s r) i [] ≡ (constraint_at s at).axes
