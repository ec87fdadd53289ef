-- Values of axis k further up: the side that they make, and what fails over it.
use Rattle.std.specs.Prelude.{◌≡◌, Bool, true, false, List, map, ℕ, ◌-◌, ◌≤◌, ◌<◌, eqb, ℤ, pos, ◌+ℤ◌, ◌≤ℤ◌, length, get_or, set, Option, Some, None}
use Rattle.model.specs.Lists.{all}
use Rattle.model.specs.Sets.{Constraint}
use Rattle.codec.specs.Places.{basic_at, constraint_at}
use Rattle.bounds.specs.Intervals.{quotient_side, can_hold, box_of}
use Rattle.bounds.specs.Ends.{can_stand}
use Rattle.bounds.specs.Rows.{start_of, Numbered, Row}
use Rattle.runs.specs.declared.holding.Stop.{Stop}

-- its side reaches j further up
abbrev pub widened : ℕ → ℕ → List ℤ → List ℤ
widened k j high = set high k (get_or high k (pos 0) +ℤ pos j)

-- so far as m values the numbers stay coordinates
pub record Reach (k : ℕ) (high : List ℤ) (m : ℕ) : Type 0 where
  pub far : (get_or high k (pos 0) +ℤ pos m) ≤ℤ pos 1048577

-- a constraint of the basic set at a place fails over the side of m values
pub record Lasts (s : List ℕ) (k : ℕ) (low high : List ℤ) (start : ℕ) (c : Constraint) (m : ℕ) : Type 0 where
  pub fails : can_stand (box_of low (widened k (m - 1) high)) (map (quotient_side (box_of low (widened k (m - 1) high))) (basic_at s start).divisions) c ≡ false

-- p is at a constraint of the basic set of a row that does not pass a test
pub record FailsAt (s : List ℕ) (r : List ℤ) (ok : Constraint → Bool) (p : Stop) : Type 0 where
  pub rule : Numbered s r p.at p.i
  pub falls : ok (constraint_at s p.at) ≡ false
  pub among : (f : Constraint → Bool) → f (constraint_at s p.at) ≡ false → all f (basic_at s (start_of r)).constraints ≡ false

-- there is such a one, or all of them pass it
abbrev pub Stopped : List ℕ → List ℤ → (Constraint → Bool) → Option Stop → Type 0
Stopped s r ok (Some p) = FailsAt s r ok p
Stopped s r ok None = all ok (basic_at s (start_of r)).constraints ≡ true

-- m is 0 where the basic set at a place can hold over the box from low to high; otherwise it cannot over the side of m values of axis k
pub record Failing (s : List ℕ) (k : ℕ) (low high : List ℤ) (start most m : ℕ) : Type 0 where
  pub is : eqb m 0 ≡ can_hold (box_of low high) (basic_at s start)
  pub far : 0 < m → can_hold (box_of low (widened k (m - 1) high)) (basic_at s start) ≡ false
  pub few : m ≤ most

-- the same of the basic set of a row; the row is of the same basic set after it
pub record Told (s : List ℕ) (k : ℕ) (low high r₀ r : List ℤ) (most m : ℕ) : Type 0 where
  pub run : Failing s k low high (start_of r₀) most m
  pub row : Row s (length low) r
  pub place : start_of r ≡ start_of r₀

-- m values of axis k at which the basic set of a row holds, 1 of which is known: over the box whose side goes down from the last of them it can
pub record Keeping (s : List ℕ) (k : ℕ) (low high r₀ r : List ℤ) (most m : ℕ) : Type 0 where
  pub some : 0 < m
  pub few : m ≤ most
  pub is : 1 < m → can_hold (box_of (widened k (m - 1) low) high) (basic_at s (start_of r₀)) ≡ true
  pub row : Row s (length low) r
  pub place : start_of r ≡ start_of r₀
