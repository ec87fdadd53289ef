-- What the functions that subtract ask and give.
use Rattle.std.specs.Prelude.{◌≡◌, false, List, ℕ, ◌≤◌, length}
use Rattle.model.specs.Limits.{most_divisions, most_constraints}
use Rattle.model.specs.Lists.{any, All}
use Rattle.model.specs.Values.{basic_set_of}
use Rattle.model.specs.declared.BasicSet.{BasicSet as Stored}
use Rattle.codec.specs.Bytes.{decode, number}
use Rattle.codec.specs.Places.{set_from, Boundary}
use Rattle.codec.specs.Valid.{Valid}
use Rattle.algebra.specs.Tighten.{divisible}

-- the bytes of two checked sets over the same axes
pub record Sets (a b : List ℕ) : Type 0 where
  pub n : ℕ
  pub first : number (decode n a) ≡ 0
  pub second : number (decode n b) ≡ 0

-- a valid basic set, and the bytes of a checked set over the same axes
pub record From (p : Stored) (b : List ℕ) : Type 0 where
  pub n : ℕ
  pub valid : Valid n (basic_set_of p)
  pub divs : p.divs ≤ most_divisions
  pub cons : p.cons ≤ most_constraints
  pub cutters : number (decode n b) ≡ 0

-- p is to be cut by the `left` basic sets from a place on
pub record Level (left : ℕ) (p : Stored) (b : List ℕ) (pos : ℕ) : Type 0 where
  pub n : ℕ
  pub here : Boundary n b pos
  pub cutters : All (Valid n) (set_from b pos)
  pub many : length (set_from b pos) ≡ left
  pub valid : Valid n (basic_set_of p)
  pub divs : p.divs ≤ most_divisions
  pub cons : p.cons ≤ most_constraints

-- a basic set that is cut has no common divisor left in a rule; one that no cutter is left for may have
abbrev pub TightAt : ℕ → Stored → Type 0
TightAt left p = (left ≡ 0 → ⊥) → any divisible (basic_set_of p).constraints ≡ false
