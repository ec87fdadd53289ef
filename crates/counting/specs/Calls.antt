-- What the parts of a call are asked and say.
use Rattle.std.specs.Prelude.{◌≡◌, true, Some, None, Result, Ok, Err, List, ℕ, ◌≤◌, ◌<◌, ℤ, length, replicate}
use Rattle.std.proofs.Math.Option.{Option}
use Rattle.integers.specs.Z.{Within}
use Rattle.model.specs.Limits.{most_axes, most_coordinate}
use Rattle.model.specs.declared.refusal.Refusal.{Refusal}
use Rattle.model.specs.Refused.{number_of}
use Rattle.codec.specs.Bytes.{refused, decode, number}
use Rattle.enumeration.specs.Search.{corners_fit}
use Rattle.enumeration.specs.Counting.{Members, counts_from, count_bytes}
use Rattle.counting.specs.declared.levels.Chosen.{Chosen}
use Rattle.counting.specs.declared.levels.Counted.{Counted}
use Rattle.counting.specs.Levels.{counted}

-- checked bytes, and corners that fit their axes
pub record Checked (n : ℕ) (s : List ℕ) (low high : List ℤ) : Type 0 where
  pub accepted : number (decode n s) ≡ 0
  pub corners : corners_fit n low high ≡ true

-- r is what every count is refused with, or set and corners are checked
abbrev pub Fitting : ℕ → List ℕ → List ℤ → List ℤ → Result (Unit {0}) Refusal → Type 0
Fitting n s low high (Ok x) = Checked n s low high
Fitting n s low high (Err r) = (axis : Option ℕ) (limit : ℕ) → count_bytes n s low high axis limit ≡ refused (number_of r)

-- one of eight axes, its first value a coordinate; nothing is counted yet
pub record Blank (c : Chosen) (each : List ℕ) : Type 0 where
  pub axis : c.axis < most_axes
  pub first : Within most_coordinate c.first
  pub none : each ≡ replicate (length each) 0

-- what is told of the members m, with a table of k places for the values of the axis from its first
pub data Ended (limit : ℕ) (c : Chosen) (m : Members) (k : ℕ) : Counted → List ℕ → Type 0 where
  within : m.tested ≤ limit → Ended limit c m k (counted (Some (length m.points)) m.tested) (counts_from c.axis m.points k c.first)
  beyond : limit < m.tested → Ended limit c m k (counted None limit) (replicate k 0)
