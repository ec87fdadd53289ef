-- A value that is a valid basic set, over some number of axes.
use Rattle.std.specs.Prelude.{ℕ, ◌≤◌}
use Rattle.model.specs.Limits.{most_divisions, most_constraints}
use Rattle.model.specs.Values.{basic_set_of}
use Rattle.model.specs.declared.BasicSet.{BasicSet as Stored}
use Rattle.codec.specs.Valid.{Valid}

pub record Sound (b : Stored) : Type 0 where
  pub n : ℕ
  pub valid : Valid n (basic_set_of b)
  pub divs : b.divs ≤ most_divisions
  pub cons : b.cons ≤ most_constraints
