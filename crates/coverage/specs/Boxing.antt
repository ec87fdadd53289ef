-- A box as a value.
use Rattle.std.specs.Prelude.{◌≡◌, List, ℕ, ◌≤◌, ℤ}
use Rattle.model.specs.Limits.{most_divisions, most_constraints}
use Rattle.model.specs.Values.{basic_set_of}
use Rattle.model.specs.declared.BasicSet.{BasicSet as Stored}
use Rattle.boxes.specs.Box.{box_basic}

pub record BoxIs (n : ℕ) (ls hs : List ℤ) (r : Stored) : Type 0 where
  pub is : basic_set_of r ≡ box_basic n ls hs
  pub divs : r.divs ≤ most_divisions
  pub cons : r.cons ≤ most_constraints
