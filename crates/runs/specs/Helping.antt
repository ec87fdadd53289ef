-- The one division that helps a constraint, and where it stands.
use Rattle.std.specs.Prelude.{Bool, true, false, List, ℕ, ◌≤◌, ◌<◌, length}
use Rattle.model.specs.Limits.{most_divisions}
use Rattle.codec.specs.Bytes.{division_body}
use Rattle.codec.specs.Places.{body_at, Whole}
use Rattle.runs.specs.declared.guesses.Helper.{Helper}
use Rattle.runs.specs.declared.guesses.Helper.TheVariants.{Nothing, One, Several}

abbrev pub noted_of : Helper → ℕ → ℕ → Bool → Helper
noted_of h j at false = h
noted_of Nothing j at true = One j at
noted_of (One i p) j at true = Several
noted_of Several j at true = Several

-- a division with all its bytes is at a place, number j of its basic set
pub record HelpedAt (s : List ℕ) (j at : ℕ) : Type 0 where
  pub few : j < most_divisions
  pub whole : Whole s at
  pub body : division_body ≤ length (body_at s at)

-- where there is one, it is at its place
abbrev pub Helping : List ℕ → Helper → Type 0
Helping s Nothing = Unit {0}
Helping s (One j at) = HelpedAt s j at
Helping s Several = Unit {0}
