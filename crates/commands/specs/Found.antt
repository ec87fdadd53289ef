-- What a search found, as its definition says it.
use Rattle.std.specs.Prelude.{ℕ, take}
use Rattle.codec.specs.Bytes.{Answer, refused, gives}
use Rattle.enumeration.specs.Search.{at, nothing, spent, Found, Tallied}
use Rattle.search.specs.declared.first.FirstPoint.{FirstPoint}
use Rattle.search.specs.declared.levels.Outcome.{Outcome}
use Rattle.search.specs.declared.levels.Outcome.TheVariants.{At, Nothing, Spent}

abbrev pub found_by : ℕ → Outcome → Found
found_by n (At p) = at (take n p)
found_by n Nothing = nothing
found_by n Spent = spent

abbrev pub found_of : ℕ → FirstPoint → Tallied
found_of n f = record { found = found_by n f.outcome; tested = f.tested }

abbrev pub found_is : ℕ → Answer FirstPoint → Answer Tallied
found_is n (refused k) = refused k
found_is n (gives f) = gives (found_of n f)
