-- The code's counts as the definition's, and the table behind its test of absent places.
use Rattle.std.specs.Prelude.{List, [], ◌∷◌, ℕ}
use Rattle.codec.specs.Bytes as B
use Rattle.codec.specs.declared.checking.Counts.{Counts}

abbrev pub counts_of : Counts → B.Counts
counts_of k = record { basics = k.basics; divisions = k.divisions; constraints = k.constraints }

-- the greatest number of 16 bits at each place, from place 8 − n on: any where there is an axis or division, else 0
abbrev pub bits_allowed : List ℕ
bits_allowed = 65535 ∷ 65535 ∷ 65535 ∷ 65535 ∷ 65535 ∷ 65535 ∷ 65535 ∷ 65535 ∷ 0 ∷ 0 ∷ 0 ∷ 0 ∷ 0 ∷ 0 ∷ 0 ∷ 0 ∷ []
