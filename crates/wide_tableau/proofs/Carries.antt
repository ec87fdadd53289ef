-- The row of zeros. Assumes nothing.
use mathlib.Core.Path.{refl}
use lib.ListN.{replicate}
use Rattle.wide_tableau.specs.Cells.{cells, words, Sheet}

pub blank : Sheet (replicate 36 0)
unfolding cells words
blank = record { long = refl; plain = refl }
