-- What the code's answers mean.
use Rattle.feasibility.specs.Tableau as T
use Rattle.simplex.specs.declared.Verdict.{Verdict}
use Rattle.simplex.specs.declared.Verdict.TheVariants.{Point, Dropped, Long, Wide}

-- the answer of the test for fractions (document 01)
abbrev pub verdict_of : Verdict → T.Verdict
verdict_of Point = T.point
verdict_of Dropped = T.dropped
verdict_of Long = T.long
verdict_of Wide = T.wide
