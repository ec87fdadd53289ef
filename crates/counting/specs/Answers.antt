-- The answers of the calls, and the lent table.
use Rattle.std.specs.Prelude.{Option, Some, None, List, [], ◌++◌, ℕ, ◌-◌, length, replicate}
use Rattle.codec.specs.Bytes.{Answer, refused, gives}
use Rattle.enumeration.specs.Counting.{Count, counted, exhausted, Tally}
use Rattle.counting.specs.declared.levels.Counted.{Counted}

-- a whole where it was counted
abbrev pub told : Count → Option ℕ
told (counted w cs) = Some w
told exhausted = None

abbrev pub counted_is : Answer Tally → Answer Counted
counted_is (refused k) = refused k
counted_is (gives t) = gives (record { whole = told t.count; tested = t.tested })

-- the table: the separate counts and then 0; "Spent returns no counts" (document 02, 12), and a refusal none
abbrev pub separate : Answer Tally → List ℕ
separate (refused k) = []
separate (gives t) = elim t.count [ counted w cs ↦ cs | exhausted ↦ [] ]

abbrev pub table_is : ℕ → Answer Tally → List ℕ
table_is size a = separate a ++ replicate (size - length (separate a)) 0
