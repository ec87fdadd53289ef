use Rattle.std.proofs.Common.{◌≡◌, ◌≤◌, ◌-◌, ℕ, suc, List, ℤ}
use Rattle.search.specs.Live.{Rowed}
use Rattle.search.specs.Levels.{level_of, span_at}
use Rattle.search.specs.declared.levels.Prefix.{Prefix}
use Rattle.search.proofs.Climbs.{onward}
use Rattle.search.proofs.levels.+level.Given as goal

-- the number of axes left
abbrev pub decreases-level : goal.decreases-level
decreases-level l = l.p.n - l.p.k

-- the values from number `from` on, with what was tested, give what the whole level gives
pub record Onward (s : List ℕ) (p : Prefix) (before tested from : ℕ) (rows : List (List ℤ)) : Type 0 where
  pub rowed : Rowed s p.n p.count rows
  pub within : tested ≤ p.limit
  pub is : onward s p from tested ≡ level_of s p before

abbrev pub invariant-loop-passed : goal.invariant-loop-passed
invariant-loop-passed l = Onward l.s l.p l.fn.tally.tested l.tally.tested l.from l.rows

-- the number of values left
abbrev pub decreases-loop-passed : goal.decreases-loop-passed
decreases-loop-passed l = suc (span_at l.p) - l.from
