use Rattle.std.proofs.Common.{◌-◌, suc, ℕ, ℤ, List}
use Rattle.search.specs.Live.{Rowed}
use Rattle.search.specs.Levels.{span_at}
use Rattle.search.specs.declared.levels.Prefix.{Prefix}
use Rattle.counting.proofs.Summing.{Going}
use Rattle.counting.specs.declared.levels.Chosen.{Chosen}
use Rattle.counting.proofs.levels.+level.Given as goal

-- the number of axes left
abbrev pub decreases-level : goal.decreases-level
decreases-level l = l.p.n - l.p.k

-- where the level stands, and its rows
pub record Counting (s : List ℕ) (p : Prefix) (tested : ℕ) (c : Chosen) (each₀ each : List ℕ) (whole t i : ℕ) (rows : List (List ℤ)) : Type 0 where
  pub going : Going s p tested c each₀ each whole t i
  pub rowed : Rowed s p.n p.count rows

abbrev pub invariant-loop-i : goal.invariant-loop-i
invariant-loop-i l = Counting l.s l.p l.tested l.c l.fn.each l.each l.whole l.t l.i l.rows

-- the number of values left
abbrev pub decreases-loop-i : goal.decreases-loop-i
decreases-loop-i l = suc (span_at l.p) - l.i
