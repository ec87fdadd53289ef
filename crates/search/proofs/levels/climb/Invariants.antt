use Rattle.std.proofs.Common.{◌≡◌, ◌+◌, ◌-◌, ◌≤◌, ℕ, suc, ℤ, List}
use Rattle.search.specs.Live.{Rowed}
use Rattle.search.specs.Levels.{span_at, Failed}
use lib.ListN.{set}
use Rattle.search.specs.declared.levels.Prefix.{Prefix}
use Rattle.search.proofs.levels.climb.Given as goal

-- a list that differs from another at one place alone
abbrev pub Beside : ℕ → List ℤ → List ℤ → Type 0
Beside k x y = (z : ℤ) → set x k z ≡ set y k z

-- t values failed, from number `from` to i
pub record Falling (s : List ℕ) (p : Prefix) (from tested t i span : ℕ) (low high : List ℤ) (rows : List (List ℤ)) : Type 0 where
  pub whole : span ≡ span_at p
  pub gone : i ≡ from + t
  pub inside : t ≤ suc span - from
  pub room : tested + t ≤ p.limit
  pub failed : Failed s p from t
  pub rowed : Rowed s p.n p.count rows
  pub lows : Beside p.k low p.low
  pub highs : Beside p.k high p.high

abbrev pub invariant-loop-i : goal.invariant-loop-i
invariant-loop-i l = Falling l.s l.p l.from l.tested l.t l.i l.span l.low l.high l.rows

abbrev pub decreases-loop-i : goal.decreases-loop-i
decreases-loop-i l = l.span + 1 - l.i
