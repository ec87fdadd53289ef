-- The ranks before the turn's are changed, the others not yet.
use Rattle.std.proofs.Common.{◌≡◌, ℕ, ◌<◌, ◌≤◌, get_or}
use Rattle.memory.specs.Memory.{fallen}
use Rattle.memory.proofs.ranks.lower.Given as goal

abbrev pub invariant-loop-rank : goal.invariant-loop-rank
invariant-loop-rank l = record {
  done : (k : ℕ) → k < l.rank-index → get_or l.ranks k 0 ≡ fallen l.old (get_or l.initial.ranks k 0);
  rest : (k : ℕ) → l.rank-index ≤ k → get_or l.ranks k 0 ≡ get_or l.initial.ranks k 0;
}
