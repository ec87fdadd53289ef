use Rattle.std.proofs.Common.{◌≡◌}
use Rattle.planning.specs.State.{start_refusal}
use Rattle.rules.specs.Divisions.{divisions_in}
use Rattle.rules.proofs.Quotients.{rest}
use Rattle.rules.proofs.divisions.check_start.Given as goal

abbrev pub invariant-loop-i : goal.invariant-loop-i
invariant-loop-i l = rest l.n l.count l.i l.xs ≡ start_refusal l.n (divisions_in l.count l.xs)
