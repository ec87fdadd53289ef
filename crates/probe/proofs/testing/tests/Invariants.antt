use Rattle.std.proofs.Common.{◌≡◌, ◌*◌, ◌%◌, ◌^◌}
use Rattle.model.specs.Values.{basic_set_of}
use Rattle.feasibility.specs.Tableau.{pivots_made}
use Rattle.probe.proofs.testing.tests.Given as goal

-- the pivots of i tests
abbrev pub invariant-loop-i : goal.invariant-loop-i
invariant-loop-i l = l.pivots ≡ (l._i * pivots_made (basic_set_of l.b)) % 2 ^ 64
