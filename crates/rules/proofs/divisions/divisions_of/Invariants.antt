use Rattle.std.proofs.Common.{◌≡◌, length, map, take}
use Rattle.model.specs.Values.{division_of}
use Rattle.rules.specs.Divisions.{divisions_in}
use Rattle.rules.proofs.divisions.divisions_of.Given as goal

abbrev pub invariant-loop-i : goal.invariant-loop-i
invariant-loop-i l = record { long : length l.ds ≡ 8; made : map division_of (take l.i l.ds) ≡ divisions_in l.i l.xs }
