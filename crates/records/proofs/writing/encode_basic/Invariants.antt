use Rattle.std.specs.Prelude.{◌+◌, ◌*◌, ◌≤◌, take}
use Rattle.model.specs.Lists.{concat_map}
use Rattle.codec.specs.Places.{longest_division, longest_constraint}
use Rattle.records.specs.Writing.{Emitted}
use Rattle.records.proofs.Emitting.{division_bytes, constraint_bytes}
use Rattle.records.proofs.writing.encode_basic.Given as goal

abbrev pub invariant-loop-e : goal.invariant-loop-e
invariant-loop-e l =
    record {
      near : l.p ≤ l.initial.p + longest_division * l.e-index;
      bytes : Emitted (concat_map division_bytes (take l.e-index l.e-items)) l.initial.out l.initial.p l.p l.out;
    }

abbrev pub invariant-loop-r : goal.invariant-loop-r
invariant-loop-r l =
    record {
      near : l.p ≤ l.initial.p + longest_constraint * l.r-index;
      bytes : Emitted (concat_map constraint_bytes (take l.r-index l.r-items)) l.initial.out l.initial.p l.p l.out;
    }
