use Rattle.std.specs.Prelude.{◌≡◌, ◌+◌, ◌*◌, take}
use Rattle.model.specs.Lists.{concat_map}
use Rattle.codec.specs.Bytes.{signed_bytes}
use Rattle.records.specs.Writing.{Emitted}
use Rattle.records.proofs.writing.put_coefficients.Given as goal

abbrev pub invariant-loop-x : goal.invariant-loop-x
invariant-loop-x l =
    record {
      place : l.p ≡ l.at + 2 * l.x-index;
      bytes : Emitted (concat_map (signed_bytes 2) (take l.x-index l.fn.a)) l.initial.out l.at l.p l.out;
    }
