use Rattle.std.proofs.Common.{◌≡◌, ◌&&◌, drop}
use Rattle.model.specs.Lists.{all}
use Rattle.codec.specs.Bytes.{signed_list, coefficient}
use Rattle.codec.proofs.Flags.{from}
use Rattle.codec.proofs.checking.plain.Given as goal

-- those before i that are in range, and the rest
abbrev pub invariant-loop-i : goal.invariant-loop-i
invariant-loop-i l = (l.ok && from coefficient l.t l.p l.i) ≡ all coefficient (signed_list 8 (drop l.p l.t))
