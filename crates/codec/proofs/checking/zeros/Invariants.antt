use Rattle.std.proofs.Common.{◌≡◌, ◌&&◌, ◌+◌, ◌-◌, ◌*◌, drop}
use Rattle.model.specs.Lists.{all}
use Rattle.model.specs.Sets.{is_zero}
use Rattle.codec.specs.Bytes.{signed_list}
use Rattle.codec.proofs.Flags.{from, later}
use Rattle.codec.proofs.checking.zeros.Given as goal

-- the absent places before i that are 0, and the rest
abbrev pub invariant-loop-i : goal.invariant-loop-i
invariant-loop-i l = (l.ok && from is_zero l.t l.p (later l.n l.i)) ≡ all is_zero (signed_list (8 - l.n) (drop (l.p + 2 * l.n) l.t))
