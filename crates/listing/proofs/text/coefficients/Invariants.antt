use Rattle.std.proofs.Common.{◌*◌, drop}
use Rattle.model.specs.Lists.{concat_map}
use Rattle.codec.specs.Bytes.{signed_list}
use Rattle.listing.specs.Text.{number}
use Rattle.listing.specs.Written.{Writes}
use Rattle.listing.proofs.text.coefficients.Given as goal

abbrev pub invariant-loop-i : goal.invariant-loop-i
invariant-loop-i l = Writes (22 * l.i) (concat_map number (signed_list l.i (drop l.p l.t))) l.fn.out l.at l.end l.out
