use Rattle.std.proofs.Common.{◌*◌, take}
use Rattle.model.specs.Lists.{concat_map}
use Rattle.listing.specs.Text.{number}
use Rattle.listing.specs.Written.{Writes}
use Rattle.listing.proofs.text.coordinates.Given as goal

abbrev pub invariant-loop-z : goal.invariant-loop-z
invariant-loop-z l = Writes (22 * l.z-index) (concat_map number (take l.z-index l.z-items)) l.fn.out l.at l.end l.out
