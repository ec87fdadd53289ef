-- The numbers that tests and benchmarks in C get for a fleet.
use Rattle.std.specs.Prelude.{◌≡◌, ℕ}
use Rattle.codec.specs.Bytes.{Answer, refused, gives}
use Rattle.fleet.specs.Fleet.{Fleet}
use Rattle.fleet.specs.Looking.{mask_in}
use Rattle.probe.specs.Numbers.{refusal_number}

-- no count is over 64
abbrev pub fleet_number : Answer Fleet → ℕ
fleet_number (refused k) = refusal_number k
fleet_number (gives f) = f.count

-- the contract of a look whose answer on bytes is `a`: the number r, and the mask after the call
pub record Viewed (a : Answer Fleet) (r mask : ℕ) : Type 0 where
  pub number : r ≡ fleet_number a
  pub bits : mask ≡ mask_in a
