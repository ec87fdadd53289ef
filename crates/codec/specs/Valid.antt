-- What a decoded set is made of: basic sets whose numbers are none that document 01 refuses over n axes.
use Rattle.std.specs.Prelude.{◌≡◌, ◌&&◌, ℕ, ◌≤◌, ◌<◌, T, leb, ltb, ℤ, pos, negsuc, length}
use Rattle.std.specs.Int.Signed.{mag}
use Rattle.model.specs.Lists.{All, all}
use Rattle.model.specs.Sets.{Division, Constraint, BasicSet, absent}
use Rattle.codec.specs.Bytes.{within, coefficient, constant_fits}

-- z is in the range of two's complement, with H half of 256 ^ k
abbrev pub Fits : ℕ → ℤ → Type 0
Fits H z = mag z < H

pub record ValidDivision (n : ℕ) (e : Division) : Type 0 where
  pub places : length e.axes ≡ 8
  pub divisor : T (ltb 0 e.divisor && leb e.divisor 32767)
  pub constant : T (within (negsuc 999999999) (pos 1000000000) e.constant)
  pub axes : T (all coefficient e.axes)
  pub absents : T (absent n e.axes)

pub record ValidConstraint (n k : ℕ) (r : Constraint) : Type 0 where
  pub axis_places : length r.axes ≡ 8
  pub division_places : length r.divisions ≡ 8
  pub number : r.number < 65536
  pub width : Fits 2147483648 r.constant
  pub constant : T (constant_fits r.kind r.constant)
  pub axes : T (all coefficient r.axes)
  pub divisions : T (all coefficient r.divisions)
  pub axis_absents : T (absent n r.axes)
  pub division_absents : T (absent k r.divisions)

pub record Valid (n : ℕ) (b : BasicSet) : Type 0 where
  pub few_divisions : length b.divisions ≤ 8
  pub few_constraints : length b.constraints ≤ 48
  pub divisions : All (ValidDivision n) b.divisions
  pub constraints : All (ValidConstraint n (length b.divisions)) b.constraints
