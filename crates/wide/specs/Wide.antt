-- What a number of two words stands for.
use Rattle.std.specs.Prelude.{◌≡◌, ℕ, ◌+◌, ◌*◌, ◌/◌, ◌%◌, ◌≤◌, ◌<◌, ℤ, pos, neg_ℤ, nat_abs, leb, Bool, true, false, not, cond}
use Rattle.wide.specs.declared.Magnitude.{Magnitude}
use Rattle.std.specs.Int.Signed.{lt_z}
use Rattle.integers.specs.Z.{Within}
use Rattle.integers.specs.Size.{bound}
use Rattle.wide.specs.declared.division.Part.{Part}
use Rattle.wide.specs.declared.division.Split.{Split}
use Rattle.wide.specs.declared.Wide.{Wide}

-- ---- a sign and a size
abbrev pub signed : Bool → ℕ → ℤ
signed false n = pos n
signed true n = neg_ℤ (pos n)

abbrev pub xor : Bool → Bool → Bool
xor false b = b
xor true b = not b

abbrev pub two : ℕ → ℕ → ℕ
two hi lo = hi * 18446744073709551616 + lo

abbrev pub size : Magnitude → ℕ
size m = two m.hi m.lo

-- a multiple of d that r holds
pub record Taken (r d : Magnitude) (p : Part) : Type 0 where
  pub part_is : size p.part ≡ p.by * size d
  pub some : 0 < p.by
  pub holds : size p.part ≤ size r

pub record Divided (x d : Magnitude) (r : Split) : Type 0 where
  pub quo : size r.quo ≡ size x / size d
  pub rem : size r.rem ≡ size x % size d

abbrev pub value_of : Wide → ℤ
value_of x = signed x.neg (size x.magnitude)

-- the bound of the number test at 128 bits
abbrev pub Bounded : Wide → Type 0
Bounded x = Within (bound 128) (value_of x)

-- half a word is enough
pub record Short (x : Wide) : Type 0 where
  pub high : x.magnitude.hi ≡ 0
  pub low : x.magnitude.lo < 4294967296

-- a cell of a row: the sign is the high word's top bit
abbrev pub cell : ℕ → ℕ → ℤ
cell hi lo = signed (leb 9223372036854775808 hi) (two (hi % 9223372036854775808) lo)

-- the two words of a number: 0 has one form
abbrev pub high_of : ℤ → ℕ
high_of z = cond (lt_z z (pos 0)) (nat_abs z / 18446744073709551616 + 9223372036854775808) (nat_abs z / 18446744073709551616)

abbrev pub low_of : ℤ → ℕ
low_of z = nat_abs z % 18446744073709551616
