-- Text written into a lent buffer.
use Rattle.std.specs.Prelude.{◌≡◌, cond, List, ◌++◌, ℕ, suc, ◌+◌, ◌-◌, ◌*◌, ◌≤◌, ℤ, pos, negsuc, ltb, length, take, drop}

-- o with l from place `at` on
unfoldable pub put : ℕ → List ℕ → List ℕ → List ℕ
put at l o = take at o ++ (l ++ drop (at + length l) o)

-- l stands in o' from `at` up to `end`; the rest is as in o
pub record Wrote (l o : List ℕ) (at end : ℕ) (o' : List ℕ) : Type 0 where
  pub end_is : end ≡ at + length l
  pub room : end ≤ length o
  pub bytes : o' ≡ put at l o

-- the same, in at most `most` bytes
pub record Writes (most : ℕ) (l o : List ℕ) (at end : ℕ) (o' : List ℕ) : Type 0 where
  pub short : end ≤ at + most
  pub wrote : Wrote l o at end o'

-- the number that v stands for in two's complement, where there are `size` numbers
abbrev pub signed_in : ℕ → ℕ → ℤ
signed_in size v = cond (ltb (2 * v) size) (pos v) (negsuc (size - suc v))
