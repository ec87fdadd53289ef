-- The numbers of divisions as the calls on a state take them (document 02, request 8).
use Rattle.std.specs.Prelude.{◌≡◌, List, [], ◌∷◌, map, ℕ, zero, suc, ◌*◌, ◌≤◌, ◌<◌, T, ℤ, pos, negsuc, length, get_or, take, drop}
use Rattle.model.specs.Limits.{most_axes, most_divisions}
use Rattle.model.specs.Lists.{all}
use Rattle.model.specs.Sets as S
use Rattle.model.specs.Values.{division_of}
use Rattle.model.specs.declared.Division.{Division}
use Rattle.codec.specs.Bytes.{coefficient}
use Rattle.rules.specs.declared.Quotient.{Quotient}

-- a divisor below 0 is refused as 0 is
abbrev pub unsigned : ℤ → ℕ
unsigned (pos n) = n
unsigned (negsuc n) = 0

abbrev pub quotient_of : Quotient → S.Division
quotient_of q = record { divisor = unsigned q.divisor; constant = q.constant; axes = q.axes }

-- ten numbers a division: d, c and 8 axes
abbrev pub division_by : List ℤ → S.Division
division_by xs = record { divisor = unsigned (get_or xs 0 (pos 0)); constant = get_or xs 1 (pos 0); axes = take most_axes (drop 2 xs) }

unfoldable pub divisions_in : ℕ → List ℤ → List S.Division
divisions_in zero xs = []
divisions_in (suc k) xs = division_by xs ∷ divisions_in k (drop 10 xs)

-- ---- what the functions ask and give

-- a division that is not refused
pub record Proper (e : S.Division) : Type 0 where
  pub over : 0 < e.divisor
  pub axes : T (all coefficient e.axes)

-- ten numbers each of k divisions, none of which is refused
pub record Listed (k : ℕ) (xs : List ℤ) : Type 0 where
  pub few : k ≤ most_divisions
  pub room : 10 * k ≤ length xs
  pub proper : (i : ℕ) → i < k → Proper (division_by (drop (10 * i) xs))

-- the values of k divisions
pub record Divided (k : ℕ) (xs : List ℤ) (ds : List Division) : Type 0 where
  pub long : length ds ≡ most_divisions
  pub are : map division_of (take k ds) ≡ divisions_in k xs
