-- Rows of a tableau as the code holds them, their exchange, the searches and the number test.
-- A row is a list of 18 numbers: denominator, constant, and the entries of 16 columns. A variable's place is its row, or 64 more than
-- its column. Its kind is 0 for a free variable, 1 for an inequality or a bound, 2 for an equality.
use Rattle.std.specs.Prelude.{◌≡◌, List, [], ◌∷◌, map, Bool, true, false, not, cond, ℕ, zero, suc, ◌+◌, ◌-◌, ◌≤◌, ◌<◌, leb, ltb, eqb, get_or, set, length, ℤ, pos, nat_abs, ◌-ℤ◌, ◌*ℤ◌, ◌<ℤ◌}
use Rattle.std.specs.Int.Signed.{quot_z, lt_z}
use Rattle.integers.specs.Z.{Within}
use Rattle.integers.specs.Gcd.{gcd}
use Rattle.integers.specs.Size.{bound}
use Rattle.model.specs.Sets.{is_zero}

-- ---- rows

abbrev pub den : List ℤ → ℤ
den r = get_or r 0 (pos 0)

abbrev pub entry : List ℤ → ℕ → ℤ
entry r j = get_or r (j + 2) (pos 0)

-- the common divisor of g and the numbers of a list
unfoldable pub divisor_from : ℕ → List ℤ → ℕ
divisor_from g [] = g
divisor_from g (x ∷ xs) = divisor_from (gcd (nat_abs x) g) xs

abbrev pub divisor : List ℤ → ℕ
divisor r = divisor_from 0 r

-- each number divided by n
unfoldable pub divide_row : List ℤ → ℕ → List ℤ
divide_row r n = map (λ x. quot_z x (pos n)) r

-- a row in lowest terms
unfoldable pub reduce_row : List ℤ → List ℤ
reduce_row r = divide_row r (divisor r)

-- x · m − b · y, place by place
unfoldable pub combine_rows : ℤ → ℤ → List ℤ → List ℤ → List ℤ
combine_rows m b [] ys = []
combine_rows m b (x ∷ xs) [] = []
combine_rows m b (x ∷ xs) (y ∷ ys) = (x *ℤ m -ℤ b *ℤ y) ∷ combine_rows m b xs ys

-- each number with the other sign
abbrev pub minus_row : List ℤ → List ℤ
minus_row r = map (λ x. pos 0 -ℤ x) r

-- row r with the variable of column j replaced by the row of denominator m and other numbers q, where q has 0 for the denominator
unfoldable pub replace_row : List ℤ → ℕ → ℤ → List ℤ → List ℤ
replace_row r j m q = reduce_row (combine_rows m (pos 0 -ℤ entry r j) (set r (j + 2) (pos 0)) q)

-- row r solved for the variable of column j: the entry there and the denominator change places, and all other numbers change signs
-- where the entry is positive, those two where it is negative
abbrev pub turn_by : Bool → List ℤ → ℕ → List ℤ
turn_by true r j = set (set r 0 (pos 0 -ℤ entry r j)) (j + 2) (pos 0 -ℤ den r)
turn_by false r j = set (set (minus_row r) 0 (entry r j)) (j + 2) (den r)

unfoldable pub turn_row : List ℤ → ℕ → List ℤ
turn_row r j = turn_by (lt_z (entry r j) (pos 0)) r j

unfoldable pub solve_row : List ℤ → ℕ → List ℤ
solve_row r j = reduce_row (turn_row r j)

-- ---- the exchange of row i and column j

-- row r once the variable of column j is the row of denominator m and other numbers q
unfoldable pub rebuild_row : ℕ → ℤ → List ℤ → List ℤ → List ℤ
rebuild_row j m q r = cond (is_zero (entry r j)) r (replace_row r j m q)

-- row i is solved for the variable of column j, and that row is put into the others
abbrev pub exchange_by : List ℤ → List (List ℤ) → ℕ → ℕ → List (List ℤ)
exchange_by p t i j = set (map (rebuild_row j (den p) (set p 0 (pos 0))) t) i p

unfoldable pub exchange_rows : List (List ℤ) → ℕ → ℕ → List (List ℤ)
exchange_rows t i j = exchange_by (solve_row (get_or t i []) j) t i j

-- the number of rows with an entry in column j: as many are built
abbrev pub rebuilt : ℕ → List ℤ → ℕ
rebuilt j r = cond (is_zero (entry r j)) 0 1

unfoldable pub touched : ℕ → List (List ℤ) → ℕ
touched j [] = 0
touched j (r ∷ t) = rebuilt j r + touched j t

-- ---- which row, which column, the number test

-- the first number from v on, of n numbers, of which p holds; v + n where there is none
unfoldable pub first : (ℕ → Bool) → ℕ → ℕ → ℕ
first p zero v = v
first p (suc n) v = cond (p v) v (first p n (suc v))

-- a value that its kind does not allow
abbrev pub violated_by : ℕ → ℤ → Bool
violated_by kind x = cond (eqb kind 1) (lt_z x (pos 0)) (cond (eqb kind 2) (not (is_zero x)) false)

-- variable v is a violated row
unfoldable pub violated_at : List (List ℤ) → List ℕ → List ℕ → ℕ → Bool
violated_at rows place kinds v =
    cond (ltb (get_or place v 0) 64) (violated_by (get_or kinds v 0) (get_or (get_or rows (get_or place v 0) []) 1 (pos 0))) false

-- the lowest-numbered violated row; the number of variables where there is none
unfoldable pub violated : List (List ℤ) → List ℕ → List ℕ → ℕ
violated rows place kinds = first (violated_at rows place kinds) (length place) 0

-- an entry e that helps a row whose constant is c
abbrev pub helps_by : ℕ → ℤ → ℤ → Bool
helps_by kind c e =
    cond (eqb kind 0) (not (is_zero e)) (cond (eqb kind 1) (cond (lt_z c (pos 0)) (lt_z (pos 0) e) (lt_z e (pos 0))) false)

unfoldable pub helps_at : List ℤ → List ℕ → List ℕ → ℕ → Bool
helps_at row place kinds v =
    cond (ltb (get_or place v 0) 64) false (helps_by (get_or kinds v 0) (get_or row 1 (pos 0)) (get_or row (get_or place v 0 - 64 + 2) (pos 0)))

-- the lowest-numbered helping column
unfoldable pub helping : List ℤ → List ℕ → List ℕ → ℕ
helping row place kinds = first (helps_at row place kinds) (length place) 0

-- every number within ±m
unfoldable pub small_at : ℕ → List ℤ → Bool
small_at m [] = true
small_at m (x ∷ xs) = cond (leb (nat_abs x) m) (small_at m xs) false

-- so, or no entry in column j
abbrev pub narrow_row_at : ℕ → ℕ → List ℤ → Bool
narrow_row_at m j r = cond (is_zero (entry r j)) true (small_at m r)

-- so in each row with an entry in column j
unfoldable pub narrow_rows_at : ℕ → ℕ → List (List ℤ) → Bool
narrow_rows_at m j [] = true
narrow_rows_at m j (r ∷ t) = cond (narrow_row_at m j r) (narrow_rows_at m j t) false

-- at 64 bits
abbrev pub small : List ℤ → Bool
small r = small_at (bound 64) r

abbrev pub narrow_row : ℕ → List ℤ → Bool
narrow_row j r = narrow_row_at (bound 64) j r

abbrev pub narrow_rows : ℕ → List (List ℤ) → Bool
narrow_rows j t = narrow_rows_at (bound 64) j t

-- ---- what the functions ask

-- every number lies within ±n
abbrev pub Small : ℕ → List ℤ → Type 0
Small n r = (k : ℕ) → Within n (get_or r k (pos 0))

-- 18 numbers; from place n on they are 0
pub record Line (n : ℕ) (r : List ℤ) : Type 0 where
  pub fit : n ≤ 18
  pub long : length r ≡ 18
  pub blank : (k : ℕ) → n ≤ k → get_or r k (pos 0) ≡ pos 0

-- a row with a positive denominator
pub record Whole (n : ℕ) (r : List ℤ) : Type 0 where
  pub line : Line n r
  pub over : pos 0 <ℤ den r

-- a row that can be rebuilt: where it has an entry in column j, it has a positive denominator and passes the number test
pub record FitAt (m n : ℕ) (r : List ℤ) (j : ℕ) : Type 0 where
  pub line : Line n r
  pub dens : (entry r j ≡ pos 0 → ⊥) → pos 0 <ℤ den r
  pub small : (entry r j ≡ pos 0 → ⊥) → Small m r

-- a row that is put in, as its denominator and its other numbers
pub record DivisorAt (b n : ℕ) (m : ℤ) (q : List ℤ) : Type 0 where
  pub line : Line n q
  pub small : Small b q
  pub none : get_or q 0 (pos 0) ≡ pos 0
  pub near : Within b m
  pub over : pos 0 <ℤ m

pub record ReadyAt (m n : ℕ) (t : List (List ℤ)) (i j : ℕ) : Type 0 where
  pub row : i < length t
  pub col : j + 2 < n
  pub count : length t ≤ 64
  pub cross : entry (get_or t i []) j ≡ pos 0 → ⊥
  pub rows : (k : ℕ) → k < length t → FitAt m n (get_or t k []) j

-- at 64 bits
abbrev pub Fit : ℕ → List ℤ → ℕ → Type 0
Fit n r j = FitAt (bound 64) n r j

abbrev pub Divisor : ℕ → ℤ → List ℤ → Type 0
Divisor n m q = DivisorAt (bound 64) n m q

abbrev pub Ready : ℕ → List (List ℤ) → ℕ → ℕ → Type 0
Ready n t i j = ReadyAt (bound 64) n t i j
