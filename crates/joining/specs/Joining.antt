-- What the functions that join divisions and make opposites ask and give.
use Rattle.std.specs.Prelude.{◌≡◌, Bool, false, cond, List, [], ◌∷◌, ◌++◌, map, ℕ, ◌≤◌, ◌<◌, T, leb, eqb, ℤ, nat_abs, length, take, get_or, Option, Some, None, is_some, is_none, IfSome}
use Rattle.std.proofs.Math.Option as P
use Rattle.model.specs.Limits.{most_divisions}
use Rattle.model.specs.Lists.{all, any}
use Rattle.model.specs.Sets.{floor_div, Division, equality, Constraint}
use Rattle.model.specs.Values.{division_of, constraint_of, basic_set_of}
use Rattle.model.specs.declared.Constraint.{Constraint as StoredConstraint}
use Rattle.model.specs.declared.BasicSet.{BasicSet as Stored}
use Rattle.feasibility.specs.Tableau.{gcd, common_divisor}
use Rattle.algebra.specs.Tighten.{void, tight, tightened}
use Rattle.codec.specs.Bytes.{coefficient, constant_fits}
use Rattle.algebra.specs.Cut.{seek, join}
use Rattle.joining.specs.declared.divisions.Joined.{Joined}

-- coefficients whose opposites fit
pub record Below (r : Constraint) : Type 0 where
  pub axes : T (all coefficient r.axes)
  pub divisions : T (all coefficient r.divisions)

-- an equality's constant, so that e − 1 fits
pub record Above (r : Constraint) : Type 0 where
  pub constant : T (constant_fits equality r.constant)

-- a place, or none
abbrev pub place_of : Option ℕ → P.Option ℕ
place_of None = P.none
place_of (Some r) = P.some r

-- what `seek` finds, for each list of taken places that the flags show
pub record Seeking (e : Division) (ds : List Division) (n : ℕ) (flags : List Bool) (r : Option ℕ) : Type 0 where
  pub found : (taken : List ℕ) → ((i : ℕ) → i < n → get_or flags i false ≡ any (eqb i) taken) → seek e taken 0 ds ≡ place_of r
  pub within : IfSome r (λ i. i < n)

pub record Joining (ds es : List Division) (m : ℕ) (r : Option Joined) : Type 0 where
  pub fits : is_some r ≡ leb (length (join ds es).all) most_divisions
  pub few : IfSome r (λ j. j.divs ≤ most_divisions)
  pub all : IfSome r (λ j. map division_of (take j.divs j.divisions) ≡ (join ds es).all)
  pub places : IfSome r (λ j. take m j.places ≡ (join ds es).places)

-- places that a join within 8 divisions gives
pub record Placed (is : List ℕ) : Type 0 where
  pub ds : List Division
  pub es : List Division
  pub places : is ≡ (join ds es).places
  pub few : length (join ds es).all ≤ most_divisions

-- ---- tightened rules

-- the common divisor of a number and a list, the list's last number first
abbrev pub common_from : ℕ → List ℤ → ℕ
common_from g [] = g
common_from g (x ∷ xs) = gcd (nat_abs x) (common_from g xs)

-- 1 or −1
abbrev pub is_unit : ℤ → Bool
is_unit z = eqb (nat_abs z) 1

abbrev pub down_by : ℕ → ℤ → ℤ
down_by g z = floor_div z g

pub record Content (a d : List ℤ) (r : ℕ) : Type 0 where
  pub is : r ≡ common_divisor (a ++ d)
  pub few : r ≤ 32768

-- as it is where it is void, else tightened
abbrev pub reduced_of : Constraint → Constraint
reduced_of r = cond (void r) r (tight r)

pub record Reduces (r : Constraint) (d : Option StoredConstraint) : Type 0 where
  pub void : is_none d ≡ void r
  pub rule : IfSome d (λ t. constraint_of t ≡ tight r)

-- a rule as it joins working rules: void or tight, and v says which
pub record Settled (r : Constraint) (v : Bool) : Type 0 where
  pub void : v ≡ void r
  pub tight : v ≡ false → tight r ≡ r

-- b tightened; none where one of its rules is void
pub record Tightens (b : Stored) (t : Option Stored) : Type 0 where
  pub void : is_none t ≡ any void (basic_set_of b).constraints
  pub is : IfSome t (λ w. basic_set_of w ≡ tightened (basic_set_of b))
  pub divs : IfSome t (λ w. w.divs ≡ b.divs)
  pub cons : IfSome t (λ w. w.cons ≡ b.cons)
