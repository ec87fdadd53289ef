-- What the functions of candidates ask and give.
use Rattle.std.specs.Prelude.{◌≡◌, Bool, true, false, ◌&&◌, cond, List, [], ◌∷◌, ◌++◌, ℕ, ◌+◌, ◌*◌, ◌≤◌, ◌<◌, eqb, ℤ, pos, length, take, Option, IfSome}
use Rattle.model.specs.Limits.{most_divisions, most_constraints}
use Rattle.model.specs.Sets.{Kind, equality, inequality, Constraint, BasicSet, conditions}
use Rattle.model.specs.Values.{constraint_of, basic_set_of}
use Rattle.model.specs.declared.Constraint.{Constraint as StoredConstraint}
use Rattle.model.specs.declared.BasicSet.{BasicSet as Stored}
use Rattle.algebra.specs.Tighten.{void, tight}
use Rattle.algebra.specs.Cut.{above, below, keeps}
use Rattle.joining.specs.Joining.{Below, Above, Settled}
use Rattle.sharing.specs.declared.history.Standing.{Standing}
use Rattle.sharing.specs.Working.{Stands}
use Rattle.candidates.specs.declared.survivors.Survivors.{Survivors}

-- a constraint that no list has
abbrev pub no_rule : Constraint
no_rule = record { kind = inequality; number = 0; constant = pos 0; axes = []; divisions = [] }

-- the lent tables of the test for fractions have the sizes that it needs
pub record Tables (rows : List (List ℤ)) (place kinds : List ℕ) : Type 0 where
  pub high : length rows ≡ 64
  pub long : length place ≡ 80
  pub wide : length kinds ≡ 80

-- a constraint may follow
pub record Roomy (w : Stored) : Type 0 where
  pub divs : w.divs ≤ most_divisions
  pub cons : w.cons < most_constraints

-- the first constraints of b, then r
abbrev pub with_last : BasicSet → ℕ → Constraint → BasicSet
with_last b at r = record { divisions = b.divisions; constraints = take at b.constraints ++ (r ∷ []) }

pub record Putting (w : Stored) (at : ℕ) (r : StoredConstraint) (q : Stored) : Type 0 where
  pub is : basic_set_of q ≡ with_last (basic_set_of w) at (constraint_of r)
  pub divs : q.divs ≡ w.divs
  pub cons : q.cons ≡ at + 1

abbrev pub candidate : BasicSet → Constraint → BasicSet
candidate b o = record { divisions = b.divisions; constraints = b.constraints ++ (o ∷ []) }

abbrev pub is_equality : Kind → Bool
is_equality equality = true
is_equality inequality = false

pub record Keeping (b : BasicSet) (r : Constraint) (k : Survivors) : Type 0 where
  pub above : k.above ≡ is_equality r.kind && keeps (candidate b (tight (above r)))
  pub below : k.below ≡ keeps (candidate b (tight (below r)))

-- a constraint as it joins working rules, whose opposites fit
pub record Opposed (r : StoredConstraint) : Type 0 where
  pub below : Below (constraint_of r)
  pub above : (constraint_of r).kind ≡ equality → Above (constraint_of r)
  pub settled : (v : Bool) → v ≡ void (constraint_of r) → Settled (constraint_of r) v

-- the tables hold the test of b
pub record Holds (k : ℕ) (b : BasicSet) (h : Standing) (rows : List (List ℤ)) (place kinds : List ℕ) (past : List (List ℤ)) (columns : List ℕ) : Type 0 where
  pub divs : length b.divisions ≡ k
  pub stands : Stands k (conditions b) h rows place kinds past columns

-- the shared tests judge unless one of them is wide
pub record KeptOf (k : ℕ) (r : StoredConstraint) (h : Standing) (rows : List (List ℤ)) (place kinds : List ℕ) (past : List (List ℤ)) (columns : List ℕ) (x : Option Survivors) : Type 0 where
  pub is : (b : BasicSet) → Holds k b h rows place kinds past columns → IfSome x (Keeping b (constraint_of r))

-- the tables hold the test of the first constraints of w
pub record Behind (w : Stored) (h : Standing) (rows : List (List ℤ)) (place kinds : List ℕ) (past : List (List ℤ)) (columns : List ℕ) : Type 0 where
  pub divs : w.divs ≤ most_divisions
  pub cons : w.cons ≤ most_constraints
  pub count : length (basic_set_of w).divisions ≡ w.divs
  pub size : length (conditions (basic_set_of w)) ≡ 2 * w.divs + w.cons
  pub from : 2 * w.divs ≤ h.rows
  pub upto : h.rows ≤ 2 * w.divs + w.cons
  pub stands : Stands w.divs (take h.rows (conditions (basic_set_of w))) h rows place kinds past columns

-- of all
pub record Caught (w : Stored) (h : Standing) (rows : List (List ℤ)) (place kinds : List ℕ) (past : List (List ℤ)) (columns : List ℕ) : Type 0 where
  pub count : length (basic_set_of w).divisions ≡ w.divs
  pub size : length (conditions (basic_set_of w)) ≡ 2 * w.divs + w.cons
  pub stands : Stands w.divs (conditions (basic_set_of w)) h rows place kinds past columns

-- the tables go on to the test with r where it joined and the cutter has constraints left
abbrev pub followed : Bool → ℕ → StoredConstraint → List Constraint → List Constraint
followed joins left r cs = cond joins (cond (eqb left 0) cs (cs ++ (constraint_of r ∷ []))) cs

pub record Followed (k : ℕ) (r : StoredConstraint) (joins : Bool) (left : ℕ) (h : Standing) (rows : List (List ℤ)) (place kinds : List ℕ) (past : List (List ℤ)) (columns : List ℕ)
    (x : Standing) (rows' : List (List ℤ)) (place' kinds' : List ℕ) (past' : List (List ℤ)) (columns' : List ℕ) : Type 0 where
  pub stands : (cs : List Constraint) → Stands k cs h rows place kinds past columns → Stands k (followed joins left r cs) x rows' place' kinds' past' columns'
