-- What the functions that cut ask and give.
use Rattle.std.specs.Prelude.{◌≡◌, Bool, cond, List, [], ◌∷◌, ◌++◌, map, ℕ, ◌+◌, ◌/◌, ◌%◌, ◌≤◌, ◌<◌, eqb, ℤ, length, take, get_or, Option, is_some, IfSome}
use Rattle.model.specs.Limits.{most_divisions, most_constraints, most_pivots}
use Rattle.model.specs.Sets.{equality, Constraint, BasicSet}
use Rattle.model.specs.Values.{constraint_of, basic_set_of}
use Rattle.model.specs.declared.Constraint.{Constraint as StoredConstraint}
use Rattle.model.specs.declared.BasicSet.{BasicSet as Stored}
use Rattle.model.specs.Lists.{All}
use Rattle.codec.specs.Valid.{ValidConstraint, Valid}
use Rattle.algebra.specs.Tighten.{tight}
use Rattle.algebra.specs.Cut.{above, below, keeps, cut_tight, cut, cut_tight_fits, cut_fits, both, both_fits}
use Rattle.records.specs.Sound.{Sound}
use Rattle.candidates.specs.declared.survivors.Survivors.{Survivors}
use Rattle.candidates.specs.Candidates.{with_last, no_rule}
use Rattle.cutting.specs.declared.pieces.CutSteps.{CutSteps}

-- the lent tables that only a cut needs: the kept pivots, and a tableau for a candidate
pub record Spares (past spare : List (List ℤ)) : Type 0 where
  pub many : length past ≡ most_pivots
  pub high : length spare ≡ 64

-- with a constraint that may follow
pub record Extending (w : Stored) (r : StoredConstraint) : Type 0 where
  pub n : ℕ
  pub valid : Valid n (basic_set_of w)
  pub new : ValidConstraint n (length (basic_set_of w).divisions) (constraint_of r)
  pub divs : w.divs ≤ most_divisions
  pub cons : w.cons < most_constraints

-- the piece of step v
abbrev pub piece_of : BasicSet → ℕ → BasicSet
piece_of b v = with_last b (v / 2) (cond (eqb (v % 2) 1) (tight (above (get_or b.constraints (v / 2) no_rule))) (tight (below (get_or b.constraints (v / 2) no_rule))))

-- a step within the working constraints, odd only at an equality
pub record Step (w : List Constraint) (v : ℕ) : Type 0 where
  pub inside : v / 2 < length w
  pub equal : v % 2 ≡ 1 → (get_or w (v / 2) no_rule).kind ≡ equality

-- the steps of a constraint at place `at`
abbrev pub steps_at : ℕ → Bool → Bool → List ℕ
steps_at at a b = cond a ((at + at + 1) ∷ []) [] ++ cond b ((at + at + 0) ∷ []) []

-- the steps of the kept candidates of a constraint at place `at`, behind the first n
pub record Marked (n at : ℕ) (k : Survivors) (steps : List ℕ) (m : ℕ) (steps' : List ℕ) : Type 0 where
  pub steps_are : take m steps' ≡ take n steps ++ steps_at at k.above k.below
  pub count : m ≡ n + (cond k.above 1 0 + cond k.below 1 0)

-- two valid basic sets over the same axes
pub record Pair (a c : Stored) : Type 0 where
  pub n : ℕ
  pub first : Valid n (basic_set_of a)
  pub second : Valid n (basic_set_of c)
  pub divs : a.divs ≤ most_divisions
  pub cons : a.cons ≤ most_constraints
  pub divs' : c.divs ≤ most_divisions
  pub cons' : c.cons ≤ most_constraints

-- the pieces ps of a and c, within limits or not
pub record CutOf (within : Bool) (ps : List BasicSet) (a c : Stored) (r : Option CutSteps) : Type 0 where
  pub fits : is_some r ≡ within
  pub pieces : IfSome r (λ s. map (piece_of (basic_set_of s.working)) (take s.count s.steps) ≡ ps)
  pub steps : IfSome r (λ s. All (Step (basic_set_of s.working).constraints) (take s.count s.steps))
  pub valid : IfSome r (λ s. (n : ℕ) → Valid n (basic_set_of a) → Valid n (basic_set_of c) → Valid n (basic_set_of s.working))
  pub divs : IfSome r (λ s. s.working.divs ≤ most_divisions)
  pub cons : IfSome r (λ s. s.working.cons ≤ most_constraints)
  pub count : IfSome r (λ s. s.count ≤ 96)

-- of a tight basic set, and of any
abbrev pub CutTightIs : Stored → Stored → Option CutSteps → Type 0
CutTightIs a c r = CutOf (cut_tight_fits keeps (basic_set_of a) (basic_set_of c)) (cut_tight keeps (basic_set_of a) (basic_set_of c)) a c r

abbrev pub CutIs : Stored → Stored → Option CutSteps → Type 0
CutIs a c r = CutOf (cut_fits keeps (basic_set_of a) (basic_set_of c)) (cut keeps (basic_set_of a) (basic_set_of c)) a c r

pub record Piece (w : Stored) (v : ℕ) : Type 0 where
  pub sound : Sound w
  pub step : Step (basic_set_of w).constraints v

pub record PieceIs (w : Stored) (v : ℕ) (r : Stored) : Type 0 where
  pub is : basic_set_of r ≡ piece_of (basic_set_of w) v
  pub divs : r.divs ≡ w.divs
  pub cons : r.cons ≤ most_constraints

pub record BothIs (a c : Stored) (r : Option Stored) : Type 0 where
  pub fits : is_some r ≡ both_fits keeps (basic_set_of a) (basic_set_of c)
  pub is : IfSome r (λ b. basic_set_of b ≡ both (basic_set_of a) (basic_set_of c))
  pub divs : IfSome r (λ b. b.divs ≤ most_divisions)
  pub cons : IfSome r (λ b. b.cons ≤ most_constraints)
