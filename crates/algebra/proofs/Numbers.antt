-- "Opposites and tightened rules keep their number. Numbers alter neither membership nor what is dropped" (document 02, request 6):
-- what rules keep theirs; and taking all numbers away commutes with the operations and leaves their limits, for every keep that does not
-- look at numbers. The test for fractions is one.
use mathlib.Core.Path.{◌≡◌, refl, sym, ap, ap₂, ◌∙◌}
use mathlib.Core.Bool.{Bool, true, false, not, ◌&&◌, cond}
use mathlib.Core.List.{List, [], ◌∷◌, ◌++◌, map}
use Prim.Native.Nat.{ℕ, ◌+◌}
use lib.Dec.{leb}
use lib.ListN.{length, length-map}
use Rattle.model.specs.Limits.{most_constraints, most_basic_sets}
use Rattle.model.specs.Lists.{all, any, concat_map, filter, is_nil, All}
use Rattle.model.specs.Sets.{Division, Kind, equality, inequality, Constraint, BasicSet, Set}
use Rattle.model.specs.Numbers.{plain_rule, plain_basic, plain_set}
use Rattle.model.proofs.Lists.{map-append, all-through, any-through, filter-through, map-through, concat-through, nil-through}
use Rattle.feasibility.proofs.Numbers.{verdict-plain}
use Rattle.algebra.specs.Tighten.{content, divisible, void, divided_down, tight, tightened, solvable}
use Rattle.algebra.specs.Cut.{opposites_at, opposites, join, move_constraint, union, joined_divisions, moved_constraints, both, ends, kept, cut_by, cut_tight, cut, cut_all, difference, intersection, complement, join_fits, candidates_fit, cut_tight_fits, cut_fits, cut_all_fits, size_fits, union_fits, difference_fits, both_fits, intersection_fits, complement_fits, is_kept, keeps}

-- ---- rules keep their number
pub opposites-number : (r : Constraint) → All (λ (o : Constraint). o.number ≡ r.number) (opposites r)
opposites-number r = at r.kind
  where
    at : (k : Kind) → All (λ (o : Constraint). o.number ≡ r.number) (opposites_at k r)
    at equality = (refl, (refl, tt))
    at inequality = (refl, tt)

pub tight-number : (r : Constraint) → (tight r).number ≡ r.number
tight-number r = at (divisible r)
  where
    at : (x : Bool) → (cond x (divided_down (content r) r) r).number ≡ r.number
    at true = refl
    at false = refl

pub moved-number : (is : List ℕ) (r : Constraint) → (move_constraint is r).number ≡ r.number
moved-number is r = refl

-- ---- and go their way without it
opposites-plain : (r : Constraint) → opposites (plain_rule r) ≡ map plain_rule (opposites r)
opposites-plain r = at r.kind
  where
    at : (k : Kind) → opposites_at k (plain_rule r) ≡ map plain_rule (opposites_at k r)
    at equality = refl
    at inequality = refl

tight-plain : (r : Constraint) → tight (plain_rule r) ≡ plain_rule (tight r)
tight-plain r = at (divisible r)
  where
    at : (x : Bool) → cond x (divided_down (content r) (plain_rule r)) (plain_rule r) ≡ plain_rule (cond x (divided_down (content r) r) r)
    at true = refl
    at false = refl

-- a basic set tightened, or nothing
solvable-plain : (b : BasicSet) → solvable (plain_basic b) ≡ map plain_basic (solvable b)
solvable-plain b =
    ap₂ (λ (x : Bool) (rs : List Constraint). cond x [] (record { divisions = b.divisions; constraints = rs } ∷ []))
    (any-through plain_rule void void (λ r. refl) b.constraints) (map-through plain_rule plain_rule tight tight tight-plain b.constraints)
    ∙ at (any void b.constraints)
  where
    at : (x : Bool) → cond x [] (plain_basic (tightened b) ∷ []) ≡ map plain_basic (cond x [] (tightened b ∷ []))
    at true = refl
    at false = refl

moved_plain : (a b : BasicSet) → moved_constraints (plain_basic a) (plain_basic b) ≡ map plain_rule (moved_constraints a b)
moved_plain a b = let is : List ℕ = (join a.divisions b.divisions).places in map-through plain_rule plain_rule (move_constraint is) (move_constraint is) (λ r. refl) b.constraints

both-plain : (a b : BasicSet) → both (plain_basic a) (plain_basic b) ≡ plain_basic (both a b)
both-plain a b =
    ap (λ (rs : List Constraint). record { divisions = joined_divisions a b; constraints = rs })
    (ap (λ (rs : List Constraint). map plain_rule a.constraints ++ rs) (moved_plain a b) ∙ sym (map-append plain_rule a.constraints (moved_constraints a b)))

pub union-plain : (s t : Set) → union (plain_set s) (plain_set t) ≡ plain_set (union s t)
union-plain s t = sym (map-append plain_basic s t)

-- ---- the operations, with any keep that does not look at numbers
module _ (keep : BasicSet → Bool) (blind : (b : BasicSet) → keep (plain_basic b) ≡ keep b) where
  kept-plain : (ds : List Division) (w os : List Constraint) → kept keep ds (map plain_rule w) (map plain_rule os) ≡ map plain_basic (kept keep ds w os)
  kept-plain ds w os =
      ap (filter keep) (map-through plain_rule plain_basic (candidate w) (candidate (map plain_rule w)) one os)
      ∙ filter-through plain_basic keep keep blind (map (candidate w) os)
    where
      candidate : List Constraint → Constraint → BasicSet
      candidate w o = record { divisions = ds; constraints = w ++ (tight o ∷ []) }

      one : (o : Constraint) → candidate (map plain_rule w) (plain_rule o) ≡ plain_basic (candidate w o)
      one o =
          ap (λ (rs : List Constraint). record { divisions = ds; constraints = rs })
          (ap (λ (t : Constraint). map plain_rule w ++ (t ∷ [])) (tight-plain o) ∙ sym (map-append plain_rule w (tight o ∷ [])))

  -- the candidates of one rule of the cutter, whether it ends the cut, and the working rules behind it
  module _ (ds : List Division) (w : List Constraint) (r : Constraint) where
    abbrev k : List BasicSet
    k = kept keep ds w (opposites r)

    abbrev next : List Constraint
    next = cond (is_nil k) w (w ++ (tight r ∷ []))

    candidates-plain : kept keep ds (map plain_rule w) (opposites (plain_rule r)) ≡ map plain_basic k
    candidates-plain = ap (kept keep ds (map plain_rule w)) (opposites-plain r) ∙ kept-plain ds w (opposites r)

    ends-plain : ends (map plain_basic k) (plain_rule r) ≡ ends k r
    ends-plain = ap (λ (x : Bool). not x && void r) (nil-through plain_basic k)

    next-plain : cond (is_nil (map plain_basic k)) (map plain_rule w) (map plain_rule w ++ (tight (plain_rule r) ∷ [])) ≡ map plain_rule next
    next-plain = ap (λ (x : Bool). cond x (map plain_rule w) (map plain_rule w ++ (tight (plain_rule r) ∷ []))) (nil-through plain_basic k) ∙ at (is_nil k)
      where
        at : (x : Bool) → cond x (map plain_rule w) (map plain_rule w ++ (tight (plain_rule r) ∷ [])) ≡ map plain_rule (cond x w (w ++ (tight r ∷ [])))
        at true = refl
        at false = ap (λ (t : Constraint). map plain_rule w ++ (t ∷ [])) (tight-plain r) ∙ sym (map-append plain_rule w (tight r ∷ []))

  cut_by-plain : (ds : List Division) (w rs : List Constraint) → cut_by keep ds (map plain_rule w) (map plain_rule rs) ≡ map plain_basic (cut_by keep ds w rs)
  cut_by-plain ds w [] = refl
  cut_by-plain ds w (r ∷ rs) =
      ap (λ (j : List BasicSet). j ++ cond (ends j (plain_rule r)) [] (cut_by keep ds (cond (is_nil j) (map plain_rule w) (map plain_rule w ++ (tight (plain_rule r) ∷ []))) (map plain_rule rs))) (candidates-plain ds w r)
      ∙ ap₂ (λ (x : Bool) (v : List Constraint). map plain_basic (k ds w r) ++ cond x [] (cut_by keep ds v (map plain_rule rs))) (ends-plain ds w r) (next-plain ds w r)
      ∙ ap (λ (l : List BasicSet). map plain_basic (k ds w r) ++ cond (ends (k ds w r) r) [] l) (cut_by-plain ds (next ds w r) rs)
      ∙ ap (λ (l : List BasicSet). map plain_basic (k ds w r) ++ l) (at (ends (k ds w r) r)) ∙ sym (map-append plain_basic (k ds w r) (cond (ends (k ds w r) r) [] (cut_by keep ds (next ds w r) rs)))
    where
      at : (x : Bool) → cond x [] (map plain_basic (cut_by keep ds (next ds w r) rs)) ≡ map plain_basic (cond x [] (cut_by keep ds (next ds w r) rs))
      at true = refl
      at false = refl

  cut_tight-plain : (a c : BasicSet) → cut_tight keep (plain_basic a) (plain_basic c) ≡ map plain_basic (cut_tight keep a c)
  unfolding cut_tight
  cut_tight-plain a c = ap (cut_by keep (joined_divisions a c) (map plain_rule a.constraints)) (moved_plain a c) ∙ cut_by-plain (joined_divisions a c) a.constraints (moved_constraints a c)

  pub cut-plain : (a c : BasicSet) → cut keep (plain_basic a) (plain_basic c) ≡ plain_set (cut keep a c)
  unfolding cut
  cut-plain a c =
      ap (concat_map (λ (p : BasicSet). cut_tight keep p (plain_basic c))) (solvable-plain a)
      ∙ concat-through plain_basic plain_basic (λ (p : BasicSet). cut_tight keep p c) (λ (p : BasicSet). cut_tight keep p (plain_basic c)) (λ p. cut_tight-plain p c) (solvable a)

  pub cut_all-plain : (cs : Set) (a : BasicSet) → cut_all keep (plain_set cs) (plain_basic a) ≡ plain_set (cut_all keep cs a)
  unfolding cut_all
  cut_all-plain [] a = refl
  cut_all-plain (c ∷ cs) a =
      ap (concat_map (cut_all keep (plain_set cs))) (cut-plain a c) ∙ concat-through plain_basic plain_basic (cut_all keep cs) (cut_all keep (plain_set cs)) (cut_all-plain cs) (cut keep a c)

  pub difference-plain : (s t : Set) → difference keep (plain_set s) (plain_set t) ≡ plain_set (difference keep s t)
  unfolding difference
  difference-plain s t = concat-through plain_basic plain_basic (cut_all keep t) (cut_all keep (plain_set t)) (cut_all-plain t) s

  pub complement-plain : (s : Set) → complement keep (plain_set s) ≡ plain_set (complement keep s)
  unfolding complement
  complement-plain s = difference-plain (record { divisions = []; constraints = [] } ∷ []) s

  pub intersection-plain : (s t : Set) → intersection keep (plain_set s) (plain_set t) ≡ plain_set (intersection keep s t)
  unfolding intersection
  intersection-plain s t =
      ap (filter keep) (ap (concat_map (λ (a : BasicSet). pairs a (plain_set t))) (concat-through plain_basic plain_basic solvable solvable solvable-plain s)
      ∙ concat-through plain_basic plain_basic (λ (a : BasicSet). pairs a t) (λ (a : BasicSet). pairs a (plain_set t)) (λ a. pairs-plain a t) (concat_map solvable s))
      ∙ filter-through plain_basic keep keep blind (concat_map (λ (a : BasicSet). pairs a t) (concat_map solvable s))
    where
      pairs : BasicSet → Set → Set
      pairs a t = concat_map (λ (b : BasicSet). solvable (both a b)) t

      pairs-plain : (a : BasicSet) (t : Set) → pairs (plain_basic a) (plain_set t) ≡ plain_set (pairs a t)
      pairs-plain a t =
          concat-through plain_basic plain_basic (λ (b : BasicSet). solvable (both a b)) (λ (b : BasicSet). solvable (both (plain_basic a) b))
          (λ b. ap solvable (both-plain a b) ∙ solvable-plain (both a b)) t

  -- ---- and their limits: 10 comes in the same cases
  size-plain : (s : Set) → size_fits keep (plain_set s) ≡ size_fits keep s
  size-plain s = ap (λ (m : ℕ). leb m most_basic_sets) (length-map s plain_basic)

  candidates-fit-plain : (ds : List Division) (w rs : List Constraint) → candidates_fit keep ds (map plain_rule w) (map plain_rule rs) ≡ candidates_fit keep ds w rs
  candidates-fit-plain ds w [] = refl
  candidates-fit-plain ds w (r ∷ rs) =
      ap₂ (λ (m : ℕ) (j : List BasicSet). leb (m + 1) most_constraints && cond (ends j (plain_rule r)) true (candidates_fit keep ds (cond (is_nil j) (map plain_rule w) (map plain_rule w ++ (tight (plain_rule r) ∷ []))) (map plain_rule rs)))
      (length-map w plain_rule) (candidates-plain ds w r)
      ∙ ap₂ (λ (x : Bool) (v : List Constraint). leb (length w + 1) most_constraints && cond x true (candidates_fit keep ds v (map plain_rule rs))) (ends-plain ds w r) (next-plain ds w r)
      ∙ ap (λ (x : Bool). leb (length w + 1) most_constraints && cond (ends (k ds w r) r) true x) (candidates-fit-plain ds (next ds w r) rs)

  cut-tight-fits-plain : (a c : BasicSet) → cut_tight_fits keep (plain_basic a) (plain_basic c) ≡ cut_tight_fits keep a c
  cut-tight-fits-plain a c =
      ap (λ (x : Bool). join_fits keep a c && x)
      (ap (candidates_fit keep (joined_divisions a c) (map plain_rule a.constraints)) (moved_plain a c) ∙ candidates-fit-plain (joined_divisions a c) a.constraints (moved_constraints a c))

  cut-fits-plain : (a c : BasicSet) → cut_fits keep (plain_basic a) (plain_basic c) ≡ cut_fits keep a c
  cut-fits-plain a c =
      ap (all (λ (p : BasicSet). cut_tight_fits keep p (plain_basic c))) (solvable-plain a)
      ∙ all-through plain_basic (λ (p : BasicSet). cut_tight_fits keep p c) (λ (p : BasicSet). cut_tight_fits keep p (plain_basic c)) (λ p. cut-tight-fits-plain p c) (solvable a)

  cut-all-fits-plain : (cs : Set) (a : BasicSet) → cut_all_fits keep (plain_set cs) (plain_basic a) ≡ cut_all_fits keep cs a
  cut-all-fits-plain [] a = refl
  cut-all-fits-plain (c ∷ cs) a =
      ap₂ ◌&&◌ (cut-fits-plain a c)
      (ap (all (cut_all_fits keep (plain_set cs))) (cut-plain a c) ∙ all-through plain_basic (cut_all_fits keep cs) (cut_all_fits keep (plain_set cs)) (cut-all-fits-plain cs) (cut keep a c))

  pub union-fits-plain : (s t : Set) → union_fits keep (plain_set s) (plain_set t) ≡ union_fits keep s t
  union-fits-plain s t = ap (size_fits keep) (union-plain s t) ∙ size-plain (union s t)

  pub difference-fits-plain : (s t : Set) → difference_fits keep (plain_set s) (plain_set t) ≡ difference_fits keep s t
  difference-fits-plain s t =
      ap₂ ◌&&◌ (all-through plain_basic (cut_all_fits keep t) (cut_all_fits keep (plain_set t)) (cut-all-fits-plain t) s) (ap (size_fits keep) (difference-plain s t) ∙ size-plain (difference keep s t))

  pub complement-fits-plain : (s : Set) → complement_fits keep (plain_set s) ≡ complement_fits keep s
  complement-fits-plain s = difference-fits-plain (record { divisions = []; constraints = [] } ∷ []) s

  both-fits-plain : (a b : BasicSet) → both_fits keep (plain_basic a) (plain_basic b) ≡ both_fits keep a b
  both-fits-plain a b =
      ap₂ (λ (m n : ℕ). join_fits keep a b && leb (m + n) most_constraints) (length-map a.constraints plain_rule) (length-map b.constraints plain_rule)

  pub intersection-fits-plain : (s t : Set) → intersection_fits keep (plain_set s) (plain_set t) ≡ intersection_fits keep s t
  intersection-fits-plain s t =
      ap₂ ◌&&◌ (ap (all (λ (a : BasicSet). all (both_fits keep a) (plain_set t))) (concat-through plain_basic plain_basic solvable solvable solvable-plain s)
      ∙ all-through plain_basic (λ (a : BasicSet). all (both_fits keep a) t) (λ (a : BasicSet). all (both_fits keep a) (plain_set t))
      (λ a. all-through plain_basic (both_fits keep a) (both_fits keep (plain_basic a)) (both-fits-plain a) t) (concat_map solvable s))
      (ap (size_fits keep) (intersection-plain s t) ∙ size-plain (intersection keep s t))

-- ---- with the test for fractions, as the calls have it
pub keeps-plain : (b : BasicSet) → keeps (plain_basic b) ≡ keeps b
keeps-plain b = ap is_kept (verdict-plain b)

-- without numbers a result has the same basic sets in the same order, and 10 comes in the same cases
pub union-numbers : (s t : Set) → (union (plain_set s) (plain_set t) ≡ plain_set (union s t)) × (union_fits keeps (plain_set s) (plain_set t) ≡ union_fits keeps s t)
union-numbers s t = (union-plain s t, union-fits-plain keeps keeps-plain s t)

pub intersection-numbers : (s t : Set) → (intersection keeps (plain_set s) (plain_set t) ≡ plain_set (intersection keeps s t)) × (intersection_fits keeps (plain_set s) (plain_set t) ≡ intersection_fits keeps s t)
intersection-numbers s t = (intersection-plain keeps keeps-plain s t, intersection-fits-plain keeps keeps-plain s t)

pub difference-numbers : (s t : Set) → (difference keeps (plain_set s) (plain_set t) ≡ plain_set (difference keeps s t)) × (difference_fits keeps (plain_set s) (plain_set t) ≡ difference_fits keeps s t)
difference-numbers s t = (difference-plain keeps keeps-plain s t, difference-fits-plain keeps keeps-plain s t)

pub complement-numbers : (s : Set) → (complement keeps (plain_set s) ≡ plain_set (complement keeps s)) × (complement_fits keeps (plain_set s) ≡ complement_fits keeps s)
complement-numbers s = (complement-plain keeps keeps-plain s, complement-fits-plain keeps keeps-plain s)
