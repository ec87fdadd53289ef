-- Opposites, joined divisions, and the four operations on sets (document 01, "Cutting rules"); a rule is a constraint here.
-- Whether a candidate is kept is a parameter: `keeps` of the test for fractions, or any other.
use Rattle.std.specs.Prelude.{Bool, true, false, not, ◌&&◌, cond, List, [], ◌∷◌, ◌++◌, map, ℕ, zero, suc, ◌+◌, ℤ, pos, neg_ℤ, ◌+ℤ◌, ◌-ℤ◌, leb, eqb, length, replicate}
use Rattle.std.proofs.Math.Option.{Option, none, some}
use Rattle.model.specs.Limits.{most_divisions, most_constraints, most_basic_sets}
use Rattle.model.specs.Lists.{all, any, concat_map, filter, is_nil}
use Rattle.model.specs.Sets.{Division, Kind, equality, inequality, Constraint, BasicSet, Set, is_zero}
use Rattle.algebra.specs.Tighten.{void, tight, solvable}
use Rattle.feasibility.specs.Tableau.{Verdict, point, dropped, long, wide, test}

-- ---- opposites: "The opposite of e ≥ 0 is −e − 1 ≥ 0. An equality e = 0 has two opposites, first e − 1 ≥ 0, then −e − 1 ≥ 0."
-- "Opposites and tightened rules keep their number" (document 02, request 6); so does a rule whose coefficients move.

-- e − 1 ≥ 0
abbrev pub above : Constraint → Constraint
above r = record { kind = inequality; number = r.number; constant = r.constant -ℤ pos 1; axes = r.axes; divisions = r.divisions }

-- −e − 1 ≥ 0
abbrev pub below : Constraint → Constraint
below r = record { kind = inequality; number = r.number; constant = neg_ℤ r.constant -ℤ pos 1; axes = map neg_ℤ r.axes; divisions = map neg_ℤ r.divisions }

abbrev pub opposites_at : Kind → Constraint → List Constraint
opposites_at equality r = above r ∷ below r ∷ []
opposites_at inequality r = below r ∷ []

abbrev pub opposites : Constraint → List Constraint
opposites r = opposites_at r.kind r

-- ---- joined divisions: "B's divisions are appended after A's, except that one equal in d, c and all coefficients to a division of A
-- that no earlier division of B has taken is that one (the first such). B's coefficients move accordingly."

abbrev pub sameℤ : ℤ → ℤ → Bool
sameℤ a b = is_zero (a -ℤ b)

abbrev pub same_list : List ℤ → List ℤ → Bool
same_list [] [] = true
same_list [] (b ∷ bs) = false
same_list (a ∷ us) [] = false
same_list (a ∷ us) (b ∷ bs) = sameℤ a b && same_list us bs

abbrev pub same_division : Division → Division → Bool
same_division e f = eqb e.divisor f.divisor && (sameℤ e.constant f.constant && same_list e.axes f.axes)

-- the place, counted from i, of the first division of ds that equals e and is not taken
abbrev pub seek : Division → List ℕ → ℕ → List Division → Option ℕ
seek e taken i [] = none
seek e taken i (f ∷ ds) = cond (same_division e f && not (any (eqb i) taken)) (some i) (seek e taken (suc i) ds)

-- the divisions of both, and the place of each division of B among them
pub record Joined : Type 0 where
  pub all : List Division
  pub places : List ℕ

abbrev pub placed : ℕ → Joined → Joined
placed i j = record { all = j.all; places = i ∷ j.places }

-- A's divisions ds, the places of them that are taken, what is joined so far, and the divisions of B that are left
abbrev pub join_from : List Division → List ℕ → List Division → List Division → Joined
join_from ds taken joined [] = record { all = joined; places = [] }
join_from ds taken joined (e ∷ es) =
    elim (seek e taken 0 ds) [
      | some i ↦ placed i (join_from ds (i ∷ taken) joined es)
      | none ↦ placed (length joined) (join_from ds taken (joined ++ (e ∷ [])) es)
    ]

abbrev pub join : List Division → List Division → Joined
join ds es = join_from ds [] ds es

-- c added at place i, with 0 in places that were not there
abbrev pub add_at : ℕ → ℤ → List ℤ → List ℤ
add_at zero c [] = c ∷ []
add_at zero c (z ∷ zs) = (c +ℤ z) ∷ zs
add_at (suc i) c [] = pos 0 ∷ add_at i c []
add_at (suc i) c (z ∷ zs) = z ∷ add_at i c zs

-- each of B's division coefficients at its new place, of 8
abbrev pub move : List ℕ → List ℤ → List ℤ
move [] cs = replicate most_divisions (pos 0)
move (i ∷ is) [] = replicate most_divisions (pos 0)
move (i ∷ is) (c ∷ cs) = add_at i c (move is cs)

abbrev pub move_constraint : List ℕ → Constraint → Constraint
move_constraint is r = record { kind = r.kind; number = r.number; constant = r.constant; axes = r.axes; divisions = move is r.divisions }

-- ---- the operations, with no limits

-- "first set's basic sets, then the second's, untested"
abbrev pub union : Set → Set → Set
union s t = s ++ t

-- the divisions of the joined pair, and B's constraints moved
abbrev pub joined_divisions : BasicSet → BasicSet → List Division
joined_divisions a b = (join a.divisions b.divisions).all

abbrev pub moved_constraints : BasicSet → BasicSet → List Constraint
moved_constraints a b = map (move_constraint (join a.divisions b.divisions).places) b.constraints

-- "divisions joined, rules of the first then of the second"
abbrev pub both : BasicSet → BasicSet → BasicSet
both a b = record { divisions = joined_divisions a b; constraints = a.constraints ++ moved_constraints a b }

-- "or, joining working rules, it ends the cut with the pieces so far": r joins where it has kept candidates k
abbrev pub ends : List BasicSet → Constraint → Bool
ends k r = not (is_nil k) && void r

module _ (keep : BasicSet → Bool) where
  -- the kept candidates of one constraint's opposites os: "working rules, then the opposite", tightened as it joins, over divisions ds
  abbrev pub kept : List Division → List Constraint → List Constraint → List BasicSet
  kept ds w os = filter keep (map (λ (o : Constraint). record { divisions = ds; constraints = w ++ (tight o ∷ []) }) os)

  -- "for each rule of the cutter in order, each opposite gives a candidate ..; then the rule joins the working rules unless all its
  -- candidates were dropped. The pieces are the kept candidates in order." w: the working constraints, tight, then those of the cutter
  -- left; what joins is tightened
  abbrev pub cut_by : List Division → List Constraint → List Constraint → List BasicSet
  cut_by ds w [] = []
  cut_by ds w (r ∷ rs) =
      let k : List BasicSet = kept ds w (opposites r) in
      k ++ cond (ends k r) [] (cut_by ds (cond (is_nil k) w (w ++ (tight r ∷ []))) rs)

  -- one cut of a tight basic set: the pieces of a that the cutter c leaves; the constraints of a are the first working ones
  unfoldable pub cut_tight : BasicSet → BasicSet → List BasicSet
  cut_tight a c = cut_by (joined_divisions a c) a.constraints (moved_constraints a c)

  -- "First sets are tightened before joining"; a piece of an earlier cutter is tight already (proofs/Closed `pieces-tight`)
  unfoldable pub cut : BasicSet → BasicSet → List BasicSet
  cut a c = concat_map (λ (p : BasicSet). cut_tight p c) (solvable a)

  -- each piece is cut by the remaining cutters in turn; no cutters: the basic set stays as it is
  unfoldable pub cut_all : List BasicSet → BasicSet → List BasicSet
  cut_all [] a = a ∷ []
  cut_all (c ∷ cs) a = concat_map (cut_all cs) (cut a c)

  unfoldable pub difference : Set → Set → Set
  difference s t = concat_map (cut_all t) s

  -- "for each basic set of the first, each of the second: divisions joined, rules of the first then of the second. Each candidate is
  -- tested"; the first's rules are tightened before joining, the second's after
  unfoldable pub intersection : Set → Set → Set
  intersection s t = filter keep (concat_map (λ (a : BasicSet). concat_map (λ (b : BasicSet). solvable (both a b)) t) (concat_map solvable s))

  -- "the difference of the rule-less basic set and the set"
  unfoldable pub complement : Set → Set
  complement s = difference (record { divisions = []; constraints = [] } ∷ []) s

  -- ---- their limits (refusal 10): "a join over 8 divisions, a candidate over 48 rules, or a 33rd basic set in the result (pieces
  -- between two cutters don't count)". A candidate counts whether or not the test would drop it

  abbrev pub join_fits : BasicSet → BasicSet → Bool
  join_fits a b = leb (length (joined_divisions a b)) most_divisions

  abbrev pub candidates_fit : List Division → List Constraint → List Constraint → Bool
  candidates_fit ds w [] = true
  candidates_fit ds w (r ∷ rs) =
      let k : List BasicSet = kept ds w (opposites r) in
      leb (length w + 1) most_constraints && cond (ends k r) true (candidates_fit ds (cond (is_nil k) w (w ++ (tight r ∷ []))) rs)

  abbrev pub cut_tight_fits : BasicSet → BasicSet → Bool
  cut_tight_fits a c = join_fits a c && candidates_fit (joined_divisions a c) a.constraints (moved_constraints a c)

  -- "First sets are tightened before joining, the rest after 10's join and candidate limits": a void first basic set is over no limit
  abbrev pub cut_fits : BasicSet → BasicSet → Bool
  cut_fits a c = all (λ (p : BasicSet). cut_tight_fits p c) (solvable a)

  abbrev pub cut_all_fits : List BasicSet → BasicSet → Bool
  cut_all_fits [] a = true
  cut_all_fits (c ∷ cs) a = cut_fits a c && all (cut_all_fits cs) (cut a c)

  abbrev pub size_fits : Set → Bool
  size_fits s = leb (length s) most_basic_sets

  abbrev pub union_fits : Set → Set → Bool
  union_fits s t = size_fits (union s t)

  abbrev pub difference_fits : Set → Set → Bool
  difference_fits s t = all (cut_all_fits t) s && size_fits (difference s t)

  abbrev pub both_fits : BasicSet → BasicSet → Bool
  both_fits a b = join_fits a b && leb (length a.constraints + length b.constraints) most_constraints

  abbrev pub intersection_fits : Set → Set → Bool
  intersection_fits s t = all (λ (a : BasicSet). all (both_fits a) t) (concat_map solvable s) && size_fits (intersection s t)

  abbrev pub complement_fits : Set → Bool
  complement_fits s = difference_fits (record { divisions = []; constraints = [] } ∷ []) s

-- ---- kept by the test for fractions: point, long and wide; only dropped is not

abbrev pub is_kept : Verdict → Bool
is_kept point = true
is_kept dropped = false
is_kept long = true
is_kept wide = true

abbrev pub keeps : BasicSet → Bool
keeps b = is_kept (test b)
