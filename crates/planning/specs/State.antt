-- A state (document 02, request 8): "one working basic set with its tableau, started from n and divisions, .. and tested, to which rules are added
-- singly, as given; after each addition the test goes on from the tableau reached, with 200 pivots for that addition, and the state says point,
-- empty, wide or long". Empty is `dropped`.
use Rattle.std.specs.Prelude.{Bool, ◌&&◌, cond, List, [], ◌∷◌, ◌++◌, map, ℕ, zero, suc, ◌+◌, ltb, length, get_or, replicate}
use Rattle.std.proofs.Math.Option.{Option, none, some}
use Rattle.model.specs.Limits.{most_axes, most_constraints, most_pivots}
use Rattle.model.specs.Refusals.{out_of_range, not_absent, over_limit}
use Rattle.model.specs.Lists.{all}
use Rattle.model.specs.Sets.{Kind, Division, Constraint, BasicSet, absent, conditions}
use Rattle.codec.specs.Bytes.{Answer, refused, gives, division, coefficient, constant_fits, first_failing, refusal, axes_fit}
use Rattle.feasibility.specs.Tableau.{Verdict, point, dropped, long, wide, Tableau, narrow, bound, Ending, reach, carried, from, ends_at, test_ends}
use Rattle.planning.specs.Draft.{Draft, drafted, settled, settled_on}

pub record State : Type 0 where
  pub axes : ℕ
  pub divisions : ℕ
  -- how many, those that only count too
  pub rules : ℕ
  -- of the tableau's variables by number; none for a free one
  pub kinds : List (Option Kind)
  pub tableau : Tableau
  pub says : Verdict

abbrev pub sort_by : List (Option Kind) → ℕ → Option Kind
sort_by ks v = get_or ks v none

-- ---- a start

-- the kinds of a basic set's variables: axes and divisions, then bounds and rules
abbrev pub kinds_of : BasicSet → List (Option Kind)
kinds_of b = replicate (most_axes + length b.divisions) none ++ map (λ (r : Constraint). some r.kind) (conditions b)

abbrev pub without_rules : List Division → BasicSet
without_rules ds = record { divisions = ds; constraints = [] }

abbrev pub opened : ℕ → List Division → Ending → State
opened n ds e = record { axes = n; divisions = length ds; rules = 0; kinds = kinds_of (without_rules ds); tableau = e.tableau; says = e.verdict }

-- "started from n and divisions, .. and tested"
unfoldable pub begun : ℕ → List Division → State
begun n ds = opened n ds (test_ends (without_rules ds))

-- at W bits alone
unfoldable pub begun_at : ℕ → ℕ → List Division → State
begun_at W n ds = opened n ds (ends_at W (without_rules ds))

-- ---- an addition

-- the new row's variable is the next one
abbrev pub with_row : State → Draft → Tableau
with_row s d = record { cols = s.tableau.cols; rows = s.tableau.rows ++ (record { var = length s.kinds; den = d.den; nums = d.nums } ∷ []) }

abbrev pub with_kind : State → Constraint → List (Option Kind)
with_kind s r = s.kinds ++ (some r.kind ∷ [])

-- "rules added meanwhile count unpivoted"
abbrev pub counted : State → State
counted s = record { axes = s.axes; divisions = s.divisions; rules = suc s.rules; kinds = s.kinds; tableau = s.tableau; says = s.says }

-- the test goes on with the new row; one that is beyond the bound "is wide", and stays out of the tableau
abbrev pub grown : ((ℕ → Option Kind) → Tableau → Ending) → State → Constraint → Option Draft → State
grown test s r none = record { axes = s.axes; divisions = s.divisions; rules = suc s.rules; kinds = s.kinds; tableau = s.tableau; says = wide }
grown test s r (some d) =
    let e : Ending = test (sort_by (with_kind s r)) (with_row s d) in
    record { axes = s.axes; divisions = s.divisions; rules = suc s.rules; kinds = with_kind s r; tableau = e.tableau; says = e.verdict }

-- "Once empty, wide or long it says so until it goes back"
abbrev pub while_point : State → State → State
while_point s g = elim s.says [ point ↦ g | dropped ↦ counted s | long ↦ counted s | wide ↦ counted s ]

-- the row over the tableau reached, its axes and divisions "lowest number first", and the test, "with 200 pivots for that addition"; at W bits alone
abbrev pub row_at : ℕ → State → Constraint → Option Draft
row_at W s r = settled (bound W) s.tableau.rows (from 0 (most_axes + s.divisions)) (drafted s.divisions s.tableau r)

abbrev pub goes_on_at : ℕ → (ℕ → Option Kind) → Tableau → Ending
goes_on_at W sort t = reach (narrow (bound W)) sort most_pivots t

unfoldable pub added_at : ℕ → State → Constraint → State
added_at W s r = while_point s (grown (goes_on_at W) s r (row_at W s r))

-- as it is: at 64 bits, and what is wide there is carried over to 128
abbrev pub new_row : State → Constraint → Option Draft
new_row s r = settled_on (bound 64) (bound 128) s.tableau.rows (from 0 (most_axes + s.divisions)) (drafted s.divisions s.tableau r)

abbrev pub goes_on : (ℕ → Option Kind) → Tableau → Ending
goes_on sort t = carried (narrow (bound 128)) sort (goes_on_at 64 sort t)

unfoldable pub added : State → Constraint → State
added s r = while_point s (grown goes_on s r (new_row s r))

-- ---- the refusals, in their order; 0 is none

-- the divisions "as they come", from number i on, each with its 9, 6, 7, 8
abbrev pub divisions_refusal : ℕ → ℕ → List Division → ℕ
divisions_refusal n i [] = 0
divisions_refusal n i (e ∷ ds) =
    elim (refusal n (record { basics = 1; divisions = i; constraints = 0 }) (division e)) [ zero ↦ divisions_refusal n (suc i) ds | suc k ↦ suc k ]

abbrev pub start_refusal : ℕ → List Division → ℕ
start_refusal n ds = cond (axes_fit n) (divisions_refusal n 0 ds) 1

-- "A 49th rule is 10, after 7 and 8": over n axes and k divisions, with so many rules
abbrev pub rule_tests : ℕ → ℕ → ℕ → Constraint → List (Bool × ℕ)
rule_tests n k rules r =
    (constant_fits r.kind r.constant && (all coefficient r.axes && all coefficient r.divisions), out_of_range)
    ∷ (absent n r.axes && absent k r.divisions, not_absent)
    ∷ (ltb rules most_constraints, over_limit)
    ∷ []

abbrev pub rule_refusal : State → Constraint → ℕ
rule_refusal s r = first_failing (rule_tests s.axes s.divisions s.rules r)

abbrev pub unless : {A : Type 0} → ℕ → A → Answer A
unless zero a = gives a
unless (suc k) a = refused (suc k)

abbrev pub begins : ℕ → List Division → Answer State
begins n ds = unless (start_refusal n ds) (begun n ds)

abbrev pub adds : Constraint → State → Answer State
adds r s = unless (rule_refusal s r) (added s r)

-- at W bits alone
abbrev pub begins_at : ℕ → ℕ → List Division → Answer State
begins_at W n ds = unless (start_refusal n ds) (begun_at W n ds)

abbrev pub adds_at : ℕ → Constraint → State → Answer State
adds_at W r s = unless (rule_refusal s r) (added_at W s r)
