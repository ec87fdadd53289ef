-- A new rule's row over the tableau reached (document 02, request 8): "each variable of nonzero coefficient that is now a row is replaced by that
-- row, one at a time, lowest number first, both rows within step 4's bound and the result reduced; beyond it is wide".
use Rattle.std.specs.Prelude.{Bool, true, false, ◌&&◌, cond, List, [], ◌∷◌, ◌++◌, map, ℕ, ◌+◌, ℤ, pos, neg_ℤ, nat_abs, ◌*ℤ◌, leb, eqb, set, get_or}
use Rattle.std.proofs.Math.Option.{Option, none, some}
use Rattle.model.specs.Limits.{most_axes}
use Rattle.model.specs.Lists.{all}
use Rattle.model.specs.Sets.{Constraint, is_zero, floor_div}
use Rattle.feasibility.specs.Tableau.{Row, Tableau, combine, common_divisor, no_row, pad, from}
use Rattle.termination.specs.Unlimited.{in_cols}

-- a row on its way: over the columns, and over the axes and divisions by number, of which those that are rows wait to be replaced
pub record Draft : Type 0 where
  pub den : ℤ
  pub nums : List ℤ
  pub waiting : List ℤ

-- a rule's coefficients by variable: 8 axes, k divisions, then 0
abbrev pub coefficient_of : ℕ → Constraint → ℕ → ℤ
coefficient_of k r v = get_or (pad most_axes r.axes ++ pad k r.divisions) v (pos 0)

-- the coefficients of columns stand in their columns, the others wait
abbrev pub drafted : ℕ → Tableau → Constraint → Draft
drafted k t r =
    record {
      den = pos 1;
      nums = r.constant ∷ map (coefficient_of k r) t.cols;
      waiting = map (λ (v : ℕ). cond (in_cols t v) (pos 0) (coefficient_of k r v)) (from 0 (most_axes + k));
    }

-- ---- one replacement

-- those that wait too
abbrev pub numbers_of : Draft → List ℤ
numbers_of d = d.den ∷ d.nums ++ d.waiting

abbrev pub divided_by : ℕ → Draft → Draft
divided_by g d = record { den = floor_div d.den g; nums = map (λ (z : ℤ). floor_div z g) d.nums; waiting = map (λ (z : ℤ). floor_div z g) d.waiting }

-- "the result reduced"
abbrev pub lowest_terms : Draft → Draft
lowest_terms d = divided_by (common_divisor (numbers_of d)) d

-- a·v, that waits, is a · (row r of v) / (its denominator)
abbrev pub put_in : ℕ → Row → Draft → Draft
put_in v r d =
    record {
      den = r.den *ℤ d.den;
      nums = combine r.den (neg_ℤ (get_or d.waiting v (pos 0))) d.nums r.nums;
      waiting = set (map (λ (z : ℤ). r.den *ℤ z) d.waiting) v (pos 0);
    }

abbrev pub substituted : ℕ → Row → Draft → Draft
substituted v r d = lowest_terms (put_in v r d)

-- ---- all of them

-- the row of variable v
abbrev pub row_for : List Row → ℕ → Row
row_for [] v = no_row
row_for (r ∷ rs) v = cond (eqb r.var v) r (row_for rs v)

abbrev pub numbers_within : ℕ → List ℤ → Bool
numbers_within m zs = all (λ (z : ℤ). leb (nat_abs z) m) zs

-- "both rows within step 4's bound", m
abbrev pub both_within : ℕ → Draft → Row → Bool
both_within m d r = numbers_within m (numbers_of d) && numbers_within m (r.den ∷ r.nums)

-- the variables of a list, in its order; none: beyond the bound
unfoldable pub settled : ℕ → List Row → List ℕ → Draft → Option Draft
settled m rows [] d = some d
settled m rows (v ∷ vs) d =
    elim (is_zero (get_or d.waiting v (pos 0))) [
      | true ↦ settled m rows vs d
      | false ↦ elim (both_within m d (row_for rows v)) [ false ↦ none | true ↦ settled m rows vs (substituted v (row_for rows v) d) ]
    ]

-- request 9: "the same carry, for a new rule's row too": what is beyond the first bound goes on, with that very variable, under the second
unfoldable pub settled_on : ℕ → ℕ → List Row → List ℕ → Draft → Option Draft
settled_on m m' rows [] d = some d
settled_on m m' rows (v ∷ vs) d =
    elim (is_zero (get_or d.waiting v (pos 0))) [
      | true ↦ settled_on m m' rows vs d
      | false ↦ elim (both_within m d (row_for rows v)) [ false ↦ settled m' rows (v ∷ vs) d | true ↦ settled_on m m' rows vs (substituted v (row_for rows v) d) ]
    ]
