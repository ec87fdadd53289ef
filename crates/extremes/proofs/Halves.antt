-- Both halves on the first table of a basic set and the expression's first row: the extreme value as defined. Assumes nothing.
use mathlib.Core.Path.{◌≡◌, sym, ap, ap₂, ◌∙◌, subst}
use mathlib.Core.Bool.{Bool}
use mathlib.Core.List.{List, [], ◌∷◌, ◌++◌, map}
use mathlib.Core.Option.{Option, none, some}
use Prim.Native.Nat.{ℕ, suc, ◌+◌, ◌<◌}
use native.Mathlib.Nat.{add-zero, add-suc, suc-add, le_of_eq}
use lib.ListN.{length, get_or, replicate, length-map, length-append, length-replicate, get_or-eq_default}
use lib.IntN.{ℤ, pos}
use Rattle.integers.specs.Size.{bound}
use Rattle.model.specs.Sets as S
use Rattle.model.specs.Sets.{Kind, conditions}
use Rattle.feasibility.specs.Tableau.{Row, Tableau, sort_of, first_rows, from, pad, begin, sorts, reach, narrow}
use Rattle.feasibility.proofs.Exchange.{Shaped}
use Rattle.feasibility.proofs.Start.{length_from, start-shaped}
use Rattle.simplex.specs.Table.{start_row, kind_number}
use Rattle.simplex.proofs.Shows.{Shows}
use Rattle.simplex.proofs.Filled.{first-long}
use Rattle.optimum.specs.Value.{climbed, with_expression, extreme_by, extreme_within}
use Rattle.climbing.specs.Steps.{aim_of, halves}
use Rattle.extremes.proofs.Goals.{with_row, Goal}
use Rattle.extremes.proofs.Bridge.{halves-shown}

-- ---- the expression's row

abbrev row_from : ℕ → ℕ → S.Constraint → Row
row_from k v e = record { var = v; den = pos 1; nums = e.constant ∷ pad 8 e.axes ++ pad k e.divisions }

first-last : (k v : ℕ) (cs : List S.Constraint) (e : S.Constraint) → first_rows k v (cs ++ (e ∷ [])) ≡ first_rows k v cs ++ (row_from k (v + length cs) e ∷ [])
first-last k v [] e = ap (λ (n : ℕ). row_from k n e ∷ []) (sym (add-zero v))
first-last k v (c ∷ cs) e =
    ap (λ (l : List Row). row_from k v c ∷ l)
    (first-last k (suc v) cs e ∙ ap (λ (n : ℕ). first_rows k (suc v) cs ++ (row_from k n e ∷ [])) (suc-add v (length cs) ∙ sym (add-suc v (length cs))))

free-last : (m : ℕ) (cs : List S.Constraint) → sort_of m cs (m + length cs) ≡ none
free-last m cs = get_or-eq_default (replicate m none ++ kinds) none (le_of_eq long)
  where
    kinds : List (Option Kind)
    kinds = map (λ (r : S.Constraint). some r.kind) cs

    long : length (replicate m none ++ kinds) ≡ m + length cs
    long = length-append (replicate m none) kinds ∙ ap₂ ◌+◌ (length-replicate m none) (length-map cs (λ (r : S.Constraint). some r.kind))

first-goal : (k : ℕ) (sort : ℕ → Option Kind) (v : ℕ) (e : S.Constraint) (goal : List ℤ) → sort v ≡ none → goal ≡ start_row k e → Goal k sort (row_from k v e) goal
unfolding start_row
first-goal k sort v e goal f q =
    record { shape = (subst (λ (n : ℕ). Shaped n (first_rows k v (e ∷ []))) (length_from 0 (8 + k)) (start-shaped k v (e ∷ []))).0; free = f; goal_is = q }

-- ---- of a basic set

-- a table that shows its first tableau
pub halves-is : (W : ℕ) (B : S.BasicSet) (e : S.Constraint) (greatest : Bool) (k : ℕ) (rows : List (List ℤ)) (goal : List ℤ) (place kinds : List ℕ)
    → length B.divisions ≡ k → Shows k rows place (begin B) → ((v : ℕ) → v < length place → get_or kinds v 0 ≡ kind_number (sorts B v)) → goal ≡ start_row k e
    → halves (bound W) kinds greatest rows goal place ≡ extreme_within W (aim_of greatest) B e
unfolding extreme_by
halves-is W B e greatest k rows goal place kinds len s ks q =
    halves-shown k (sorts B) kinds (bound W) greatest (begin B) g rows goal place s ks
    (first-goal k (sorts B) v e goal (free-last (8 + length B.divisions) (conditions B)) q)
    ∙ ap₂ (λ (n : ℕ) (t : Tableau). climbed (narrow (bound W)) (sorts B) (aim_of greatest) n (reach (narrow (bound W)) (sorts B) 200 t)) long with-last
  where
    v : ℕ
    v = 8 + length B.divisions + length (conditions B)

    g : Row
    g = row_from k v e

    long : length (begin B).rows ≡ length (conditions B)
    long = first-long (length B.divisions) (8 + length B.divisions) (conditions B)

    with-last : with_row (begin B) g ≡ with_expression B e
    with-last =
        ap (λ (n : ℕ). with_row (begin B) (row_from n v e)) (sym len)
        ∙ ap (λ (l : List Row). record { cols = from 0 (8 + length B.divisions); rows = l }) (sym (first-last (length B.divisions) (8 + length B.divisions) (conditions B) e))
