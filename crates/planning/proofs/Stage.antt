-- A new rule's row over a complete tableau: it is settled with variables that are rows, and has the rule's solutions. So a state's tableau, with each
-- rule that is added, has the solutions of its constraints' first tableau.
use mathlib.Core.Path.{◌≡◌, sym, ap, ◌∙◌, subst}
use mathlib.Core.Bool.{Bool, cond}
use mathlib.Core.Logic.{◌↔◌}
use mathlib.Core.List.{List, [], ◌∷◌, ◌++◌, map}
use mathlib.Core.Option.{some}
use Prim.Native.Nat.{ℕ, zero, suc, ◌+◌, ◌<◌}
use native.Mathlib.Nat.{zero-add, add-zero, add-suc, suc-add}
use native.Mathlib.Omega.{arith}
use lib.IntN.{ℤ, pos}
use lib.ListN.{length, get_or, length-map}
use Rattle.model.specs.Sets.{Constraint}
use Rattle.feasibility.specs.Tableau.{Row, Tableau, exchange, no_row, pad, from, first_rows, start}
use Rattle.termination.specs.Unlimited.{in_cols}
use Rattle.model.proofs.Lists.{map_get}
use Rattle.model.specs.Lists.{All}
use Rattle.feasibility.proofs.Rows.{rest}
use Rattle.feasibility.proofs.Exchange.{Holds, Solves, Shape, shape_at, solves-at, Pivot, exchange-on, exchange-back}
use Rattle.feasibility.proofs.Verdicts.{row_var}
use Rattle.feasibility.proofs.Start.{length_from}
use Rattle.feasibility.proofs.Points.{from_at}
use Rattle.termination.proofs.Columns.{col-yes}
use Rattle.planning.specs.Draft.{Draft, coefficient_of, drafted, row_for, settled}
use Rattle.planning.proofs.Columns.{cols-distinct, leftover, drafted-rest}
use Rattle.planning.proofs.Settle.{Done, waits-inside, nothing-waits, Hold, Kept, Backed, settled-kept}
use Rattle.planning.proofs.Places.{Present, in-column, in-row, Complete, complete-start, complete-on, one_more, complete-more, row_for-is}

-- ---- lists by variable

get_from : (f : ℕ → ℤ) (m v : ℕ) → v < m → get_or (map f (from 0 m)) v (pos 0) ≡ f v
get_from f m v h = map_get f (from 0 m) v 0 (pos 0) (subst (λ (n : ℕ). v < n) (sym (length_from 0 m)) h) ∙ ap f (from_at 0 m v h ∙ zero-add v)

long-from : (f : ℕ → ℤ) (m : ℕ) → length (map f (from 0 m)) ≡ m
long-from f m = length-map (from 0 m) f ∙ length_from 0 m

all_from : (P : ℕ → Type 0) (v m : ℕ) → All P (from v m) → (i : ℕ) → i < m → P (v + i)
all_from P v zero a i h = absurd (none h)
  where
    none : i < 0 → ⊥
    none h = omega arith
all_from P v (suc m) a zero h = subst P (sym (add-zero v)) a.0
all_from P v (suc m) a (suc i) h = subst P (suc-add v i ∙ sym (add-suc v i)) (all_from P (suc v) m a.1 i (omega arith))

-- ---- the row of a rule

-- in the first tableau, under the number u
abbrev pub first_row : ℕ → ℕ → Constraint → Row
first_row k u r = record { var = u; den = pos 1; nums = r.constant ∷ pad 8 r.axes ++ pad k r.divisions }

-- and settled
abbrev pub settled_row : ℕ → Draft → Row
settled_row u e = record { var = u; den = e.den; nums = e.nums }

module _ (k N : ℕ) (t : Tableau) (g : Complete k N t) (r : Constraint) where
  abbrev d : Draft
  d = drafted k t r

  abbrev waits : ℕ → ℤ
  waits v = cond (in_cols t v) (pos 0) (coefficient_of k r v)

  waits-below : (v : ℕ) → ¬ Done d v → v < 8 + k
  waits-below v nz = subst (λ (n : ℕ). v < n) (long-from waits (8 + k)) (waits-inside d v nz)

  -- what waits is a row
  pub waits-row : (v : ℕ) → ¬ Done d v → (i : ℕ) × (i < length t.rows) × (row_var t i ≡ v)
  waits-row v nz = at (g.present v (less (waits-below v nz)))
    where
      less : v < 8 + k → v < N
      less h = let e = g.many in omega arith

      at : Present t v → (i : ℕ) × (i < length t.rows) × (row_var t i ≡ v)
      at (in-column j h e) =
          absurd (nz (get_from waits (8 + k) v (waits-below v nz) ∙ ap (λ (b : Bool). cond b (pos 0) (coefficient_of k r v)) (ap (in_cols t) (sym e) ∙ col-yes t j h)))
      at (in-row i h e) = (i, h, e)

  -- and its row stands there
  waits-for : (v : ℕ) (nz : ¬ Done d v) → row_for t.rows v ≡ get_or t.rows (waits-row v nz).0 no_row
  waits-for v nz = let w = waits-row v nz in ap (row_for t.rows) (sym w.2) ∙ row_for-is t g.sound.placed w.0 w.1

  backed : Backed (length t.cols) t.rows d
  backed v nz = subst (Shape (length t.cols)) (sym (waits-for v nz)) (shape_at (length t.cols) t.rows (waits-row v nz).0 (waits-row v nz).1 g.sound.shaped)

  module _ (m : ℕ) (e : Draft) (q : settled m t.rows (from 0 (8 + k)) d ≡ some e) where
    kept : Kept t.rows d e × All (Done e) (from 0 (8 + k))
    kept = settled-kept m t.rows (length t.cols) (from 0 (8 + k)) d e (record { lt = tt }) (ap suc (length-map t.cols (coefficient_of k r))) backed q

    -- its denominator is positive, with an entry for each column
    pub draft-shape : (u : ℕ) → Shape (length t.cols) (settled_row u e)
    draft-shape u = record { long = kept.0.long ∙ ap suc (length-map t.cols (coefficient_of k r)); positive = kept.0.positive }

    -- nothing waits any longer
    pub draft-done : (v : ℕ) → v < length e.waiting → Done e v
    draft-done v h = subst (Done e) (zero-add v) (all_from (Done e) 0 (8 + k) kept.1 v (subst (λ (n : ℕ). v < n) (kept.0.waits ∙ long-from waits (8 + k)) h))

    module _ (u : ℕ) (w : ℕ → ℤ) (D : ℤ) (h : Solves w D t.cols t.rows) where
      abbrev X : List ℤ
      X = D ∷ map w t.cols

      abbrev F : List ℤ
      F = map w (from 0 (8 + k))

      rows-hold : Hold t.rows d X F
      rows-hold v nz =
          let s = waits-row v nz in
          ap (λ (y : ℤ). rest (row_for t.rows v).den (row_for t.rows v).nums y X) (get_from w (8 + k) v (waits-below v nz) ∙ ap w (sym s.2))
          ∙ ap (λ (q : Row). rest q.den q.nums (w (row_var t s.0)) X) (waits-for v nz)
          ∙ solves-at w D t.cols t.rows s.0 s.1 h

      F-long : length F ≡ length d.waiting
      F-long = long-from w (8 + k) ∙ sym (long-from waits (8 + k))

      none-waits : leftover X F (w u) e ≡ rest e.den e.nums (w u) X
      none-waits = nothing-waits X F (w u) e draft-done

      first-left : leftover X F (w u) d ≡ rest (pos 1) (first_row k u r).nums (w u) (D ∷ F)
      first-left = drafted-rest w D (w u) k t r (cols-distinct t g.sound.placed)

      -- a solution of the tableau's rows that gives the rule's value to the new variable solves the settled row, and back
      pub draft-solves : Holds w D (from 0 (8 + k)) (first_row k u r) ↔ Holds w D t.cols (settled_row u e)
      draft-solves = (
        (λ a. sym none-waits ∙ kept.0.on X F (w u) F-long rows-hold (first-left ∙ a)),
        (λ a. sym first-left ∙ kept.0.back X F (w u) F-long rows-hold (none-waits ∙ a)),
      )

-- ---- the tableaus of constraints over 8 axes and k divisions

pub record Stage (k : ℕ) (cs : List Constraint) (t : Tableau) : Type 0 where
  pub complete : Complete k (8 + k + length cs) t
  pub same : (w : ℕ → ℤ) (D : ℤ) → Solves w D (from 0 (8 + k)) (first_rows k (8 + k) cs) ↔ Solves w D t.cols t.rows

pub stage-start : (k : ℕ) (cs : List Constraint) → Stage k cs (start k cs)
stage-start k cs = record { complete = complete-start k cs; same = λ w D. (λ h. h, λ h. h) }

pub stage-on : (k : ℕ) (cs : List Constraint) (i j : ℕ) (t : Tableau) → Pivot i j t → Stage k cs t → Stage k cs (exchange i j t)
stage-on k cs i j t p g =
    record {
      complete = complete-on k (8 + k + length cs) i j t p g.complete;
      same = λ w D. (λ h. exchange-on i j t p g.complete.sound.shaped w D ((g.same w D).0 h), λ h. (g.same w D).1 (exchange-back i j t p g.complete.sound.shaped w D h));
    }

-- one constraint more is one row more
more_rows : (k v : ℕ) (cs : List Constraint) (r : Constraint) → first_rows k v (cs ++ (r ∷ [])) ≡ first_rows k v cs ++ (first_row k (v + length cs) r ∷ [])
more_rows k v [] r = ap (λ (u : ℕ). first_row k u r ∷ []) (sym (add-zero v))
more_rows k v (c ∷ cs) r =
    ap (λ (l : List Row). first_row k v c ∷ l) (more_rows k (suc v) cs r ∙ ap (λ (u : ℕ). first_rows k (suc v) cs ++ (first_row k u r ∷ [])) (suc-add v (length cs) ∙ sym (add-suc v (length cs))))

solves-more : (w : ℕ → ℤ) (D : ℤ) (cols : List ℕ) (rs : List Row) (r : Row) → (Solves w D cols rs × Holds w D cols r) ↔ Solves w D cols (rs ++ (r ∷ []))
solves-more w D cols [] r = (λ h. (h.1, tt), λ h. (tt, h.0))
solves-more w D cols (s ∷ rs) r =
    let f = solves-more w D cols rs r in
    (λ h. (h.0.0, f.0 (h.0.1, h.1)), λ h. let x = f.1 h.1 in ((h.0, x.0), x.1))

-- with a rule's row, settled under any bound
pub stage-more : (k : ℕ) (cs : List Constraint) (t : Tableau) (g : Stage k cs t) (r : Constraint) (m u : ℕ) (e : Draft) → u ≡ 8 + k + length cs → settled m t.rows (from 0 (8 + k)) (drafted k t r) ≡ some e
    → Stage k (cs ++ (r ∷ [])) (record { cols = t.cols; rows = t.rows ++ (settled_row u e ∷ []) })
stage-more k cs t g r m u e p q =
    record {
      complete = subst (λ (n : ℕ). Complete k n is) (sym count) (complete-more t.cols t.rows new k N g.complete (draft-shape k N t g.complete r m e q u) p);
      same = λ w D. (
        (λ h.
            let x = (solves-more w D (from 0 (8 + k)) (first_rows k (8 + k) cs) (first_row k N r)).1 (subst (Solves w D (from 0 (8 + k))) (more_rows k (8 + k) cs r) h) in
            let y = (g.same w D).0 x.0 in
            (solves-more w D t.cols t.rows new).0 (y, (draft-solves k N t g.complete r m e q u w D y).0 (subst (λ (v : ℕ). Holds w D (from 0 (8 + k)) (first_row k v r)) (sym p) x.1))),
        (λ h.
            let x = (solves-more w D t.cols t.rows new).1 h in
            subst (Solves w D (from 0 (8 + k))) (sym (more_rows k (8 + k) cs r))
            ((solves-more w D (from 0 (8 + k)) (first_rows k (8 + k) cs) (first_row k N r)).0
            ((g.same w D).1 x.0, subst (λ (v : ℕ). Holds w D (from 0 (8 + k)) (first_row k v r)) p ((draft-solves k N t g.complete r m e q u w D x.0).1 x.1)))),
      );
    }
  where
    N : ℕ
    N = 8 + k + length cs

    new : Row
    new = settled_row u e

    is : Tableau
    is = record { cols = t.cols; rows = t.rows ++ (new ∷ []) }

    count : 8 + k + length (cs ++ (r ∷ [])) ≡ suc N
    count = ap (λ (n : ℕ). 8 + k + n) (one_more cs r) ∙ add-suc (8 + k) (length cs)
