-- The run of the table is the run of the tableau that it shows, under any number bound. Assumes nothing.
use mathlib.Core.Path.{◌≡◌, refl, sym, subst}
use mathlib.Core.Bool.{Bool, true, false, cond}
use mathlib.Core.List.{List}
use mathlib.Core.Option.{Option}
use Prim.Native.Nat.{ℕ, zero, suc, ◌<◌}
use native.Mathlib.Omega.{arith}
use lib.ListN.{length, get_or}
use lib.IntN.{ℤ}
use Rattle.model.specs.Sets.{Kind}
use Rattle.feasibility.specs.Tableau as T
use Rattle.feasibility.specs.Tableau.{Tableau, exchange, look, reach, pivot}
use Rattle.feasibility.proofs.Reach.{reach-calm, reach-stuck, reach-long, reach-wide, reach_step}
use Rattle.simplex.specs.declared.Verdict.{Verdict}
use Rattle.simplex.specs.declared.Verdict.TheVariants.{Point, Dropped, Long, Wide}
use Rattle.simplex.specs.declared.Move.TheVariants.{Stop, Pivot}
use Rattle.simplex.specs.Answers.{verdict_of}
use Rattle.simplex.specs.Table.{kind_number, move_at, pivot_rows, pivot_place, Ending, run_table_at}
use Rattle.feasibility.proofs.Exchange as X
use Rattle.feasibility.proofs.Verdicts.{row_var, col_var}
use Rattle.simplex.proofs.Moves.{run-stop_at, run-more_at, pivot-length}
use Rattle.simplex.proofs.Shows.{exchange-shows, Shows}
use Rattle.simplex.proofs.Choosing.{Chosen, calm, stuck, spent, turns, chosen}

-- an ending of the table's run shows one of the tableau's
pub record Ends (k : ℕ) (e : T.Ending) (o : Ending) : Type 0 where
  pub verdict_is : verdict_of o.verdict ≡ e.verdict
  pub left_is : o.left ≡ e.left
  pub shows : Shows k o.rows o.place e.tableau

module _ (k : ℕ) (sort : ℕ → Option Kind) (kinds : List ℕ) where
  abbrev pub Sorted : List ℕ → Type 0
  Sorted place = (v : ℕ) → v < length place → get_or kinds v 0 ≡ kind_number (sort v)

  module _ (b : ℕ) where
    stopped : (n : ℕ) (t : Tableau) (rows : List (List ℤ)) (place : List ℕ) (x : Verdict) → Shows k rows place t → move_at b rows place kinds n ≡ Stop x → reach (T.narrow b) sort n t ≡ record { verdict = verdict_of x; left = n; tableau = t }
        → Ends k (reach (T.narrow b) sort n t) (run_table_at b kinds n rows place)
    stopped n t rows place x s e v =
        subst (Ends k (reach (T.narrow b) sort n t)) (sym (run-stop_at b kinds n rows place x e))
        (subst (λ (y : T.Ending). Ends k y (record { verdict = x; left = n; rows = rows; place = place })) (sym v) (record { verdict_is = refl; left_is = refl; shows = s }))

    pub reach-shows : (n : ℕ) (t : Tableau) (rows : List (List ℤ)) (place : List ℕ) → Shows k rows place t → Sorted place → Ends k (reach (T.narrow b) sort n t) (run_table_at b kinds n rows place)
    reach-shows zero t rows place s ks = at (look sort t) refl (chosen k sort t rows place kinds s ks b 0)
      where
        at : (l : T.Look) → look sort t ≡ l → Chosen k sort t rows place kinds s ks b 0 l → Ends k (reach (T.narrow b) sort 0 t) (run_table_at b kinds 0 rows place)
        at _ q (calm e) = stopped 0 t rows place Point s e (reach-calm (T.narrow b) sort 0 t q)
        at _ q (stuck e) = stopped 0 t rows place Dropped s e (reach-stuck (T.narrow b) sort 0 t q)
        at _ q (spent i j z e) = stopped 0 t rows place Long s e (reach-long (T.narrow b) sort i j t q)
        at _ q (turns i j p n e) = absurd (n refl)
    reach-shows (suc n) t rows place s ks =
        at (look sort t) refl (chosen k sort t rows place kinds s ks b (suc n))
        (λ i j p. reach-shows n (exchange i j t) (pivot_rows rows place (row_var t i) (col_var t j)) (pivot_place place (row_var t i) (col_var t j)) (exchange-shows k i j t p rows place s) (λ v h. ks v (subst (λ m. v < m) (pivot-length place (row_var t i) (col_var t j)) h)))
      where
        on : (i j : ℕ) → look sort t ≡ pivot i j → (c : Bool) → T.narrow b j t ≡ c → cond c (Pivot (row_var t i) (col_var t j)) (Stop Wide) ≡ move_at b rows place kinds (suc n)
            → Ends k (reach (T.narrow b) sort n (exchange i j t)) (run_table_at b kinds n (pivot_rows rows place (row_var t i) (col_var t j)) (pivot_place place (row_var t i) (col_var t j)))
            → Ends k (reach (T.narrow b) sort (suc n) t) (run_table_at b kinds (suc n) rows place)
        on i j q false z e ih = stopped (suc n) t rows place Wide s (sym e) (reach-wide (T.narrow b) sort n i j t q z)
        on i j q true z e ih =
            subst (Ends k (reach (T.narrow b) sort (suc n) t)) (run-more_at b kinds n rows place (row_var t i) (col_var t j) (sym e))
            (subst (λ (y : T.Ending). Ends k y (run_table_at b kinds n (pivot_rows rows place (row_var t i) (col_var t j)) (pivot_place place (row_var t i) (col_var t j)))) (sym (reach_step (T.narrow b) sort n i j t q z)) ih)

        at : (l : T.Look) → look sort t ≡ l → Chosen k sort t rows place kinds s ks b (suc n) l
            → ((i j : ℕ) → X.Pivot i j t → Ends k (reach (T.narrow b) sort n (exchange i j t)) (run_table_at b kinds n (pivot_rows rows place (row_var t i) (col_var t j)) (pivot_place place (row_var t i) (col_var t j))))
            → Ends k (reach (T.narrow b) sort (suc n) t) (run_table_at b kinds (suc n) rows place)
        at _ q (calm e) ih = stopped (suc n) t rows place Point s e (reach-calm (T.narrow b) sort (suc n) t q)
        at _ q (stuck e) ih = stopped (suc n) t rows place Dropped s e (reach-stuck (T.narrow b) sort (suc n) t q)
        at _ q (spent i j z e) ih = absurd (clash z)
          where
            clash : suc n ≡ 0 → ⊥
            clash z = omega arith
        at _ q (turns i j p m e) ih = on i j q (T.narrow b j t) refl e (ih i j p)
