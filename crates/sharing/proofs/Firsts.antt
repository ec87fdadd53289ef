-- The first table of conditions: it can be run, its run is the test, and one condition more is one row more. Assumes nothing.
use mathlib.Core.Path.{◌≡◌, refl, sym, ap, ap₂, ◌∙◌}
use mathlib.Core.Bool.{cond}
use mathlib.Core.List.{List, [], ◌∷◌, ◌++◌, map, append_assoc}
use mathlib.Core.Option.{Option, none}
use Prim.Native.Nat.{ℕ, zero, suc, ◌+◌, ◌-◌, ◌≤◌}
use native.Mathlib.Omega.{arith}
use borrow.Author.Tests.{le-ltb}
use lib.Dec.{ltb}
use lib.ListN.{length, get_or, replicate, length-map, length-append, length-replicate}
use Rattle.integers.specs.Size.{bound}
use Rattle.model.specs.Sets.{Kind, Constraint, BasicSet, conditions}
use Rattle.feasibility.specs.Tableau as T
use Rattle.feasibility.specs.Tableau.{start, begin, sorts, ends_at}
use Rattle.simplex.specs.Answers.{verdict_of}
use Rattle.simplex.specs.Table.{start_row, place_at, kind_number, tabulate, Fine}
use Rattle.simplex.proofs.Columns.{tabulate-at, tabulate-length}
use Rattle.simplex.proofs.Shows.{Shows}
use Rattle.simplex.proofs.Bridge.{reach-shows}
use Rattle.simplex.proofs.Fills.{map-append}
use Rattle.simplex.proofs.Filled.{start-shows, shows-fine}
use Rattle.sharing.specs.Trace.{trace}
use Rattle.sharing.specs.Working.{kind_of, first_table, first_place, first_kinds, trace_of}
use Rattle.sharing.proofs.Going.{trace-run}

pub table-long : (k : ℕ) (cs : List Constraint) → length (first_table k cs) ≡ length cs
table-long k cs = length-map cs (start_row k)

pub place-long : (k m : ℕ) → length (first_place k m) ≡ 8 + k + m
place-long k m = tabulate-length (8 + k + m) (place_at k)

pub kinds-long : (k : ℕ) (cs : List Constraint) → length (first_kinds k cs) ≡ 8 + k + length cs
kinds-long k cs =
    length-map (replicate (8 + k) none ++ map kind_of cs) kind_number ∙ length-append (replicate (8 + k) none) (map kind_of cs)
    ∙ ap₂ ◌+◌ (length-replicate (8 + k) none) (length-map cs kind_of)

pub kind_at : (l : List (Option Kind)) (v : ℕ) → get_or (map kind_number l) v 0 ≡ kind_number (get_or l v none)
kind_at [] v = refl
kind_at (x ∷ l) zero = refl
kind_at (x ∷ l) (suc v) = kind_at l v

module _ (k : ℕ) (cs : List Constraint) (few : k ≤ 8) (room : length cs ≤ 64) where
  first-shows : Shows k (first_table k cs) (first_place k (length cs)) (start k cs)
  first-shows =
      start-shows k cs few (length cs) refl room (first_place k (length cs)) (place-long k (length cs)) (λ v h. tabulate-at (8 + k + length cs) (place_at k) v 0 h) (first_table k cs) refl

  pub first_fine : Fine (k + 10) (first_table k cs) (first_place k (length cs)) (first_kinds k cs)
  first_fine =
      shows-fine k (first_table k cs) (first_place k (length cs)) (first_kinds k cs) (start k cs) first-shows (kinds-long k cs ∙ sym (place-long k (length cs))) (let e = place-long k (length cs) in omega arith)

-- the answer is the test's
pub first-tests : (b : BasicSet) → length b.divisions ≤ 8 → length (conditions b) ≤ 64 → verdict_of (trace_of (length b.divisions) (conditions b)).verdict ≡ T.test_at 64 b
unfolding trace_of ends_at
first-tests b few room =
    let k : ℕ = length b.divisions in
    let cs : List Constraint = conditions b in
    ap verdict_of (trace-run (first_kinds k cs) 200 (first_table k cs) (first_place k (length cs)))
    ∙ (reach-shows k (sorts b) (first_kinds k cs) (bound 64) 200 (begin b) (first_table k cs) (first_place k (length cs)) (first-shows k cs few room) (λ v h. kind_at (replicate (8 + k) none ++ map kind_of cs) v)).verdict_is

-- ---- one condition more

tabulate-snoc : {A : Type 0} (n : ℕ) (f : ℕ → A) → tabulate (suc n) f ≡ tabulate n f ++ (f n ∷ [])
tabulate-snoc zero f = refl
tabulate-snoc (suc n) f = ap (λ l. f 0 ∷ l) (tabulate-snoc n (λ i. f (suc i)))

place-row : (k m : ℕ) → place_at k (8 + k + m) ≡ m
place-row k m =
    let v = 8 + k + m in
    ap (λ b. cond b (64 + k + v) (cond (ltb v (8 + k)) (64 + (v - 8)) (v - (8 + k)))) (le-ltb v 8 (omega arith))
    ∙ ap (λ b. cond b (64 + (v - 8)) (v - (8 + k))) (le-ltb v (8 + k) (omega arith))
    ∙ minus
  where
    minus : 8 + k + m - (8 + k) ≡ m
    minus = omega arith

pub place-snoc : (k m : ℕ) → first_place k (m + 1) ≡ first_place k m ++ (m ∷ [])
place-snoc k m =
    ap (λ n. tabulate n (place_at k)) next ∙ tabulate-snoc (8 + k + m) (place_at k) ∙ ap (λ x. first_place k m ++ (x ∷ [])) (place-row k m)
  where
    next : 8 + k + (m + 1) ≡ suc (8 + k + m)
    next = omega arith

pub kinds-snoc : (k : ℕ) (cs : List Constraint) (c : Constraint) → first_kinds k (cs ++ (c ∷ [])) ≡ first_kinds k cs ++ (kind_number (kind_of c) ∷ [])
kinds-snoc k cs c =
    ap (λ l. map kind_number (replicate (8 + k) none ++ l)) (map-append kind_of cs (c ∷ []))
    ∙ ap (map kind_number) (sym (append_assoc (replicate (8 + k) none) (map kind_of cs) (kind_of c ∷ [])))
    ∙ map-append kind_number (replicate (8 + k) none ++ map kind_of cs) (kind_of c ∷ [])

pub trace-snoc : (k : ℕ) (cs : List Constraint) (c : Constraint)
    → trace_of k (cs ++ (c ∷ [])) ≡ trace (first_kinds k cs ++ (kind_number (kind_of c) ∷ [])) 200 (first_table k cs ++ (start_row k c ∷ [])) (first_place k (length cs) ++ (length (first_table k cs) ∷ []))
unfolding trace_of
trace-snoc k cs c =
    let p : first_place k (length (cs ++ (c ∷ []))) ≡ first_place k (length cs) ++ (length (first_table k cs) ∷ []) =
    ap (first_place k) (length-append cs (c ∷ [])) ∙ place-snoc k (length cs) ∙ ap (λ n. first_place k (length cs) ++ (n ∷ [])) (sym (table-long k cs)) in
    λ i. trace (kinds-snoc k cs c i) 200 (map-append (start_row k) cs (c ∷ []) i) (p i)
