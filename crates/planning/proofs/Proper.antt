-- Every state has a complete tableau, whatever its rules are: a start makes one, an addition keeps it. So no choice of columns comes back during an
-- addition (request 14).
use mathlib.Core.Path.{◌≡◌, refl, sym, ap₂, ◌∙◌, subst}
use mathlib.Core.Bool.{Bool}
use mathlib.Core.List.{List, map}
use mathlib.Core.Option.{Option, none, some}
use Prim.Native.Nat.{ℕ, ◌+◌}
use lib.ListN.{length, replicate, length-append, length-map, length-replicate}
use Rattle.model.specs.Sets.{Kind, Division, Constraint, BasicSet, conditions}
use Rattle.feasibility.specs.Tableau.{Verdict, point, dropped, long, wide, Tableau, narrow, bound, reach, sorts, begin, ends_at}
use Rattle.termination.specs.Unlimited.{test_step, after, after_carried, SameColumns}
use Rattle.feasibility.proofs.Reached.{reach-keeps}
use Rattle.termination.proofs.Judged.{testing, no-tableau-twice-from}
use Rattle.termination.proofs.Visits.{not-twice-carried}
use Rattle.planning.specs.Draft.{Draft}
use Rattle.planning.specs.State.{State, sort_by, kinds_of, without_rules, begun, begun_at, with_row, with_kind, counted, grown, row_at, goes_on_at, added_at, new_row, added}
use Rattle.planning.proofs.Places.{Complete, complete-start, complete-on, one_more, complete-more}
use Rattle.planning.proofs.Stage.{settled_row, draft-shape}
use Rattle.planning.proofs.Carried.{begun-128, row-128, added-128}

abbrev pub Proper : State → Type 0
Proper s = Complete s.divisions (length s.kinds) s.tableau

complete-reach : (k N : ℕ) (fits : ℕ → Tableau → Bool) (sort : ℕ → Option Kind) (n : ℕ) (t : Tableau) → Complete k N t → Complete k N (reach fits sort n t).tableau
complete-reach k N fits sort n t g = reach-keeps fits sort (Complete k N) (λ i j t turn f g. complete-on k N i j t turn.pivots g) n t g

pub kinds-length : (b : BasicSet) → length (kinds_of b) ≡ 8 + length b.divisions + length (conditions b)
kinds-length b =
    length-append (replicate (8 + length b.divisions) none) (map (λ (r : Constraint). some r.kind) (conditions b))
    ∙ ap₂ ◌+◌ (length-replicate (8 + length b.divisions) none) (length-map (conditions b) (λ (r : Constraint). some r.kind))

-- ---- at W bits alone

module _ (W : ℕ) where
  begun-at : (n : ℕ) (ds : List Division) → Proper (begun_at W n ds)
  unfolding begun_at ends_at
  begun-at n ds =
      let b : BasicSet = without_rules ds in
      subst (λ (N : ℕ). Complete (length ds) N (reach (narrow (bound W)) (sorts b) 200 (begin b)).tableau) (sym (kinds-length b))
      (complete-reach (length ds) (8 + length ds + length (conditions b)) (narrow (bound W)) (sorts b) 200 (begin b) (complete-start (length ds) (conditions b)))

  module _ (s : State) (g : Proper s) (r : Constraint) where
    pub row-proper : (d : Draft) → row_at W s r ≡ some d → Complete s.divisions (length (with_kind s r)) (with_row s d)
    row-proper d q =
        subst (λ (N : ℕ). Complete s.divisions N (with_row s d)) (sym (one_more s.kinds (some r.kind)))
        (complete-more s.tableau.cols s.tableau.rows (settled_row (length s.kinds) d) s.divisions (length s.kinds) g
        (draft-shape s.divisions (length s.kinds) s.tableau g r (bound W) d q (length s.kinds)) refl)

    added-at : Proper (added_at W s r)
    unfolding added_at
    added-at = at s.says
      where
        on : (o : Option Draft) → row_at W s r ≡ o → Proper (grown (goes_on_at W) s r o)
        on none q = g
        on (some d) q = complete-reach s.divisions (length (with_kind s r)) (narrow (bound W)) (sort_by (with_kind s r)) 200 (with_row s d) (row-proper d q)

        at : (v : Verdict) → Proper (elim v as (λ (v : Verdict). State) [ point ↦ grown (goes_on_at W) s r (row_at W s r) | dropped ↦ counted s | long ↦ counted s | wide ↦ counted s ])
        at point = on (row_at W s r) refl
        at dropped = g
        at long = g
        at wide = g

-- ---- as it is

pub proper-begun : (n : ℕ) (ds : List Division) → Proper (begun n ds)
proper-begun n ds = subst Proper (sym (begun-128 n ds)) (begun-at 128 n ds)

pub proper-added : (s : State) (r : Constraint) → Proper s → Proper (added s r)
proper-added s r g = subst Proper (sym (added-128 s r)) (added-at 128 s g r)

-- "the same choice of column variables never comes back", under every step 4, and over the carry
module _ (s : State) (g : Proper s) (r : Constraint) (d : Draft) (q : new_row s r ≡ some d) where
  abbrev N : ℕ
  N = length (with_kind s r)

  abbrev sort : ℕ → Option Kind
  sort = sort_by (with_kind s r)

  complete : Complete s.divisions N (with_row s d)
  complete = row-proper 128 s g r d (sym (row-128 s r) ∙ q)

  pub no-tableau-twice-added : (fits : ℕ → Tableau → Bool) (m n : ℕ) (t u : Tableau) → after fits sort m (with_row s d) ≡ some t → after fits sort n (with_row s d) ≡ some u → SameColumns t u → m ≡ n
  no-tableau-twice-added fits m n t u = no-tableau-twice-from fits sort N m n (with_row s d) t u complete.sound complete.numbered

  pub no-tableau-twice-added-carried : (m n : ℕ) (t u : Tableau) → after_carried sort m (with_row s d) ≡ some t → after_carried sort n (with_row s d) ≡ some u → SameColumns t u → m ≡ n
  no-tableau-twice-added-carried m n t u = not-twice-carried (test_step sort) N (testing sort N) m n (with_row s d) t u (complete.sound, complete.numbered)
