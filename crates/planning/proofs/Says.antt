-- What a state says (document 02, request 8): "Empty is said only when no point with fractions meets the rules and the divisions' bounds, point only
-- when one does"; of every state that its divisions and rules were added to, one by one.
use mathlib.Core.Path.{◌≡◌, refl, sym, ap, ◌∙◌, subst}
use mathlib.Core.Bool.{Bool}
use mathlib.Core.List.{List, [], ◌∷◌, ◌++◌, map, append-nil, append_assoc, map-append}
use mathlib.Core.Option.{Option, none, some}
use Prim.Native.Nat.{ℕ, suc, ◌+◌}
use lib.Dec.{T, lt→ltb}
use lib.IntN.{ℤ, pos}
use lib.ListN.{length, replicate}
use Rattle.model.specs.Lists.{all}
use Rattle.model.specs.Sets.{Kind, Division, Constraint, BasicSet, over_axes, holds, bounds, conditions}
use Rattle.feasibility.specs.Tableau.{Verdict, point, dropped, long, wide, Tableau, narrow, bound, Ending, reach, from, first_rows, sorts, run, begin, ends_at}
use Rattle.termination.specs.Unlimited.{NoPoint}
use Rattle.model.proofs.Count.{all_append, and_left}
use Rattle.feasibility.proofs.Exchange.{Solves}
use Rattle.feasibility.proofs.Verdicts.{run-dropped}
use Rattle.feasibility.proofs.Start.{start-values, start-meets, start-solves, run-empty}
use Rattle.feasibility.proofs.Points.{Solution, run-point, Witness, witness, run-witness}
use Rattle.feasibility.proofs.Reached.{reach-keeps}
use Rattle.termination.proofs.Judged.{Judging, over-some, point-there}
use Rattle.planning.specs.Draft.{Draft}
use Rattle.planning.specs.State.{State, sort_by, kinds_of, without_rules, begun, begun_at, with_row, with_kind, counted, grown, row_at, goes_on_at, added_at, added}
use Rattle.planning.proofs.Places.{one_more}
use Rattle.planning.proofs.Stage.{Stage, stage-start, stage-on, stage-more}
use Rattle.planning.proofs.Proper.{kinds-length}
use Rattle.planning.proofs.Carried.{begun-128, added-128}

abbrev pub ruled : List Division → List Constraint → BasicSet
ruled ds rs = record { divisions = ds; constraints = rs }

-- more rules, no more points
no-point-more : (ds : List Division) (rs es : List Constraint) → NoPoint (ruled ds rs) → NoPoint (ruled ds (rs ++ es))
no-point-more ds rs es f p x q t =
    let H = holds (pos p.denominator) p.x p.q in
    f p x q (and_left (all H (bounds 0 ds ++ rs)) (all H es) (subst T (all_append H (bounds 0 ds ++ rs) es) (subst (λ (l : List Constraint). T (all H l)) (sym (append_assoc (bounds 0 ds) rs es)) t)))

-- ---- a test from any tableau of a basic set's conditions

module _ (b : BasicSet) (t : Tableau) (g : Stage (length b.divisions) (conditions b) t) (fits : ℕ → Tableau → Bool) (m : ℕ) where
  abbrev k : ℕ
  k = length b.divisions

  abbrev e : Ending
  e = reach fits (sorts b) m t

  reached-stage : Stage k (conditions b) e.tableau
  reached-stage = reach-keeps fits (sorts b) (Stage k (conditions b)) (λ i j t turn f g. stage-on k (conditions b) i j t turn.pivots g) m t g

  reached-point : e.verdict ≡ point → (n : ℕ) → T (over_axes n b) → Witness n b
  reached-point q =
      let s : Solution (sorts b) t = run-point fits (sorts b) m t g.complete.sound.shaped g.complete.sound.placed q in
      witness b (record { w = s.w; D = s.D; positive = s.positive; meets = s.meets; solves = (g.same s.w s.D).1 s.solves })

  reached-empty : e.verdict ≡ dropped → NoPoint b
  reached-empty q p x_long q_long t' =
      let D : ℤ = pos p.denominator in
      let w : ℕ → ℤ = start-values D p.x p.q k x_long q_long (conditions b) [] in
      run-dropped (sorts b) w (start-meets D p.x p.q k x_long q_long (conditions b) [] t') D (record { lt = lt→ltb 0 p.denominator p.positive }) fits m t g.complete.sound.shaped
      ((g.same w D).0 (subst (λ (l : List Constraint). Solves w D (from 0 (8 + k)) (first_rows k (8 + k) l)) (append-nil (conditions b)) (start-solves D p.x p.q k x_long q_long (conditions b) [])))
      q

-- ---- what every state has

-- the rules in its tableau, and those that only count
pub record Account (ds : List Division) (rs : List Constraint) (s : State) : Type 0 where
  pub entered : List Constraint
  pub later : List Constraint
  pub together : entered ++ later ≡ rs
  pub over : s.divisions ≡ length ds
  pub counts : s.rules ≡ length rs
  pub kinds : s.kinds ≡ kinds_of (ruled ds entered)
  pub stage : Stage (length ds) (bounds 0 ds ++ entered) s.tableau
  pub no_later : s.says ≡ point → later ≡ []
  pub found : s.says ≡ point → (n : ℕ) → T (over_axes n (ruled ds entered)) → Witness n (ruled ds entered)
  pub empty : s.says ≡ dropped → NoPoint (ruled ds entered)

abbrev IsWide : Verdict → Type 0
IsWide point = ⊥
IsWide dropped = ⊥
IsWide long = ⊥
IsWide wide = Unit {0}

abbrev IsPoint : Verdict → Type 0
IsPoint point = Unit {0}
IsPoint dropped = ⊥
IsPoint long = ⊥
IsPoint wide = ⊥

module _ (W : ℕ) where
  begun-account : (n : ℕ) (ds : List Division) → Account ds [] (begun_at W n ds)
  unfolding begun_at ends_at
  begun-account n ds =
      let b : BasicSet = without_rules ds in
      let g : Stage (length ds) (conditions b) (begin b) = stage-start (length ds) (conditions b) in
      record {
        entered = [];
        later = [];
        together = refl;
        over = refl;
        counts = refl;
        kinds = refl;
        stage = reached-stage b (begin b) g (narrow (bound W)) 200;
        no_later = λ q. refl;
        found = reached-point b (begin b) g (narrow (bound W)) 200;
        empty = reached-empty b (begin b) g (narrow (bound W)) 200;
      }

  module _ (ds : List Division) (rs : List Constraint) (s : State) (r : Constraint) (h : Account ds rs s) where
    count-more : suc s.rules ≡ length (rs ++ (r ∷ []))
    count-more = ap suc h.counts ∙ sym (one_more rs r)

    -- the rule only counts, and the state says v
    later-account : (v : Verdict) → (v ≡ point → ⊥) → (v ≡ dropped → NoPoint (ruled ds h.entered))
        → Account ds (rs ++ (r ∷ [])) (record { axes = s.axes; divisions = s.divisions; rules = suc s.rules; kinds = s.kinds; tableau = s.tableau; says = v })
    later-account v n f =
        record {
          entered = h.entered;
          later = h.later ++ (r ∷ []);
          together = sym (append_assoc h.entered h.later (r ∷ [])) ∙ ap (λ (l : List Constraint). l ++ (r ∷ [])) h.together;
          over = h.over;
          counts = count-more;
          kinds = h.kinds;
          stage = h.stage;
          no_later = λ q. absurd (n q);
          found = λ q. absurd (n q);
          empty = f;
        }

    row-account : s.says ≡ point → (d : Draft) → row_at W s r ≡ some d → Account ds (rs ++ (r ∷ [])) (grown (goes_on_at W) s r (some d))
    row-account p d q =
        record {
          entered = h.entered ++ (r ∷ []);
          later = [];
          together = append-nil (h.entered ++ (r ∷ [])) ∙ ap (λ (l : List Constraint). l ++ (r ∷ [])) (sym (append-nil h.entered) ∙ ap (λ (l : List Constraint). h.entered ++ l) (sym (h.no_later p)) ∙ h.together);
          over = h.over;
          counts = count-more;
          kinds = kinds;
          stage = subst (λ (e : Ending). Stage (length ds) (conditions b) e.tableau) (sym is) (reached-stage b t g (narrow (bound W)) 200);
          no_later = λ x. refl;
          found = λ x. reached-point b t g (narrow (bound W)) 200 (sym (ap (λ (e : Ending). e.verdict) is) ∙ x);
          empty = λ x. reached-empty b t g (narrow (bound W)) 200 (sym (ap (λ (e : Ending). e.verdict) is) ∙ x);
        }
      where
        b : BasicSet
        b = ruled ds (h.entered ++ (r ∷ []))

        t : Tableau
        t = with_row s d

        g : Stage (length ds) (conditions b) t
        g =
            subst (λ (l : List Constraint). Stage (length ds) l t) (append_assoc (bounds 0 ds) h.entered (r ∷ []))
            (stage-more (length ds) (bounds 0 ds ++ h.entered) s.tableau h.stage r (bound W) (length s.kinds) d (ap length h.kinds ∙ kinds-length (ruled ds h.entered))
            (subst (λ (k : ℕ). row_at W (record { axes = s.axes; divisions = k; rules = s.rules; kinds = s.kinds; tableau = s.tableau; says = s.says }) r ≡ some d) h.over q))

        kinds : with_kind s r ≡ kinds_of b
        kinds =
            ap (λ (l : List (Option Kind)). l ++ (some r.kind ∷ [])) h.kinds
            ∙ append_assoc (replicate (8 + length ds) none) (map (λ (r : Constraint). some r.kind) (bounds 0 ds ++ h.entered)) (some r.kind ∷ [])
            ∙ ap (λ (l : List (Option Kind)). replicate (8 + length ds) none ++ l)
            (sym (map-append (λ (r : Constraint). some r.kind) (bounds 0 ds ++ h.entered) (r ∷ [])) ∙ ap (map (λ (r : Constraint). some r.kind)) (append_assoc (bounds 0 ds) h.entered (r ∷ [])))

        is : goes_on_at W (sort_by (with_kind s r)) t ≡ goes_on_at W (sorts b) t
        is = ap (λ (l : List (Option Kind)). goes_on_at W (sort_by l) t) kinds

    added-account : Account ds (rs ++ (r ∷ [])) (added_at W s r)
    unfolding added_at
    added-account = at s.says refl
      where
        not-point : {v : Verdict} → (IsPoint v → ⊥) → v ≡ point → ⊥
        not-point f q = f (subst IsPoint (sym q) tt)

        on : s.says ≡ point → (o : Option Draft) → row_at W s r ≡ o → Account ds (rs ++ (r ∷ [])) (grown (goes_on_at W) s r o)
        on p none q = later-account wide (not-point (λ x. x)) (λ q. absurd (subst IsWide q tt))
        on p (some d) q = row-account p d q

        only : {v : Verdict} → (IsPoint v → ⊥) → s.says ≡ v → Account ds (rs ++ (r ∷ [])) (counted s)
        only {v} f p = later-account s.says (λ q. not-point f (sym p ∙ q)) h.empty

        at : (v : Verdict) → s.says ≡ v → Account ds (rs ++ (r ∷ [])) (elim v as (λ (v : Verdict). State) [ point ↦ grown (goes_on_at W) s r (row_at W s r) | dropped ↦ counted s | long ↦ counted s | wide ↦ counted s ])
        at point p = on p (row_at W s r) refl
        at dropped p = only (λ x. x) p
        at long p = only (λ x. x) p
        at wide p = only (λ x. x) p

-- ---- a state of a basic set: begun from its divisions, its rules added one by one

pub data Stands : BasicSet → State → Type 0 where
  stands-begun : (n : ℕ) (ds : List Division) → Stands (ruled ds []) (begun n ds)
  stands-added : {ds : List Division} {rs : List Constraint} {s : State} → Stands (ruled ds rs) s → (r : Constraint) → Stands (ruled ds (rs ++ (r ∷ []))) (added s r)

pub account : (b : BasicSet) (s : State) → Stands b s → Account b.divisions b.constraints s
account _ _ (stands-begun n ds) = subst (Account ds []) (sym (begun-128 n ds)) (begun-account 128 n ds)
account _ _ (stands-added {ds} {rs} {s} h r) = subst (Account ds (rs ++ (r ∷ []))) (sym (added-128 s r)) (added-account 128 ds rs s r (account (ruled ds rs) s h))

module _ (b : BasicSet) (s : State) (h : Stands b s) where
  abbrev x : Account b.divisions b.constraints s
  x = account b s h

  pub empty-sound : s.says ≡ dropped → NoPoint b
  empty-sound q = subst (λ (l : List Constraint). NoPoint (ruled b.divisions l)) x.together (no-point-more b.divisions x.entered x.later (x.empty q))

  -- over n axes
  pub point-sound : s.says ≡ point → (n : ℕ) → T (over_axes n b) → Witness n b
  point-sound q =
      subst (λ (l : List Constraint). (n : ℕ) → T (over_axes n (ruled b.divisions l)) → Witness n (ruled b.divisions l))
      (sym (append-nil x.entered) ∙ ap (λ (l : List Constraint). x.entered ++ l) (sym (x.no_later q)) ∙ x.together) (x.found q)

  -- a state that judges, judges as a test of its basic set does, where that judges
  pub says-as-test : (fits : ℕ → Tableau → Bool) (m : ℕ) → Judging s.says → Judging (run fits (sorts b) m (begin b)) → s.says ≡ run fits (sorts b) m (begin b)
  says-as-test fits m j k = at s.says (run fits (sorts b) m (begin b)) refl refl j k
    where
      n : ℕ
      n = (over-some b []).0

      over : T (over_axes n b)
      over = (over-some b []).1

      at : (v u : Verdict) → s.says ≡ v → run fits (sorts b) m (begin b) ≡ u → Judging v → Judging u → v ≡ u
      at point point p q j k = refl
      at dropped dropped p q j k = refl
      at point dropped p q j k = absurd (point-there n b (point-sound p n over) (run-empty fits m b q))
      at dropped point p q j k = absurd (point-there n b (run-witness fits m n b over q) (empty-sound p))
      at long u p q j k = absurd j
      at wide u p q j k = absurd j
      at point long p q j k = absurd k
      at point wide p q j k = absurd k
      at dropped long p q j k = absurd k
      at dropped wide p q j k = absurd k
